use Rattle.std.proofs.Common.{◌≡◌, ◌⊎◌, List, ap, subst, arith, ◌∙◌}
use Rattle.std.proofs.lemmas.Result.{err_from_is_err_and}
use Rattle.maildir.specs.declared.folder.FileName.{FileName}
use Rattle.near_box.specs.NearEffects.{Admitting, set_aside_all}
use Rattle.near_box.proofs.AdmitLemmas.{admitting, entries_so_far, renamed_so_far}
use Rattle.near_box.proofs.near_box.NearBox.give_uids.Goals as goal

pub returns-in_err-give_uid-clause-effect : goal.returns-in_err-give_uid-clause-effect
returns-in_err-give_uid-clause-effect g c = λ honest.
    let e = err_from_is_err_and c.from_residual-in_err-give_uid.result c.from_residual-in_err-give_uid.ensures.1 in
    let s = (g.F.Folder.seen c.args.self.now.folder).stored in
    let after = (g.F.Folder.seen c.give_uid.new.self.folder).stored in
    let one = admitting c.deref-file-items.result.now c.args.self.now.survey.meta s (g.F.Folder.seen c.loop-file.self.folder).stored after c.loop-file.file-index c.loop-file.number c.file-item.result (omega arith) c.file-item.is c.loop-file.invariant.number (c.loop-file.invariant.admitted (c.give_uid.ensures.was_honest honest)) (c.in_err-give_uid.ensures.effect honest) in
    rw (e.1) (subst (λ (w : List FileName). (after ≡ s) ⊎ Admitting w c.args.self.now.survey.meta s after) c.loop-file.invariant.items one)

pub loop-file-preserved : goal.loop-file-preserved
loop-file-preserved g c =
    let so_far = c.loop-file.invariant in
    let files = c.deref-file-items.result.now in
    let i = c.loop-file.file-index in
    let n = c.loop-file.number in
    let file = c.file-item.result in
    let box = c.args.self.now in
    record {
      items = so_far.items;
      begun = c.give_uid.ensures.failed.0 ∙ so_far.begun;
      fresh = c.give_uid.ensures.failed.1 ∙ so_far.fresh;
      keywords = c.give_uid.ensures.keywords ∙ so_far.keywords;
      missed = c.give_uid.ensures.failed.2 ∙ so_far.missed;
      count = so_far.count;
      number = omega (arith, so_far.number);
      meta = c.give_uid.ensures.meta.0 ∙ so_far.meta;
      has_meta = c.give_uid.ensures.meta.1 ∙ so_far.has_meta;
      marks = c.give_uid.ensures.marks ∙ so_far.marks;
      waiting = ap (λ v. v.items) c.give_uid.ensures.waiting ∙ so_far.waiting;
      entries = entries_so_far box.survey.entries.items c.loop-file.self.survey.entries.items c.give_uid.new.self.survey.entries.items files i box.survey.meta.next n file
          (omega arith) c.file-item.is so_far.number so_far.entries c.in_ok-give_uid.ensures.entries;
      stops = omega (arith, so_far.stops, c.in_ok-give_uid.ensures.part.0);
      whole = λ whole. c.in_ok-give_uid.ensures.part.1 (so_far.whole whole);
      was_honest = λ honest. so_far.was_honest (c.give_uid.ensures.was_honest honest);
      admitted = λ honest. renamed_so_far (set_aside_all files box.survey.meta (g.F.Folder.seen box.folder).stored) (g.F.Folder.seen c.loop-file.self.folder).stored (g.F.Folder.seen c.give_uid.new.self.folder).stored files i box.survey.meta.next n file
          (omega arith) c.file-item.is so_far.number (so_far.admitted (c.give_uid.ensures.was_honest honest)) (c.in_ok-give_uid.ensures.effect honest);
    }
