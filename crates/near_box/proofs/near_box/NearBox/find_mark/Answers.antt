use Rattle.std.proofs.Common.{◌∙◌, ap, refl}
use Rattle.std.specs.Prelude.{Err, length}
use Rattle.device.specs.declared.history.History.{History}
use Rattle.near_box.specs.declared.read_fault.ReadFault.{ReadFault}
use Rattle.near_box.proofs.CallLemmas.{none_missed}
use Rattle.near_box.proofs.NearLemmas.{at_hand, near_marked, surveys_marked}
use Rattle.near_box.proofs.near_box.NearBox.find_mark.Goals as goal

pub returns-in-Err-clause-keeps : goal.returns-in-Err-clause-keeps
returns-in-Err-clause-keeps g c = λ honest.
    let read = c.failed.ensures.was_honest honest in
    let before = c.begin.ensures.was_honest (c.find_mark.ensures.was_honest read) in
    let old = c.args.self.now in
    let now = c.begin.new.self in
    let folder = ap (λ f. (g.F.Folder.seen f).stored) c.in_ok-begin.ensures.folder in
    let hand = at_hand old.survey now.survey old.fresh old.keywords (g.F.Folder.seen old.folder).stored (g.F.Folder.seen now.folder).stored c.deref.result.now (old.surveys c.in_ok-begin.ensures.ready before) c.in_ok-begin.ensures.same.0 c.deref.ensures.value folder in (
      ap (λ f. (g.F.Folder.seen f).stored) c.failed.ensures.folder ∙ c.find_mark.ensures.keeps read ∙ folder,
      none_missed c.in-Err.fault c.failed.result (length now.missed.items) (length c.failed.new.self.missed.items) c.failed.ensures.reported (λ e. c.in-Err.ensures.there read hand.there (ap (λ (f : ReadFault). Err f) e))
          ∙ ap (λ (m : History (Unit {0})). length m.items) c.in_ok-begin.ensures.same.2,
    )

pub invariant_of-self-2-clause-surveys : goal.invariant_of-self-2-clause-surveys
invariant_of-self-2-clause-surveys g c = λ ready honest.
    let now = c.begin.new.self in
    let s = (g.F.Folder.seen now.folder).stored in
    let surveys = c.in_ok-begin.ensures.surveys (c.find_mark.ensures.was_honest honest) in
    let marked = near_marked now.survey now.survey now.fresh now.keywords s s c.deref.result.now c.args.mark c.args.from c.in-Ok.found now.survey.marks c.find_mark.new.known
    surveys refl c.deref.ensures.value refl refl (λ there next. c.in-Ok.ensures.found honest there next now.keywords) in
    surveys_marked now.survey _ now.fresh now.keywords s (g.F.Folder.seen c.find_mark.new.folder).stored surveys (c.in-Ok.ensures.keeps honest) refl refl refl refl marked.1

pub returns-clause-found : goal.returns-clause-found
returns-clause-found g c = λ honest.
    let before = c.begin.ensures.was_honest (c.find_mark.ensures.was_honest honest) in
    let old = c.args.self.now in
    let now = c.begin.new.self in
    let marked = near_marked old.survey now.survey old.fresh old.keywords (g.F.Folder.seen old.folder).stored (g.F.Folder.seen now.folder).stored c.deref.result.now c.args.mark c.args.from c.in-Ok.found now.survey.marks c.find_mark.new.known
    (old.surveys c.in_ok-begin.ensures.ready before) c.in_ok-begin.ensures.same.0 c.deref.ensures.value refl (ap (λ f. (g.F.Folder.seen f).stored) c.in_ok-begin.ensures.folder)
    (λ there next. c.in-Ok.ensures.found honest there next old.keywords) in
    marked.0
