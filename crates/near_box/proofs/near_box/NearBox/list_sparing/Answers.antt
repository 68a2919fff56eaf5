use Rattle.std.proofs.Common.{◌≡◌, ◌∙◌, ap, map, refl, subst}
use Rattle.std.specs.Prelude.{Err, length}
use Rattle.device.specs.declared.history.History.{History}
use Rattle.near_box.specs.declared.read_fault.ReadFault.{ReadFault}
use Rattle.mailcore.specs.Spared.{spares}
use Rattle.near_box.specs.Entries.{AreRising, AreThereUnless, item_at}
use Rattle.near_box.proofs.CallLemmas.{none_missed}
use Rattle.near_box.proofs.NearLemmas.{at_hand, near_asked, near_known, near_shown}
use Rattle.near_box.proofs.ReadLemmas.{there_unless}
use Rattle.near_box.proofs.near_box.NearBox.list_sparing.Goals as goal

pub returns-in-Err-clause-keeps : goal.returns-in-Err-clause-keeps
returns-in-Err-clause-keeps g c = λ honest.
    let read = c.failed.ensures.was_honest honest in
    let before = c.begin.ensures.was_honest (c.listed.ensures.was_honest read) in
    let old = c.args.self.now in
    let now = c.begin.new.self in
    let folder = ap (λ f. (g.F.Folder.seen f).stored) c.in_ok-begin.ensures.folder in
    let hand = at_hand old.survey now.survey old.fresh old.keywords (g.F.Folder.seen old.folder).stored (g.F.Folder.seen now.folder).stored c.deref.result.now (old.surveys c.in_ok-begin.ensures.ready before) c.in_ok-begin.ensures.same.0 c.deref.ensures.value folder in (
      ap (λ f. (g.F.Folder.seen f).stored) c.failed.ensures.folder ∙ c.listed.ensures.keeps read ∙ folder,
      none_missed c.in-Err.fault c.failed.result (length now.missed.items) (length c.failed.new.self.missed.items) c.failed.ensures.reported (λ e. c.in-Err.ensures.there read hand.rising (there_unless (spares c.args.spared.now) (g.F.Folder.seen now.folder).stored c.deref.result.now hand.there) (ap (λ (f : ReadFault). Err f) e))
          ∙ ap (λ (m : History (Unit {0})). length m.items) c.in_ok-begin.ensures.same.2,
    )

pub returns-clause-shows : goal.returns-clause-shows
returns-clause-shows g c = λ honest.
    let before = c.begin.ensures.was_honest (c.listed.ensures.was_honest honest) in
    let old = c.args.self.now in
    let s = (g.F.Folder.seen old.folder).stored in
    let now = c.begin.new.self in
    let shown = near_shown (spares c.args.spared.now) old.survey now.survey old.fresh old.keywords s (g.F.Folder.seen now.folder).stored c.deref.result.now c.in-Ok.items
    (old.surveys c.in_ok-begin.ensures.ready before) c.in_ok-begin.ensures.same.0 c.deref.ensures.value (ap (λ f. (g.F.Folder.seen f).stored) c.in_ok-begin.ensures.folder)
    (subst (λ k. AreRising c.deref.result.now → AreThereUnless (spares c.args.spared.now) c.deref.result.now (g.F.Folder.seen now.folder).stored
    → c.in-Ok.items ≡ map (item_at k (spares c.args.spared.now) (g.F.Folder.seen now.folder).stored) c.deref.result.now) c.in_ok-begin.ensures.keywords (c.in-Ok.ensures.shows honest)) in
    record { validity = shown.1; next = shown.2; items = shown.0 }

pub returns-in-Err-clause-known : goal.returns-in-Err-clause-known
returns-in-Err-clause-known g c = λ honest none.
    let before = c.begin.ensures.was_honest (c.listed.ensures.was_honest (c.failed.ensures.was_honest honest)) in
    let old = c.args.self.now in
    let known = near_known (spares c.args.spared.now) old.survey c.begin.new.self.survey old.fresh old.keywords (g.F.Folder.seen old.folder).stored c.deref.result.now
    (old.surveys c.in_ok-begin.ensures.ready before) c.in_ok-begin.ensures.same.0 c.deref.ensures.value none in
    c.failed.ensures.folder ∙ c.listed.ensures.untouched known ∙ c.in_ok-begin.ensures.folder

pub returns-clause-asked : goal.returns-clause-asked
returns-clause-asked g c = λ honest.
    let before = c.begin.ensures.was_honest (c.listed.ensures.was_honest honest) in
    let old = c.args.self.now in
    let asked = near_asked (spares c.args.spared.now) old.survey c.begin.new.self.survey old.fresh old.keywords (g.F.Folder.seen old.folder).stored c.deref.result.now
    (old.surveys c.in_ok-begin.ensures.ready before) c.in_ok-begin.ensures.same.0 c.deref.ensures.value in
    c.in-Ok.ensures.counted honest ∙ rw (ap (λ f. g.F.Folder.reads f) c.in_ok-begin.ensures.folder, asked) refl

pub returns-clause-known : goal.returns-clause-known
returns-clause-known g c = λ honest none.
    let before = c.begin.ensures.was_honest (c.listed.ensures.was_honest honest) in
    let old = c.args.self.now in
    let known = near_known (spares c.args.spared.now) old.survey c.begin.new.self.survey old.fresh old.keywords (g.F.Folder.seen old.folder).stored c.deref.result.now
    (old.surveys c.in_ok-begin.ensures.ready before) c.in_ok-begin.ensures.same.0 c.deref.ensures.value none in
    c.listed.ensures.untouched known ∙ c.in_ok-begin.ensures.folder
