use Rattle.std.proofs.Common.{Some, None, ◌∙◌, ap}
use Rattle.std.specs.Prelude.{Err, length}
use Rattle.device.specs.declared.history.History.{History}
use Rattle.maildir.specs.Folders.{text_of}
use Rattle.near_box.specs.declared.read_fault.ReadFault.{ReadFault}
use Rattle.near_box.proofs.CallLemmas.{none_missed}
use Rattle.near_box.proofs.NearLemmas.{at_hand, near_bytes}
use Rattle.near_box.proofs.near_box.NearBox.load.Goals as goal

pub returns-in-Err-clause-keeps : goal.returns-in-Err-clause-keeps
returns-in-Err-clause-keeps g c = λ honest.
    let read = c.failed.ensures.was_honest honest in
    let before = c.begin.ensures.was_honest (c.find_message.ensures.was_honest read) in
    let old = c.args.self.now in
    let now = c.begin.new.self in
    let folder = ap (λ f. (g.F.Folder.seen f).stored) c.in_ok-begin.ensures.folder in
    let hand = at_hand old.survey now.survey old.fresh old.keywords (g.F.Folder.seen old.folder).stored (g.F.Folder.seen now.folder).stored c.deref.result.now (old.surveys c.in_ok-begin.ensures.ready before) c.in_ok-begin.ensures.same.0 c.deref.ensures.value folder in (
      ap (λ f. (g.F.Folder.seen f).stored) c.failed.ensures.folder ∙ c.find_message.ensures.keeps read ∙ folder,
      none_missed c.in-Err.fault c.failed.result (length now.missed.items) (length c.failed.new.self.missed.items) c.failed.ensures.reported (λ e. c.in-Err.ensures.there read hand.there (ap (λ (f : ReadFault). Err f) e))
          ∙ ap (λ (m : History (Unit {0})). length m.items) c.in_ok-begin.ensures.same.2,
    )

pub returns-in-Some-clause-bytes : goal.returns-in-Some-clause-bytes
returns-in-Some-clause-bytes g c = λ honest.
    let before = c.begin.ensures.was_honest (c.find_message.ensures.was_honest honest) in
    let old = c.args.self.now in
    let now = c.begin.new.self in
    near_bytes old.survey now.survey old.fresh old.keywords (g.F.Folder.seen old.folder).stored (g.F.Folder.seen now.folder).stored c.deref.result.now c.args.uid (text_of c.in-Ok.found) (Some c.in-Some.bytes.items) (ap text_of c.in-Some.is)
    (old.surveys c.in_ok-begin.ensures.ready before) c.in_ok-begin.ensures.same.0 c.deref.ensures.value (ap (λ f. (g.F.Folder.seen f).stored) c.in_ok-begin.ensures.folder)
    (c.in-Ok.ensures.bytes honest old.keywords)

pub returns-in-None-clause-bytes : goal.returns-in-None-clause-bytes
returns-in-None-clause-bytes g c = λ honest.
    let before = c.begin.ensures.was_honest (c.find_message.ensures.was_honest honest) in
    let old = c.args.self.now in
    let now = c.begin.new.self in
    near_bytes old.survey now.survey old.fresh old.keywords (g.F.Folder.seen old.folder).stored (g.F.Folder.seen now.folder).stored c.deref.result.now c.args.uid (text_of c.in-Ok.found) None (ap text_of c.in-None.is)
    (old.surveys c.in_ok-begin.ensures.ready before) c.in_ok-begin.ensures.same.0 c.deref.ensures.value (ap (λ f. (g.F.Folder.seen f).stored) c.in_ok-begin.ensures.folder)
    (c.in-Ok.ensures.bytes honest old.keywords)
