use Rattle.std.proofs.Common.{◌≡◌, ◌∙◌, Some, ap, slice_get, sym}
use Rattle.std.specs.Prelude.{Err, length}
use Rattle.std.proofs.lemmas.Option.{MatchOption-at_some, slice_get-get_or}
use Rattle.device.specs.declared.history.History.{History}
use Rattle.maildir.specs.FlaggedNames.{flags_by_name}
use Rattle.near_box.specs.declared.read_fault.ReadFault.{ReadFault}
use Rattle.near_box.specs.Mailboxes.{waiting_with}
use Rattle.near_box.proofs.CallLemmas.{none_missed}
use Rattle.near_box.proofs.WaitingLemmas.{waiting_found, waiting_read}
use Rattle.near_box.proofs.near_box.NearBox.read_waiting.Goals as goal

pub returns-in-Ok-clause-file : goal.returns-in-Ok-clause-file
returns-in-Ok-clause-file g c = λ honest.
    let before = c.begin.ensures.was_honest (c.read_file.ensures.was_honest honest) in
    let old = c.args.self.now in
    let now = c.begin.new.self in
    let found = MatchOption-at_some _ _ c.in-Some.file c.in-Some.is c.get.ensures.lookup.3 in
    let at : slice_get c.deref.result.now c.args.place ≡ Some c.in-Some.file.now =
    slice_get-get_or c.deref.result.now c.args.place c.in-Some.file.now found.0 ∙ ap (λ n. Some n) (sym (found.1 c.in-Some.file.now)) in
    let flags : c.named_flags-flags.result ≡ flags_by_name old.keywords c.in-Some.file.now.name =
    c.named_flags-flags.ensures ∙ ap (λ k. flags_by_name k c.as_slice.result.now) c.in_ok-begin.ensures.keywords ∙ ap (flags_by_name old.keywords) c.as_slice.ensures in
    waiting_read old.survey now.survey old.fresh old.keywords (g.F.Folder.seen old.folder).stored (g.F.Folder.seen now.folder).stored c.deref.result.now c.args.place c.in-Some.file.now
    (old.surveys c.in_ok-begin.ensures.ready before) c.in_ok-begin.ensures.same.0 c.deref.ensures.value (ap (λ f. (g.F.Folder.seen f).stored) c.in_ok-begin.ensures.folder) at
    c.in-Ok.bytes.items (c.in-Ok.ensures.bytes honest)
    ∙ ap (λ f. Some (waiting_with c.in-Ok.bytes.items f)) (sym flags)

pub returns-in-Err-clause-keeps : goal.returns-in-Err-clause-keeps
returns-in-Err-clause-keeps g c = λ honest.
    let read = c.failed.ensures.was_honest honest in
    let before = c.begin.ensures.was_honest (c.read_file.ensures.was_honest read) in
    let old = c.args.self.now in
    let now = c.begin.new.self in
    let folder = ap (λ f. (g.F.Folder.seen f).stored) c.in_ok-begin.ensures.folder in
    let found = MatchOption-at_some _ _ c.in-Some.file c.in-Some.is c.get.ensures.lookup.3 in
    let at : slice_get c.deref.result.now c.args.place ≡ Some c.in-Some.file.now =
    slice_get-get_or c.deref.result.now c.args.place c.in-Some.file.now found.0 ∙ ap (λ n. Some n) (sym (found.1 c.in-Some.file.now)) in
    let there = waiting_found old.survey now.survey old.fresh old.keywords (g.F.Folder.seen old.folder).stored (g.F.Folder.seen now.folder).stored c.deref.result.now c.args.place c.in-Some.file.now
    (old.surveys c.in_ok-begin.ensures.ready before) c.in_ok-begin.ensures.same.0 c.deref.ensures.value folder at in (
      ap (λ f. (g.F.Folder.seen f).stored) c.failed.ensures.folder ∙ c.read_file.ensures.keeps read ∙ folder,
      none_missed c.in-Err.fault c.failed.result (length now.missed.items) (length c.failed.new.self.missed.items) c.failed.ensures.reported (λ e. c.in-Err.ensures.there read there (ap (λ (f : ReadFault). Err f) e))
          ∙ ap (λ (m : History (Unit {0})). length m.items) c.in_ok-begin.ensures.same.2,
    )
