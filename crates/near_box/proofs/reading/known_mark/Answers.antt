use Rattle.std.proofs.Common.{◌≡◌, ◌∙◌, ℕ, List, Option, ap, subst, sym}
use Rattle.mailcore.specs.Content.{mark_of}
use Rattle.near_box.specs.declared.known_mark.KnownMark.{KnownMark}
use Rattle.near_box.specs.Entries.{bytes_in}
use Rattle.near_box.specs.KnownMarks.{IsMarkAmong}
use Rattle.near_box.proofs.reading.known_mark.Goals as goal

pub returns-in_ok-keep_mark-in-Err-clause-known : goal.returns-in_ok-keep_mark-in-Err-clause-known
returns-in_ok-keep_mark-in-Err-clause-known g c = λ honest there next messages is are.
    let entry = c.args.entry.now in
    let read : c.mark_of-mark.result ≡ mark_of (bytes_in (g.F.Folder.seen c.args.folder.now).stored entry) =
    c.mark_of-mark.ensures ∙ ap mark_of (c.deref-in-Err.ensures.value ∙ c.in_ok-read_message-in-Err.ensures.bytes honest there) in
    c.in_ok-keep_mark-in-Err.ensures.known next messages
    (subst (λ (mark : Option (List ℕ)). let k : KnownMark = record { uid = entry.uid; mark = mark } in IsMarkAmong next messages k) (sym read) is) are
