-- All that waits is what was read, where nobody else delivers.
use Rattle.std.proofs.Common.{◌≡◌, ◌∙◌, ◌++◌, ap, refl, sym, ℕ, ◌+◌, Bool, List, [], append-nil}
use Rattle.std.specs.Prelude.{drop, length, take}
use Rattle.mailcore.specs.Mailboxes.{Mailbox, all_admitted, some_admitted, AdmitsSome}
use Rattle.mailcore.specs.Stores.{Waiting, numbered}
use Rattle.outside.specs.MailboxOperations.{Admits, AdmitsPart, IsReading, read_admitted}
use Rattle.outside.proofs.Quiet.{none_come}

all_read : (alone : Bool) (b : Mailbox) → IsReading alone b.waiting [] b
all_read alone b = record { parts = none_come b.waiting; all = λ e. (refl, refl) }

nothing_left : (count : ℕ) (b : Mailbox) → some_admitted count b ≡ read_admitted count b.waiting [] b
nothing_left count b =
    ap (λ (ws : List Waiting). record {
      store = record b.store { next = b.store.next + length b.waiting; messages = b.store.messages ++ numbered b.store.next (take count b.waiting) };
      waiting = ws;
    }) (sym (append-nil (drop count b.waiting)))

pub admits_all : (alone : Bool) (b b' : Mailbox) → b' ≡ all_admitted b → Admits alone b.waiting b b'
admits_all alone b b' is = record { read = b.waiting; left = []; reading = all_read alone b; least = λ f c. c; now = is ∙ nothing_left (length b.waiting) b }

pub admits_some : (alone : Bool) (b b' : Mailbox) → AdmitsSome b b' → AdmitsPart alone b b'
admits_some alone b b' some = record { read = b.waiting; left = []; reading = all_read alone b; count = some.count; now = some.now ∙ nothing_left some.count b }
