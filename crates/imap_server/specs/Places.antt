-- The place at which the mailbox of a name stands.
use Rattle.std.specs.Prelude.{◌≡◌, ◌<◌, ℕ, zero, suc, List, [], ◌∷◌, length, Option, None, Some, slice_get}
use Rattle.mailcore.specs.Stores.{Store}
use Rattle.imap_session.specs.Mailboxes.{FarMailbox, mailbox_at, changed}

-- what the mailbox at this place stores is changed
abbrev pub changed_there : (Store → Store) → ℕ → List FarMailbox → List FarMailbox
changed_there change n [] = []
changed_there change zero (m ∷ ms) = record m { store = change m.store } ∷ ms
changed_there change (suc n) (m ∷ ms) = m ∷ changed_there change n ms

pub record IsPlace (name : List ℕ) (mailboxes : List FarMailbox) (n : ℕ) : Type 0 where
  pub within : n < length mailboxes
  pub found : mailbox_at name mailboxes ≡ slice_get mailboxes n
  pub change : (c : Store → Store) → changed c name mailboxes ≡ changed_there c n mailboxes

abbrev pub Place : (name : List ℕ) → List FarMailbox → Option ℕ → Type 0
Place name mailboxes (Some n) = IsPlace name mailboxes n
Place name mailboxes None = mailbox_at name mailboxes ≡ None
