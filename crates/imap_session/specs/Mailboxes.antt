-- The mailboxes of a server, by their names.
use Rattle.std.specs.Prelude.{ℕ, Bool, ◌||◌, ◌&&◌, nat_eq, List, [], ◌∷◌, find, codes, Option, if◌then◌else◌}
use Rattle.std.specs.Str.{str_eq_ignore_ascii_case}
use Rattle.std.specs.Cmp.Lexicographic.{pointwise}
use Rattle.mailcore.specs.Stores.{Store}

pub record FarMailbox : Type 0 where
  pub name : List ℕ
  pub store : Store

-- names compare by bytes, INBOX without case (RFC 9051, section 5.1)
abbrev pub is_inbox : List ℕ → Bool
is_inbox name = str_eq_ignore_ascii_case name (codes "INBOX")

abbrev pub same_name : List ℕ → List ℕ → Bool
same_name a b = pointwise nat_eq a b || is_inbox a && is_inbox b

abbrev pub mailbox_at : (name : List ℕ) → List FarMailbox → Option FarMailbox
mailbox_at name mailboxes = find (λ m. same_name m.name name) mailboxes

-- what the mailbox of this name stores is changed, and no other
abbrev pub changed : (Store → Store) → (name : List ℕ) → List FarMailbox → List FarMailbox
changed change name [] = []
changed change name (m ∷ ms) =
    if same_name m.name name then record m { store = change m.store } ∷ ms else m ∷ changed change name ms
