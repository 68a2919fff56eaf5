-- A mailbox that is changed twice, and one that is not there.
use Rattle.std.proofs.Common.{◌≡◌, ◌<◌, inl, inr, ℕ, zero, suc, Bool, true, false, cond, List, [], ◌∷◌, length, refl, sym, ◌∙◌, ap, subst, Option, Some, None, arith}
use Rattle.std.proofs.lemmas.Bool.{cases_Bool}
use Rattle.mailcore.specs.Stores.{Store}
use Rattle.imap_session.specs.Mailboxes.{FarMailbox, same_name, mailbox_at, changed}
use Rattle.imap_session.specs.Servers.{Server}
use Rattle.imap_server.specs.Places.{IsPlace, changed_there}

-- Where no mailbox has the name, none is changed.
pub changed_nowhere : (c : Store → Store) (name : List ℕ) (ms : List FarMailbox) → mailbox_at name ms ≡ None → changed c name ms ≡ ms
changed_nowhere c name [] h = refl
changed_nowhere c name (m ∷ ms) h = elim (cases_Bool (same_name m.name name)) [
  | inl same ↦
      let e : Some m ≡ None = sym (ap (λ (b : Bool). cond b (Some m) (mailbox_at name ms)) same) ∙ h in
      absurd (some_is_none m e)
  | inr other ↦
      let rest : mailbox_at name ms ≡ None = sym (ap (λ (b : Bool). cond b (Some m) (mailbox_at name ms)) other) ∙ h in
      ap (λ (b : Bool). cond b (record m { store = c m.store } ∷ ms) (m ∷ changed c name ms)) other ∙ ap (λ (l : List FarMailbox). m ∷ l) (changed_nowhere c name ms rest)
]
  where
    is_some_type : Option FarMailbox → Type 0
    is_some_type None = ⊥
    is_some_type (Some x) = Unit {0}

    some_is_none : (x : FarMailbox) → Some x ≡ None → ⊥
    some_is_none x e = subst is_some_type e tt

length_changed : (c : Store → Store) (n : ℕ) (ms : List FarMailbox) → length (changed_there c n ms) ≡ length ms
length_changed c n [] = refl
length_changed c zero (m ∷ ms) = refl
length_changed c (suc n) (m ∷ ms) = let rest = length_changed c n ms in omega arith

changed_twice : (c d : Store → Store) (n : ℕ) (ms : List FarMailbox) → changed_there d n (changed_there c n ms) ≡ changed_there (λ s. d (c s)) n ms
changed_twice c d n [] = refl
changed_twice c d zero (m ∷ ms) = refl
changed_twice c d (suc n) (m ∷ ms) = ap (λ (l : List FarMailbox). m ∷ l) (changed_twice c d n ms)

-- The place is there after a change too.
pub still_there : (s mid : Server) (n : ℕ) (c : Store → Store) → n < length s.mailboxes → mid ≡ record s { mailboxes = changed_there c n s.mailboxes } → n < length mid.mailboxes
still_there s mid n c within first =
    let same : length mid.mailboxes ≡ length s.mailboxes = ap (λ (v : Server). length v.mailboxes) first ∙ length_changed c n s.mailboxes in
    omega arith

-- The mailbox of a name is changed so, and then so.
pub done_twice : (s mid new : Server) (name : List ℕ) (n : ℕ) (c d : Store → Store) → IsPlace name s.mailboxes n
    → mid ≡ record s { mailboxes = changed_there c n s.mailboxes } → new ≡ record mid { mailboxes = changed_there d n mid.mailboxes }
    → new ≡ record s { mailboxes = changed (λ x. d (c x)) name s.mailboxes }
done_twice s mid new name n c d place first second =
    second ∙ ap (λ (v : Server). let next : Server = record v { mailboxes = changed_there d n v.mailboxes } in next) first
    ∙ ap (λ (l : List FarMailbox). let next : Server = record s { mailboxes = l } in next) (changed_twice c d n s.mailboxes ∙ sym (place.change (λ x. d (c x))))
