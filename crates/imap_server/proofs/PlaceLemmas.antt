-- The place at which the mailbox of a name stands.
use Rattle.std.proofs.Common.{◌≡◌, ◌<◌, ◌≤◌, inl, inr, ℕ, zero, suc, ◌+◌, ◌^◌, Bool, true, false, not, cond, List, [], ◌∷◌, length, refl, sym, ◌∙◌, ap, subst, Option, Some, None, arith, get_or, ◌++◌}
use Rattle.std.specs.Prelude.{nat_lt, slice_get}
use Rattle.std.specs.List.{position, position_or_len}
use Rattle.std.proofs.lemmas.List.{map-append}
use Rattle.std.proofs.lemmas.List.Elements.{All-nil, All-cons, All-append}
use Rattle.std.proofs.lemmas.Bool.{cases_Bool, cases_lt, ltb-true}
use Rattle.std.proofs.lemmas.Bool.Decides.{nat_tests}
use Rattle.mailcore.specs.declared.mailbox.StoredMailbox.{StoredMailbox}
use Rattle.imap_session.specs.Mailboxes.{FarMailbox, same_name, mailbox_at, changed}
use Rattle.imap_session.specs.Boxes.{far_of, all_of, IsServed, AreServed}
use Rattle.imap_server.specs.Places.{IsPlace, Place}

abbrev is_it : List ℕ → StoredMailbox → Bool
is_it name m = same_name m.name name

abbrev here : List ℕ → List StoredMailbox → ℕ
here name raw = position_or_len (is_it name) raw

-- the first mailbox is it, or not
first_place : (name : List ℕ) (m : FarMailbox) (ms : List FarMailbox) → same_name m.name name ≡ true → IsPlace name (m ∷ ms) 0
first_place name m ms e = record {
  within = omega arith;
  found = ap (λ (b : Bool). cond b (Some m) (mailbox_at name ms)) e;
  change = λ c. ap (λ (b : Bool). cond b (record m { store = c m.store } ∷ ms) (m ∷ changed c name ms)) e;
}

later_place : (name : List ℕ) (m : FarMailbox) (ms : List FarMailbox) (n : ℕ) → same_name m.name name ≡ false → IsPlace name ms n → IsPlace name (m ∷ ms) (suc n)
later_place name m ms n e h = record {
  within = let w = h.within in omega arith;
  found = ap (λ (b : Bool). cond b (Some m) (mailbox_at name ms)) e ∙ h.found;
  change = λ c. ap (λ (b : Bool). cond b (record m { store = c m.store } ∷ ms) (m ∷ changed c name ms)) e ∙ ap (λ (l : List FarMailbox). m ∷ l) (h.change c);
}

place_some : (name : List ℕ) (raw : List StoredMailbox) → here name raw < length raw → IsPlace name (all_of raw) (here name raw)
place_some name [] h = absurd (omega arith)
place_some name (m ∷ ms) h = elim (cases_Bool (is_it name m)) [
  | inl same ↦
      let e : here name (m ∷ ms) ≡ 0 = ap (λ (b : Bool). cond (not b) (1 + here name ms) 0) same in
      subst (IsPlace name (all_of (m ∷ ms))) (sym e) (first_place name (far_of m) (all_of ms) same)
  | inr other ↦
      let f : here name (m ∷ ms) ≡ 1 + here name ms = ap (λ (b : Bool). cond (not b) (1 + here name ms) 0) other in
      let e : here name (m ∷ ms) ≡ suc (here name ms) = omega arith in
      subst (IsPlace name (all_of (m ∷ ms))) (sym e) (later_place name (far_of m) (all_of ms) (here name ms) other (place_some name ms (omega arith)))
]

place_none : (name : List ℕ) (raw : List StoredMailbox) → length raw ≤ here name raw → mailbox_at name (all_of raw) ≡ None
place_none name [] h = refl
place_none name (m ∷ ms) h = elim (cases_Bool (is_it name m)) [
  | inl same ↦
      let e : here name (m ∷ ms) ≡ 0 = ap (λ (b : Bool). cond (not b) (1 + here name ms) 0) same in
      absurd (omega arith)
  | inr other ↦
      let f : here name (m ∷ ms) ≡ 1 + here name ms = ap (λ (b : Bool). cond (not b) (1 + here name ms) 0) other in
      let e : here name (m ∷ ms) ≡ suc (here name ms) = omega arith in
      ap (λ (b : Bool). cond b (Some (far_of m)) (mailbox_at name (all_of ms))) other ∙ place_none name ms (omega arith)
]

pub place_of : (name : List ℕ) (raw : List StoredMailbox) (result : Option ℕ) → result ≡ position (λ (m : StoredMailbox). same_name m.name name) raw → Place name (all_of raw) result
place_of name raw result e = subst (Place name (all_of raw)) (sym e) (by_test (nat_lt (here name raw) (length raw)) refl)
  where
    by_test : (b : Bool) → nat_lt (here name raw) (length raw) ≡ b → Place name (all_of raw) (cond b (Some (here name raw)) None)
    by_test true is = place_some name raw (ltb-true (here name raw) (length raw) is)
    by_test false is = place_none name raw (grind (arith, nat_tests))

-- the mailbox that stands there
pub far_there : (raw : List StoredMailbox) (n : ℕ) (d : StoredMailbox) → n < length raw → slice_get (all_of raw) n ≡ Some (far_of (get_or raw n d))
far_there [] n d h = absurd (omega arith)
far_there (m ∷ ms) zero d h = refl
far_there (m ∷ ms) (suc n) d h = far_there ms n d (omega arith)

pub far_length : (raw : List StoredMailbox) → length (all_of raw) ≡ length raw
far_length [] = refl
far_length (m ∷ ms) = let rest = far_length ms in omega arith

pub served_there : (raw : List StoredMailbox) (n : ℕ) (d : StoredMailbox) → AreServed (all_of raw) → n < length raw → IsServed (far_of (get_or raw n d))
served_there [] n d are h = absurd (omega arith)
served_there (m ∷ ms) zero d are h = are 0 (far_of d) (omega arith)
served_there (m ∷ ms) (suc n) d are h = served_there ms n d (λ k e within. are (suc k) e (omega arith)) (omega arith)

-- one more mailbox
pub served_push : (raw : List StoredMailbox) (m : StoredMailbox) → AreServed (all_of raw) → IsServed (far_of m) → AreServed (all_of (raw ++ m ∷ []))
served_push raw m are is =
    subst AreServed (sym (map-append far_of raw (m ∷ []))) (All-append IsServed (all_of raw) (far_of m ∷ []) are (All-cons IsServed (far_of m) [] is (All-nil IsServed)))

pub served_pushed : (b : Bool) (raw new : List StoredMailbox) (m : StoredMailbox) → new ≡ cond b (raw ++ m ∷ []) raw → AreServed (all_of raw) → IsServed (far_of m) → AreServed (all_of new)
served_pushed true raw new m e are is = subst (λ (l : List StoredMailbox). AreServed (all_of l)) (sym e) (served_push raw m are is)
served_pushed false raw new m e are is = subst (λ (l : List StoredMailbox). AreServed (all_of l)) (sym e) are

-- no UID is left
pub last_uid : (next : ℕ) → next < 2 ^ 32 → 0 < next → ((0 < next) × (next + 1 < 2 ^ 32) → ⊥) → next ≡ 4294967295
last_uid next below some none =
    elim (cases_lt (next + 1) (2 ^ 32)) [ inl less ↦ absurd (none (some, less)) | inr le ↦ omega (arith, below, le) ]
