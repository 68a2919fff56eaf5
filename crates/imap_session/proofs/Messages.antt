-- The message under a UID, after each operation on a mailbox.
use Rattle.std.proofs.Common.{◌≡◌, inl, inr, ℕ, Bool, true, false, not, cond, eqb, List, [], ◌∷◌, ◌++◌, filter, refl, sym, ◌∙◌, ap, subst, Option, Some, None, arith}
use Rattle.std.specs.Prelude.{find}
use Rattle.std.specs.List.{list_any}
use Rattle.std.proofs.lemmas.Bool.{cases_Bool}
use Rattle.mailcore.specs.declared.mailbox.Message.{Message}
use Rattle.mailcore.specs.Operations.{with_flags}

-- the test by which messages are sought
abbrev pub has_uid : ℕ → Message → Bool
has_uid uid m = eqb m.uid uid

-- ---- where the flags of one are changed

pub uid-with_flags : (change : ℕ → ℕ) (u : ℕ) (m : Message) → (with_flags change u m).uid ≡ m.uid
uid-with_flags change u m = elim (eqb m.uid u) as (λ b. (cond b (record m { flags = change m.flags }) m).uid ≡ m.uid) [ true ↦ refl | false ↦ refl ]

pub bytes-with_flags : (change : ℕ → ℕ) (u : ℕ) (m : Message) → (with_flags change u m).bytes ≡ m.bytes
bytes-with_flags change u m = elim (eqb m.uid u) as (λ b. (cond b (record m { flags = change m.flags }) m).bytes ≡ m.bytes) [ true ↦ refl | false ↦ refl ]

-- ---- where those are removed whose UIDs are among some

abbrev pub is_among : List ℕ → ℕ → Bool
is_among uids uid = list_any (λ u. eqb uid u) uids

abbrev pub stays : List ℕ → Message → Bool
stays uids m = not (is_among uids m.uid)

abbrev Found : ℕ → Bool → List ℕ → Message → List Message → Type 0
Found uid test uids m ms = find (has_uid uid) (cond test (m ∷ filter (stays uids) ms) (filter (stays uids) ms)) ≡ find (has_uid uid) (m ∷ ms)

pub find-stays : (uids : List ℕ) (uid : ℕ) (ms : List Message) → is_among uids uid ≡ false → find (has_uid uid) (filter (stays uids) ms) ≡ find (has_uid uid) ms
find-stays uids uid [] h = refl
find-stays uids uid (m ∷ ms) h =
    let rest = find-stays uids uid ms h in
    elim (cases_Bool (eqb m.uid uid)) [
      | inl same ↦
          let equal : m.uid ≡ uid = grind arith in
          let kept : stays uids m ≡ true = ap (λ (n : ℕ). not (is_among uids n)) equal ∙ ap not h in
          subst (λ (b : Bool). Found uid b uids m ms) (sym kept) (ap (λ (b : Bool). cond b (Some m) (find (has_uid uid) (filter (stays uids) ms))) same ∙ sym (ap (λ (b : Bool). cond b (Some m) (find (has_uid uid) ms)) same))
      | inr other ↦
          let skipped : find (has_uid uid) (m ∷ ms) ≡ find (has_uid uid) ms = ap (λ (b : Bool). cond b (Some m) (find (has_uid uid) ms)) other in
          elim (cases_Bool (stays uids m)) [
            | inl kept ↦ subst (λ (b : Bool). Found uid b uids m ms) (sym kept) (ap (λ (b : Bool). cond b (Some m) (find (has_uid uid) (filter (stays uids) ms))) other ∙ rest ∙ sym skipped)
            | inr gone ↦ subst (λ (b : Bool). Found uid b uids m ms) (sym gone) (rest ∙ sym skipped)
          ]
    ]

pub find-gone : (uids : List ℕ) (uid : ℕ) (ms : List Message) → is_among uids uid ≡ true → find (has_uid uid) (filter (stays uids) ms) ≡ None
find-gone uids uid [] h = refl
find-gone uids uid (m ∷ ms) h =
    let rest = find-gone uids uid ms h in
    elim (cases_Bool (stays uids m)) [
      | inl kept ↦
          elim (cases_Bool (eqb m.uid uid)) [
            | inl same ↦
                let equal : m.uid ≡ uid = grind arith in
                let gone : stays uids m ≡ false = ap (λ (n : ℕ). not (is_among uids n)) equal ∙ ap not h in
                let odd : true ≡ false = sym kept ∙ gone in cc
            | inr other ↦
                subst (λ (b : Bool). find (has_uid uid) (cond b (m ∷ filter (stays uids) ms) (filter (stays uids) ms)) ≡ None) (sym kept)
                (ap (λ (b : Bool). cond b (Some m) (find (has_uid uid) (filter (stays uids) ms))) other ∙ rest)
          ]
      | inr gone ↦ subst (λ (b : Bool). find (has_uid uid) (cond b (m ∷ filter (stays uids) ms) (filter (stays uids) ms)) ≡ None) (sym gone) rest
    ]

-- ---- where one is added after the others

pub find-added : (uid : ℕ) (x : Message) (ms : List Message) → eqb x.uid uid ≡ false → find (has_uid uid) (ms ++ x ∷ []) ≡ find (has_uid uid) ms
find-added uid x [] h = ap (λ (b : Bool). cond b (Some x) None) h
find-added uid x (m ∷ ms) h = ap (λ (r : Option Message). cond (eqb m.uid uid) (Some m) r) (find-added uid x ms h)
