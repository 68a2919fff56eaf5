-- What a search that goes past one more message knows of the marks.
use Rattle.std.proofs.Common.{◌≡◌, ℕ, ◌+◌, ◌<◌, ◌≤◌, Bool, true, false, cond, List, get_or, length, max, All, Option, None, Some, inl, inr, refl, sym, ap, ◌∙◌, arith}
use Rattle.std.specs.HashSet.{HashSet, contains}
use Rattle.std.specs.Str.{bytes_eq}
use Rattle.std.proofs.lemmas.Bool.{cases_lt, true≢false}
use Rattle.std.proofs.lemmas.List.{get_or_default}
use Rattle.mailcore.specs.declared.mailbox.Message.{Message}
use Rattle.mailcore.specs.Content.{mark_of}
use Rattle.mailcore.specs.Operations.{is_mark}
use Rattle.mailcore.specs.declared.passed_marks.PassedMarks.{PassedMarks}
use Rattle.mailcore.specs.Passed.{ArePassed, IsOneOf}

-- a mark that is not among those with one more is none of them, and not that one
pub not_among : {S : Type 0} (old new : HashSet (List ℕ) S) (mark other : List ℕ) → contains bytes_eq new other ≡ cond (bytes_eq mark other) true (contains bytes_eq old other)
    → contains bytes_eq new other ≡ false → (contains bytes_eq old other ≡ false) × (is_mark (Some mark) other ≡ false)
not_among old new mark other updates none = by_test (bytes_eq mark other) refl (sym updates ∙ none)
  where
    by_test : (b : Bool) → bytes_eq mark other ≡ b → cond b true (contains bytes_eq old other) ≡ false → (contains bytes_eq old other ≡ false) × (is_mark (Some mark) other ≡ false)
    by_test true same e = absurd (true≢false e)
    by_test false other e = (e, other)

pub passed_more : (next : ℕ) (messages : List Message) (p p' : PassedMarks) (uid : ℕ) (mark : Option (List ℕ)) → uid < next → ArePassed next messages p
    → All (λ m. p.below ≤ m.uid → m.uid ≤ uid → mark_of m.bytes ≡ mark) messages → p'.from ≡ p.from → p'.below ≡ uid + 1
    → ((other : List ℕ) → contains bytes_eq p'.marks other ≡ false → (contains bytes_eq p.marks other ≡ false) × (is_mark mark other ≡ false))
    → ArePassed next messages p'
passed_more next messages p p' uid mark small is only from below marks = record {
  below = λ some. omega (arith, below, small);
  marks = λ other none k d within up under.
      let both = marks other none in
      elim (cases_lt (get_or messages k d).uid p.below) [
        | inl less ↦ is.marks other both.0 k d within (omega (arith, up, from)) less
        | inr least ↦ ap (λ o. is_mark o other) (only k d within least (omega (arith, under, below))) ∙ both.1
      ];
}

-- ---- many marks at once

-- a mark is none of those that have been noted, and none of the next ones
pub not_among_more : {S : Type 0} (old new : HashSet (List ℕ) S) (marks : List (List ℕ)) (mark other : List ℕ) (first : HashSet (List ℕ) S) (i : ℕ) → mark ≡ get_or marks i mark → i < length marks
    → contains bytes_eq new other ≡ cond (bytes_eq mark other) true (contains bytes_eq old other)
    → (contains bytes_eq old other ≡ false → (contains bytes_eq first other ≡ false) × ((k : ℕ) (d : List ℕ) → k < i → bytes_eq (get_or marks k d) other ≡ false))
    → contains bytes_eq new other ≡ false → (contains bytes_eq first other ≡ false) × ((k : ℕ) (d : List ℕ) → k < i + 1 → bytes_eq (get_or marks k d) other ≡ false)
not_among_more old new marks mark other first i is within updates before none =
    let both = not_among old new mark other updates none in
    let rest = before both.0 in (
      rest.0,
      λ k d less. elim (cases_lt k i) [
        | inl low ↦ rest.1 k d low
        | inr high ↦
            let at : k ≡ i = omega (arith, less, high) in
            ap (λ (n : ℕ). bytes_eq (get_or marks n d) other) at ∙ ap (λ (m : List ℕ). bytes_eq m other) (get_or_default marks i d mark within ∙ sym is) ∙ both.1
      ],
    )

one_of : (marks : List (List ℕ)) (other : List ℕ) (o : Option (List ℕ)) → ((k : ℕ) (d : List ℕ) → k < length marks → bytes_eq (get_or marks k d) other ≡ false) → IsOneOf marks o → is_mark o other ≡ false
one_of marks other None none h = refl
one_of marks other (Some mark) none (k, within, is) = sym (ap (λ (m : List ℕ). bytes_eq m other) is) ∙ none k mark within

pub passed_all : (next : ℕ) (messages : List Message) (p p' : PassedMarks) (marks : List (List ℕ)) (below : ℕ) → below ≤ next → ArePassed next messages p
    → All (λ m. p.below ≤ m.uid → m.uid < below → IsOneOf marks (mark_of m.bytes)) messages → p'.from ≡ p.from → p'.below ≡ max p.below below
    → ((other : List ℕ) → contains bytes_eq p'.marks other ≡ false → (contains bytes_eq p.marks other ≡ false) × ((k : ℕ) (d : List ℕ) → k < length marks → bytes_eq (get_or marks k d) other ≡ false))
    → ArePassed next messages p'
passed_all next messages p p' marks below small is each from top noted = record {
  below = λ some. elim (cases_lt p.from p.below) [
    | inl less ↦ let old : p.below ≤ next = is.below less in omega (arith, old, small, top)
    | inr least ↦ omega (arith, least, small, top, some, from)
  ];
  marks = λ other none k d within up under.
      let both = noted other none in
      elim (cases_lt (get_or messages k d).uid p.below) [
        | inl less ↦ is.marks other both.0 k d within (omega (arith, up, from)) less
        | inr least ↦ one_of marks other _ both.1 (each k d within least (omega (arith, under, top, least)))
      ];
}
