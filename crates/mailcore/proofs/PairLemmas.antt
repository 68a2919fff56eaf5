-- What the pairs of a generator's words give, a pair at a time.
use Rattle.std.proofs.Common.{◌≡◌, ◌≢◌, get_or, ℕ, zero, suc, ◌+◌, ◌<◌, ◌≤◌, Bool, true, false, ◌||◌, List, [], ◌∷◌, ◌++◌, length, refl, sym, ap, ◌∙◌, arith, inl, inr, length-append}
use Rattle.std.proofs.lemmas.Bool.{cases_Bool, cases_lt, or_left, both_ways, cond-true, cond-false}
use Rattle.std.proofs.lemmas.List.Folds.{list_any-append, list_any_at}
use Rattle.std.proofs.lemmas.List.Elements.{All-push}
use Rattle.std.proofs.lemmas.List.Quantifiers.{all_pairs_push}
use Rattle.std.proofs.lemmas.Slice.Eq.{bytes_eq-Decides}
use Rattle.std.proofs.Math.Bool.{or-false}
use Rattle.std.proofs.Math.Nat.{add-suc, add-zero}
use Rattle.std.specs.List.{All, AllPairs}
use Rattle.std.specs.Str.{bytes_eq}
use Rattle.rand_core.specs.Stream.{Stream}
use Rattle.mailcore.specs.Draws.{after_pair, after_pairs, mark_at, next_mark, marks_before, is_listed, is_repeat, firsts}
use Rattle.mailcore.specs.Mark.{IsMark}
use Rattle.mailcore.proofs.MarkText.{IsMark-next_mark}

-- j pairs after k pairs
pub after_pairs-add : (s : Stream) (k j : ℕ) → after_pairs s (k + j) ≡ after_pairs (after_pairs s k) j
unfolding after_pairs
after_pairs-add s k zero = rw (add-zero k) refl
after_pairs-add s k (suc j) = rw (add-suc k j) (ap after_pair (after_pairs-add s k j))

pub mark_at-add : (s : Stream) (k j : ℕ) → mark_at s (k + j) ≡ mark_at (after_pairs s k) j
mark_at-add s k j = ap next_mark (after_pairs-add s k j)

-- one more listed mark
pub is_listed-push : (marks : List (List ℕ)) (mark new : List ℕ) → is_listed (marks ++ new ∷ []) mark ≡ (is_listed marks mark || bytes_eq new mark)
is_listed-push marks mark new = list_any-append (λ other. bytes_eq other mark) marks (new ∷ []) ∙ ap (λ b. is_listed marks mark || b) (or-false (bytes_eq new mark))

-- one more pair, where it is a repeat and where it is new
pub firsts-repeat : (s : Stream) (k : ℕ) → is_repeat s k ≡ true → firsts s (suc k) ≡ firsts s k
unfolding firsts
firsts-repeat s k repeat = cond-true (is_repeat s k) _ _ repeat

pub firsts-new : (s : Stream) (k : ℕ) → is_repeat s k ≡ false → firsts s (suc k) ≡ firsts s k ++ mark_at s k ∷ []
unfolding firsts
firsts-new s k new = cond-false (is_repeat s k) _ _ new

-- a mark that is among the listed ones adds none
listed_again : (marks : List (List ℕ)) (mark new : List ℕ) → is_listed marks new ≡ true → is_listed (marks ++ new ∷ []) mark ≡ is_listed marks mark
listed_again marks mark new listed = elim (cases_Bool (bytes_eq new mark)) [
  | inl same ↦
      let equal : new ≡ mark = (bytes_eq-Decides new mark).0 same in
      let here : is_listed marks mark ≡ true = rw equal at listed in
      is_listed-push marks mark new ∙ or_left _ _ here ∙ sym here
  | inr other ↦ is_listed-push marks mark new ∙ rw other (or-false (is_listed marks mark))
]

-- the marks of some pairs list what they list without the repeats
pub is_listed-firsts : (s : Stream) (k : ℕ) (mark : List ℕ) → is_listed (firsts s k) mark ≡ is_listed (marks_before s k) mark
unfolding firsts marks_before
is_listed-firsts s zero mark = refl
is_listed-firsts s (suc k) mark = elim (cases_Bool (is_repeat s k)) [
  | inl repeat ↦
      ap (λ l. is_listed l mark) (firsts-repeat s k repeat) ∙ is_listed-firsts s k mark
      ∙ sym (listed_again (marks_before s k) mark (mark_at s k) repeat)
  | inr new ↦
      ap (λ l. is_listed l mark) (firsts-new s k new) ∙ is_listed-push (firsts s k) mark (mark_at s k)
      ∙ ap (λ b. b || bytes_eq (mark_at s k) mark) (is_listed-firsts s k mark)
      ∙ sym (is_listed-push (marks_before s k) mark (mark_at s k))
]

-- a pair's mark against the marks that were kept before it
pub is_repeat-firsts : (s : Stream) (k : ℕ) → is_repeat s k ≡ is_listed (firsts s k) (mark_at s k)
is_repeat-firsts s k = sym (is_listed-firsts s k (mark_at s k))

-- pairs that are repeats add no mark
pub firsts-repeats : (s : Stream) (k n : ℕ) → ((j : ℕ) → j < n → is_repeat s (k + j) ≡ true) → firsts s (k + n) ≡ firsts s k
firsts-repeats s k zero repeats = rw (add-zero k) refl
firsts-repeats s k (suc n) repeats =
    rw (add-suc k n) (firsts-repeat s (k + n) (repeats n (omega arith)) ∙ firsts-repeats s k n (λ j below. repeats j (omega arith)))

-- pairs whose marks were kept before are repeats
pub repeats-listed : (s : Stream) (k n : ℕ) → ((j : ℕ) → j < n → is_listed (firsts s k) (mark_at (after_pairs s k) j) ≡ true) → (j : ℕ) → j < n → is_repeat s (k + j) ≡ true
repeats-listed s k zero listed j below = absurd (omega arith)
repeats-listed s k (suc n) listed j below = elim (cases_lt j n) [
  | inl less ↦ repeats-listed s k n (λ i i_below. listed i (omega arith)) j less
  | inr last ↦
      let earlier = repeats-listed s k n (λ i i_below. listed i (omega arith)) in
      let e : j ≡ n = omega arith in
      let kept : firsts s (k + n) ≡ firsts s k = firsts-repeats s k n earlier in
      rw e (is_repeat-firsts s (k + n) ∙ rw (kept, mark_at-add s k n) (listed n (omega arith)))
]

-- more pairs keep no fewer marks
pub length-firsts-suc : (s : Stream) (k : ℕ) → length (firsts s k) ≤ length (firsts s (suc k))
length-firsts-suc s k = elim (cases_Bool (is_repeat s k)) [
  | inl repeat ↦ rw (firsts-repeat s k repeat) (omega arith)
  | inr new ↦ rw (firsts-new s k new) (omega (arith, length-append {A = List ℕ}))
]

pub length-firsts-mono : (s : Stream) (k n : ℕ) → k ≤ n → length (firsts s k) ≤ length (firsts s n)
length-firsts-mono s k zero h =
    let e : k ≡ 0 = omega arith in
    rw e (omega arith)
length-firsts-mono s k (suc n) h = elim (cases_lt n k) [
  | inl top ↦
      let e : k ≡ suc n = omega arith in
      rw e (omega arith)
  | inr below ↦ omega (arith, length-firsts-mono s k n below, length-firsts-suc s n)
]

-- a mark that is not listed differs from each that is
differs : (marks : List (List ℕ)) (mark : List ℕ) → is_listed marks mark ≡ false → (k : ℕ) (d : List ℕ) → k < length marks → get_or marks k d ≢ mark
differs marks mark new k d below same =
    let p : List ℕ → Bool = λ other. bytes_eq other mark in
    let here : p (get_or marks k d) ≡ true = (bytes_eq-Decides (get_or marks k d) mark).1 same in
    both_ways (is_listed marks mark) new (list_any_at p marks k d below here)

-- the marks without the repeats are distinct
pub AllPairs-firsts : (s : Stream) (k : ℕ) → AllPairs (λ one other. one ≢ other) (firsts s k)
unfolding firsts
AllPairs-firsts s zero = λ i j d less below. absurd (omega arith)
AllPairs-firsts s (suc k) = elim (cases_Bool (is_repeat s k)) [
  | inl repeat ↦ rw (firsts-repeat s k repeat) (AllPairs-firsts s k)
  | inr new ↦
      rw (firsts-new s k new)
      (all_pairs_push (λ one other. one ≢ other) (firsts s k) (mark_at s k) (AllPairs-firsts s k)
      (differs (firsts s k) (mark_at s k) (is_listed-firsts s k (mark_at s k) ∙ new)))
]

-- each of them is a mark
pub All-firsts : (s : Stream) (k : ℕ) → All IsMark (firsts s k)
unfolding firsts
All-firsts s zero = λ i d below. absurd (omega arith)
All-firsts s (suc k) = elim (cases_Bool (is_repeat s k)) [
  | inl repeat ↦ rw (firsts-repeat s k repeat) (All-firsts s k)
  | inr new ↦ rw (firsts-new s k new) (All-push IsMark (firsts s k) (mark_at s k) (All-firsts s k) (IsMark-next_mark (after_pairs s k)))
]
