-- What it takes to cut a text at a byte.
use Rattle.std.proofs.Common.{◌≡◌, ◌≢◌, ℕ, zero, suc, ◌<◌, cond, eqb, List, [], ◌∷◌, ◌++◌, length, get_or, take, drop, Option, None, Some, All, refl, ap, inl, inr, arith}
use Rattle.std.specs.Option.{option_map}
use Rattle.std.proofs.lemmas.Bool.{ne_eqb, eq-eqb, cases_eq}
use Rattle.std.proofs.lemmas.List.Elements.{All-nil, All-cons, All-head, All-tail}
use Rattle.texts.specs.Cut.{Sides, onto_front, cut_first, cut_last, or_here}

-- ---- the byte stands at a place and not before it, or not after it

pub cut_first-none : (byte : ℕ) (text : List ℕ) → ((k : ℕ) → k < length text → get_or text k 0 ≢ byte) → cut_first byte text ≡ None
cut_first-none byte [] none = refl
cut_first-none byte (b ∷ bs) none =
    rw (ne_eqb b byte (none zero (omega arith)), cut_first-none byte bs (λ k below. none (suc k) (omega arith))) refl

pub cut_first-place : (byte : ℕ) (text : List ℕ) (place : ℕ) → place < length text → get_or text place 0 ≡ byte → ((k : ℕ) → k < place → get_or text k 0 ≢ byte)
    → cut_first byte text ≡ Some (take place text, drop (suc place) text)
cut_first-place byte [] place within is before = absurd (omega arith)
cut_first-place byte (b ∷ bs) zero within is before = rw (eq-eqb b byte is) refl
cut_first-place byte (b ∷ bs) (suc place) within is before =
    rw (ne_eqb b byte (before zero (omega arith)), cut_first-place byte bs place (omega arith) is (λ k below. before (suc k) (omega arith))) refl

pub cut_last-none : (byte : ℕ) (text : List ℕ) → ((k : ℕ) → k < length text → get_or text k 0 ≢ byte) → cut_last byte text ≡ None
cut_last-none byte [] none = refl
cut_last-none byte (b ∷ bs) none =
    rw (cut_last-none byte bs (λ k below. none (suc k) (omega arith)), ne_eqb b byte (none zero (omega arith))) refl

pub cut_last-place : (byte : ℕ) (text : List ℕ) (place : ℕ) → place < length text → get_or text place 0 ≡ byte
    → ((k : ℕ) → place < k → k < length text → get_or text k 0 ≢ byte)
    → cut_last byte text ≡ Some (take place text, drop (suc place) text)
cut_last-place byte [] place within is following = absurd (omega arith)
cut_last-place byte (b ∷ bs) zero within is following =
    rw (cut_last-none byte bs (λ k below. following (suc k) (omega arith) (omega arith)), eq-eqb b byte is) refl
cut_last-place byte (b ∷ bs) (suc place) within is following =
    rw (cut_last-place byte bs place (omega arith) is (λ k above below. following (suc k) (omega arith) (omega arith))) refl

-- ---- a text that is put together of parts

abbrev pub Lacks : ℕ → List ℕ → Type 0
Lacks byte text = All (λ b. b ≢ byte) text

pub cut_first-lacks : (byte : ℕ) (text : List ℕ) → Lacks byte text → cut_first byte text ≡ None
cut_first-lacks byte text lacks = cut_first-none byte text (λ k below. lacks k 0 below)

pub cut_first-append : (byte : ℕ) (front following : List ℕ) → Lacks byte front → cut_first byte (front ++ byte ∷ following) ≡ Some (front, following)
cut_first-append byte [] following lacks = rw (eq-eqb byte byte refl) refl
cut_first-append byte (b ∷ front) following lacks =
    rw (ne_eqb b byte (All-head (λ b. b ≢ byte) b front lacks), cut_first-append byte front following (All-tail (λ b. b ≢ byte) b front lacks)) refl

pub cut_last-lacks : (byte : ℕ) (text : List ℕ) → Lacks byte text → cut_last byte text ≡ None
cut_last-lacks byte text lacks = cut_last-none byte text (λ k below. lacks k 0 below)

pub cut_last-append : (byte : ℕ) (front following : List ℕ) → Lacks byte following → cut_last byte (front ++ byte ∷ following) ≡ Some (front, following)
cut_last-append byte [] following lacks = rw (cut_last-lacks byte following lacks, eq-eqb byte byte refl) refl
cut_last-append byte (b ∷ front) following lacks = rw (cut_last-append byte front following lacks) refl

-- ---- what a cut says of the text

-- the text is what stands on both sides of the byte
abbrev pub Joins : ℕ → List ℕ → Option Sides → Type 0
Joins byte text None = Lacks byte text
Joins byte text (Some (front, following)) = (text ≡ front ++ byte ∷ following) × Lacks byte front

joins_more : (byte b : ℕ) (bs : List ℕ) (cut : Option Sides) → b ≢ byte → Joins byte bs cut → Joins byte (b ∷ bs) (option_map (onto_front b) cut)
joins_more byte b bs None other joins = All-cons (λ b. b ≢ byte) b bs other joins
joins_more byte b bs (Some (front, following)) other joins = (ap (λ (t : List ℕ). b ∷ t) joins.0, All-cons (λ b. b ≢ byte) b front other joins.1)

pub cut_first-joins : (byte : ℕ) (text : List ℕ) → Joins byte text (cut_first byte text)
cut_first-joins byte [] = All-nil (λ b. b ≢ byte)
cut_first-joins byte (b ∷ bs) =
    elim (cases_eq b byte) [
      | inl same ↦ rw (eq-eqb b byte same) (ap (λ (x : ℕ). x ∷ bs) same, All-nil (λ b. b ≢ byte))
      | inr other ↦ rw (ne_eqb b byte other) (joins_more byte b bs (cut_first byte bs) other (cut_first-joins byte bs))
    ]

-- the same for the last one, where the text has the byte
abbrev pub JoinsLast : ℕ → List ℕ → Option Sides → Type 0
JoinsLast byte text None = Lacks byte text
JoinsLast byte text (Some (front, following)) = text ≡ front ++ byte ∷ following

joins_last : (byte b : ℕ) (bs : List ℕ) (cut : Option Sides) → JoinsLast byte bs cut
    → JoinsLast byte (b ∷ bs) (or_here (option_map (onto_front b) cut) (cond (eqb b byte) (Some ([], bs)) None))
joins_last byte b bs None joins =
    elim (cases_eq b byte) [
      | inl same ↦ rw (eq-eqb b byte same) (ap (λ (x : ℕ). x ∷ bs) same)
      | inr other ↦ rw (ne_eqb b byte other) (All-cons (λ b. b ≢ byte) b bs other joins)
    ]
joins_last byte b bs (Some (front, following)) joins = ap (λ (t : List ℕ). b ∷ t) joins

pub cut_last-joins : (byte : ℕ) (text : List ℕ) → JoinsLast byte text (cut_last byte text)
cut_last-joins byte [] = All-nil (λ b. b ≢ byte)
cut_last-joins byte (b ∷ bs) = joins_last byte b bs (cut_last byte bs) (cut_last-joins byte bs)
