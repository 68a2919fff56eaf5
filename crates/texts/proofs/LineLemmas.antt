-- Texts that begin with a line.
use Rattle.std.proofs.Common.{◌≡◌, ◌≢◌, ℕ, ◌+◌, ◌<◌, ◌≤◌, Bool, cond, true, false, eqb, List, [], ◌∷◌, ◌++◌, length, length-append, get_or, drop, take, ap, ◌∙◌, refl, arith}
use Rattle.std.specs.Prelude.{All, IfNone, Option, None, Some}
use Rattle.std.specs.Cmp.Lexicographic.{pointwise}
use Rattle.std.proofs.lemmas.Grind.{common_steps}
use Rattle.std.proofs.lemmas.Bool.{ne_eqb}
use Rattle.std.proofs.lemmas.List.{drop_at, get_or_at}
use Rattle.std.proofs.lemmas.List.Elements.{All-head, All-tail}
use Rattle.texts.proofs.StartLemmas.{starts, no_start}
use Rattle.texts.specs.Lines.{IsLine, line_ends, lines_of, put_before}

-- one line end less
one_less : (line following : List ℕ) → line_ends following + 1 ≤ line_ends (line ++ 10 ∷ following)
one_less [] following = grind (arith, common_steps)
one_less (b ∷ line) following = let h = one_less line following in grind (arith, common_steps)

fewer_after : (front following : List ℕ) → line_ends following ≤ line_ends (front ++ following)
fewer_after [] following = omega arith
fewer_after (b ∷ front) following = let h = fewer_after front following in grind (arith, common_steps)

pub line_taken : (start line following text : List ℕ) → IsLine start line following text → line_ends following + 1 ≤ line_ends text
line_taken start line following text is =
    let same : line_ends text ≡ line_ends (start ++ (line ++ 10 ∷ following)) = ap (λ (t : List ℕ). line_ends t) is.parts in
    let h = fewer_after start (line ++ 10 ∷ following) in
    let g = one_less line following in
    omega arith

no_line : (start text rest line following : List ℕ) → rest ≡ drop (length start) text → All (λ b. b ≢ 10) rest → text ≢ start ++ (line ++ 10 ∷ following)
no_line start text rest line following is none parts =
    let here : rest ≡ line ++ 10 ∷ following = is ∙ ap (λ (x : List ℕ). drop (length start) x) parts ∙ drop_at start (line ++ 10 ∷ following) (length start) refl in
    let there : get_or rest (length line) 0 ≡ 10 = ap (λ (x : List ℕ). get_or x (length line) 0) here ∙ get_or_at line 10 following 0 (length line) refl in
    let size : length rest ≡ length (line ++ 10 ∷ following) = ap (λ (x : List ℕ). length x) here in
    none (length line) 0 (omega (arith, length-append line (10 ∷ following))) there

pub line_is : (start text rest line following : List ℕ) → pointwise eqb (take (length start) text) start ≡ true → rest ≡ drop (length start) text
    → rest ≡ line ++ 10 ∷ following → All (λ b. b ≢ 10) line → IsLine start line following text
line_is start text rest line following same is parts none = record {
  parts = starts start text rest same is ∙ ap (λ (x : List ℕ). start ++ x) parts;
  one_line = none;
}

pub other_start : {A : Type 0} (r : Option A) (start text : List ℕ) → pointwise eqb (take (length start) text) start ≡ false
    → IfNone r ((line following : List ℕ) → ¬ IsLine start line following text)
other_start None start text other = λ line following is. no_start start text (line ++ 10 ∷ following) other is.parts
other_start (Some x) start text other = tt

pub no_line_end : {A : Type 0} (r : Option A) (start text rest : List ℕ) → rest ≡ drop (length start) text → All (λ b. b ≢ 10) rest
    → IfNone r ((line following : List ℕ) → ¬ IsLine start line following text)
no_line_end None start text rest is none = λ line following l. no_line start text rest line following is none l.parts
no_line_end (Some x) start text rest is none = tt

-- ---- lines that the end of the text may end

in_line : (b : ℕ) (bs : List ℕ) → b ≢ 10 → lines_of (b ∷ bs) ≡ put_before b (lines_of bs)
in_line b bs other = ap (λ (t : Bool). cond t ([] ∷ lines_of bs) (put_before b (lines_of bs))) (ne_eqb b 10 other)

pub first_line : (line rest : List ℕ) → All (λ b. b ≢ 10) line → lines_of (line ++ 10 ∷ rest) ≡ line ∷ lines_of rest
first_line [] rest none = refl
first_line (b ∷ line) rest none =
    in_line b (line ++ 10 ∷ rest) (All-head (λ (x : ℕ). x ≢ 10) b line none)
    ∙ ap (put_before b) (first_line line rest (All-tail (λ (x : ℕ). x ≢ 10) b line none))

pub last_line : (b : ℕ) (line : List ℕ) → All (λ x. x ≢ 10) (b ∷ line) → lines_of (b ∷ line) ≡ (b ∷ line) ∷ []
last_line b [] none = in_line b [] (All-head (λ (x : ℕ). x ≢ 10) b [] none)
last_line b (c ∷ line) none =
    in_line b (c ∷ line) (All-head (λ (x : ℕ). x ≢ 10) b (c ∷ line) none)
    ∙ ap (put_before b) (last_line c line (All-tail (λ (x : ℕ). x ≢ 10) b (c ∷ line) none))

pub only_line : (text : List ℕ) → All (λ x. x ≢ 10) text → 0 < length text → lines_of text ≡ text ∷ []
only_line [] none some = absurd (omega arith)
only_line (b ∷ line) none some = last_line b line none
