-- Laws of lines and of what is taken out of them.
use Rattle.std.proofs.Common.{◌≡◌, ◌≢◌, ℕ, All, inl, inr, ◌+◌, ◌<◌, Bool, true, false, ◌&&◌, ◌==◌, List, [], ◌∷◌, ◌++◌, length, take, drop, sym, refl, ap, ◌∙◌, arith, one-add, add-one, get_or-take, length-take, drop-cons, take-append-drop}
use Rattle.std.specs.Prelude.{slice_range}
use Rattle.std.proofs.lemmas.List.{take_rest}
use Rattle.std.specs.List.{list_all}
use Rattle.std.proofs.lemmas.Bool.{cond-false, cond_both, cases_Bool, and_right, and_parts, ne_eqb, eq-eqb, eqb-true}
use Rattle.std.proofs.lemmas.List.Elements.{All-nil, All-cons, All-from_get_or, All-head, All-tail}
use Rattle.mailcore.specs.Content.{LF, CR, at_line_end, lf, TextLine, lines_of, onto_first, is_empty_line, is_mark_line, without_marks}
use Rattle.memchr.specs.Find.{Nowhere, NoneBefore, Passes, is_byte}
use Rattle.mailcore.specs.ContentLines.{without_last_crs}

-- ---- the header without its mark lines

pub without_marks-nil : without_marks [] ≡ []
unfolding without_marks
without_marks-nil = refl

-- an empty line ends the header
pub without_marks-empty : (line : TextLine) (lines : List TextLine) → is_empty_line line ≡ true → without_marks (line ∷ lines) ≡ line ∷ lines
unfolding without_marks
without_marks-empty line lines e = rw e

-- a mark line of the header goes
pub without_marks-mark : (line : TextLine) (lines : List TextLine) → is_empty_line line ≡ false → is_mark_line line ≡ true → without_marks (line ∷ lines) ≡ without_marks lines
unfolding without_marks
without_marks-mark line lines e m = rw (e, one-add, m)

-- another line of the header stays
pub without_marks-kept : (line : TextLine) (lines : List TextLine) → is_empty_line line ≡ false → is_mark_line line ≡ false → without_marks (line ∷ lines) ≡ line ∷ without_marks lines
unfolding without_marks
without_marks-kept line lines e m = rw (e, one-add, m)

-- what becomes of a line of the header
pub ruleset header_lines = (without_marks-nil, without_marks-empty, without_marks-mark, without_marks-kept)

-- ---- CRs at the end of a text

-- a test that the byte is a CR
abbrev pub is_cr : ℕ → Bool
is_cr b = b == CR

abbrev pub HasNoLf : List ℕ → Type 0
HasNoLf bs = All (λ b. b ≢ LF) bs

all_crs_push : (xs : List ℕ) → list_all is_cr (xs ++ CR ∷ []) ≡ list_all is_cr xs
all_crs_push [] = refl
all_crs_push (b ∷ xs) = ap (λ x. is_cr b && x) (all_crs_push xs)

-- one more CR at the end goes too
pub without_last_crs_push : (xs : List ℕ) → without_last_crs (xs ++ CR ∷ []) ≡ without_last_crs xs
without_last_crs_push [] = refl
without_last_crs_push (b ∷ xs) = rw (all_crs_push xs, without_last_crs_push xs)

-- nothing is left of CRs alone
pub without_last_crs_all : (xs : List ℕ) → list_all is_cr xs ≡ true → without_last_crs xs ≡ []
without_last_crs_all [] all = refl
without_last_crs_all (b ∷ xs) all = rw all

-- a text that does not end in CR stays
pub without_last_crs_none : (xs : List ℕ) → ((front : List ℕ) → xs ≢ front ++ CR ∷ []) → without_last_crs xs ≡ xs
without_last_crs_none [] other = refl
without_last_crs_none (b ∷ []) other =
    let ne : b ≢ CR = λ e. other [] (ap (λ x. x ∷ []) e) in
    rw (ne_eqb b CR ne)
without_last_crs_none (b ∷ c ∷ xs) other =
    let rest = without_last_crs_none (c ∷ xs) (λ front e. other (b ∷ front) (ap (λ x. b ∷ x) e)) in
    elim (cases_Bool (list_all is_cr (c ∷ xs))) [
      | inl all ↦ (let gone : c ∷ xs ≡ [] = sym rest ∙ without_last_crs_all (c ∷ xs) all in cc)
      | inr some ↦ cond-false _ _ _ (and_right (is_cr b) _ some) ∙ ap (λ x. b ∷ x) rest
    ]

-- nor does an LF come in
pub without_last_crs_no_lf : (xs : List ℕ) → HasNoLf xs → HasNoLf (without_last_crs xs)
without_last_crs_no_lf [] free = free
without_last_crs_no_lf (b ∷ xs) free =
    cond_both (is_cr b && list_all is_cr xs) [] (b ∷ without_last_crs xs) HasNoLf
    (λ _. All-nil (λ b. b ≢ LF))
    (λ _. All-cons (λ b. b ≢ LF) b _ (All-head (λ b. b ≢ LF) b xs free) (without_last_crs_no_lf xs (All-tail (λ b. b ≢ LF) b xs free)))

-- ---- a text without LF, and what follows it

at_line_end-before : (t more : List ℕ) → HasNoLf t → at_line_end (t ++ LF ∷ more) ≡ list_all is_cr t
at_line_end-before [] more free = refl
at_line_end-before (b ∷ t) more free =
    rw (ne_eqb b LF (All-head (λ b. b ≢ LF) b t free), at_line_end-before t more (All-tail (λ b. b ≢ LF) b t free))

at_line_end-none : (t : List ℕ) → HasNoLf t → at_line_end t ≡ false
at_line_end-none [] free = refl
at_line_end-none (b ∷ t) free =
    rw (ne_eqb b LF (All-head (λ b. b ≢ LF) b t free)) (and_right (is_cr b) _ (at_line_end-none t (All-tail (λ b. b ≢ LF) b t free)))

pub lf-before : (t more : List ℕ) → HasNoLf t → lf (t ++ LF ∷ more) ≡ without_last_crs t ++ LF ∷ lf more
lf-before [] more free = refl
lf-before (b ∷ t) more free =
    let later = lf-before t more (All-tail (λ b. b ≢ LF) b t free) in
    rw (at_line_end-before t more (All-tail (λ b. b ≢ LF) b t free)) (elim (cases_Bool (is_cr b && list_all is_cr t)) [
      | inl all ↦ rw all (later ∙ ap (λ x. x ++ LF ∷ lf more) (without_last_crs_all t (and_parts _ _ all).1))
      | inr some ↦ rw some (ap (λ x. b ∷ x) later)
    ])

pub lf-none : (t : List ℕ) → HasNoLf t → lf t ≡ t
lf-none [] free = refl
lf-none (b ∷ t) free =
    let rest = All-tail (λ b. b ≢ LF) b t free in
    cond-false _ _ _ (and_right (is_cr b) _ (at_line_end-none t rest)) ∙ ap (λ x. b ∷ x) (lf-none t rest)

pub lines_of-before : (t more : List ℕ) → HasNoLf t → lines_of (t ++ LF ∷ more) ≡ record { text = t; ended = true } ∷ lines_of more
lines_of-before [] more free = refl
lines_of-before (b ∷ t) more free =
    rw (ne_eqb b LF (All-head (λ b. b ≢ LF) b t free), lines_of-before t more (All-tail (λ b. b ≢ LF) b t free))

pub lines_of-none : (b : ℕ) (t : List ℕ) → HasNoLf (b ∷ t) → lines_of (b ∷ t) ≡ record { text = b ∷ t; ended = false } ∷ []
lines_of-none b [] free = rw (ne_eqb b LF (All-head (λ b. b ≢ LF) b [] free))
lines_of-none b (c ∷ t) free =
    rw (ne_eqb b LF (All-head (λ b. b ≢ LF) b (c ∷ t) free)) (ap (onto_first b) (lines_of-none c t (All-tail (λ b. b ≢ LF) b (c ∷ t) free)))

-- ---- the lines one by one

-- a text, its line end and more
pub lines_left-before : (t more : List ℕ) → HasNoLf t → lines_of (lf (t ++ LF ∷ more)) ≡ record { text = without_last_crs t; ended = true } ∷ lines_of (lf more)
lines_left-before t more free =
    ap lines_of (lf-before t more free) ∙ lines_of-before (without_last_crs t) (lf more) (without_last_crs_no_lf t free)

-- a last line without LF
pub lines_left-last : (t : List ℕ) → 0 < length t → HasNoLf t → lines_of (lf t) ≡ record { text = t; ended = false } ∷ []
lines_left-last [] some free = absurd (omega arith)
lines_left-last (b ∷ t) some free = ap lines_of (lf-none (b ∷ t) free) ∙ lines_of-none b t free

-- what stands before the first LF has none
pub before_first_lf : (hay : List ℕ) (k : ℕ) → NoneBefore (Passes (is_byte LF) hay) 0 (length hay) k → HasNoLf (take k hay)
before_first_lf hay k first = All-from_get_or (λ b. b ≢ LF) (take k hay) 0 (λ i below same.
    let before : i < k = omega (arith, length-take k hay) in
    first.before i (omega arith) before (eq-eqb _ _ (sym (get_or-take k hay i 0 before) ∙ same)))

-- a list is cut at its first LF
pub split_at_first_lf : (hay : List ℕ) (k : ℕ) → k < length hay → Passes (is_byte LF) hay k → hay ≡ take k hay ++ LF ∷ drop (k + 1) hay
split_at_first_lf hay k below is =
    sym (take-append-drop k hay) ∙ ap (λ x. take k hay ++ x) (drop-cons hay k 0 below ∙ rw (eqb-true _ _ is, add-one))

-- where no LF is found there is none
pub no_lf : (hay : List ℕ) → Nowhere (Passes (is_byte LF) hay) 0 (length hay) → HasNoLf hay
no_lf hay none = All-from_get_or (λ b. b ≢ LF) hay 0 (λ i below same. none i (omega arith) below (eq-eqb _ _ same))

-- the first line, where the first LF is found
pub lines_left_found : (hay : List ℕ) (k : ℕ) → NoneBefore (Passes (is_byte LF) hay) 0 (length hay) k × Passes (is_byte LF) hay k → lines_of (lf hay) ≡ record { text = without_last_crs (take k hay); ended = true } ∷ lines_of (lf (slice_range hay (k + 1) (length hay)))
lines_left_found hay k found =
    rw (take_rest hay (k + 1)) (ap (λ x. lines_of (lf x)) (split_at_first_lf hay k found.0.high found.1) ∙ lines_left-before (take k hay) (drop (k + 1) hay) (before_first_lf hay k found.0))

-- the only line, where no LF is found
pub lines_left_not_found : (hay : List ℕ) → 0 < length hay → Nowhere (Passes (is_byte LF) hay) 0 (length hay) → lines_of (lf hay) ≡ record { text = hay; ended = false } ∷ []
lines_left_not_found hay some none = lines_left-last hay some (no_lf hay none)
