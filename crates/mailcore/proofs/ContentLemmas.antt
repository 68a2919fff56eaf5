-- Laws of a message's lines as a whole, and of its content.
use Rattle.std.proofs.Common.{◌≡◌, ◌≢◌, ℕ, inl, inr, suc, ◌+◌, ◌*◌, ◌<◌, ◌≤◌, Bool, true, false, not, ◌&&◌, eqb, List, [], ◌∷◌, ◌++◌, length, sym, refl, ap, subst, ◌∙◌, append_assoc, append-nil, length-append, arith}
use Rattle.std.specs.List.{list_all, flat_map}
use Rattle.std.proofs.lemmas.Bool.{cond_both, cases_Bool, cases_eq, ne_eqb, false≢true, true≢false, not_from_false, false_from_ne_true}
use Rattle.std.proofs.lemmas.List.Elements.{All-nil, All-cons, All-head, All-tail, All-append, All-from_get_or}
use Rattle.std.proofs.lemmas.List.Sums.{list_all-from_AllPass}
use Rattle.memchr.specs.Find.{IsFirstByte, is_byte}
use Rattle.std.specs.Prelude.{◌==◌, Option, Some, None, is_none}
use Rattle.mailcore.specs.Content.{LF, CR, line_end_bytes, lf, crlf, crlf_after, with_line_ends, TextLine, lines_of, onto_first, line_bytes, is_empty_line, is_mark_line, without_marks, content_lines, content}
use Rattle.mailcore.specs.ContentLines.{without_last_crs}
use Rattle.mailcore.specs.declared.side.LineEnd.{LineEnd}
use Rattle.mailcore.specs.declared.side.LineEnd.TheVariants.{Lf, CrLf}
use Rattle.mailcore.proofs.LineLemmas.{HasNoLf, is_cr, without_marks-nil, without_marks-empty, without_marks-mark, without_marks-kept, without_last_crs_none, without_last_crs_no_lf, lf-before, lf-none, lines_of-before, lines_of-none, lines_left-before, lines_left-last}

-- ---- CRs before a line end

-- a CR stands at the end of a text, or, where the text is empty, before it
abbrev pub ends_in_cr : Bool → List ℕ → Bool
ends_in_cr before [] = before
ends_in_cr before (b ∷ t) = ends_in_cr (is_cr b) t

ends_in_cr_push : (before : Bool) (front : List ℕ) → ends_in_cr before (front ++ CR ∷ []) ≡ true
ends_in_cr_push before [] = refl
ends_in_cr_push before (b ∷ front) = ends_in_cr_push (is_cr b) front

-- a text that does not end in CR loses none
pub without_last_crs_same : (t : List ℕ) → ends_in_cr false t ≡ false → without_last_crs t ≡ t
without_last_crs_same t open_end =
    without_last_crs_none t (λ front is. true≢false (sym (ends_in_cr_push false front) ∙ ap (ends_in_cr false) (sym is) ∙ open_end))

-- what is left without the last CRs does not end in one, whatever stands before it if there is more than CRs
cut_end : (t : List ℕ) → ((before : Bool) → list_all is_cr t ≡ false → ends_in_cr before (without_last_crs t) ≡ false) × (ends_in_cr false (without_last_crs t) ≡ false)
cut_end [] = (λ before not_all. absurd (true≢false not_all), refl)
cut_end (b ∷ t) =
    let later = cut_end t in
    let kept : (is_cr b && list_all is_cr t) ≡ false → ends_in_cr (is_cr b) (without_last_crs t) ≡ false = λ not_all.
    elim (cases_Bool (is_cr b)) [
      | inl cr ↦ later.0 (is_cr b) (rw cr at not_all)
      | inr other ↦ rw other later.1
    ] in (
      λ before not_all. rw not_all (kept not_all),
      elim (cases_Bool (is_cr b && list_all is_cr t)) [ inl all ↦ rw all | inr not_all ↦ rw not_all (kept not_all) ],
    )

crlf_after-before : (cr : Bool) (t more : List ℕ) → HasNoLf t → ends_in_cr cr t ≡ false → crlf_after cr (t ++ LF ∷ more) ≡ t ++ CR ∷ LF ∷ crlf_after false more
crlf_after-before cr [] more free open_end = rw open_end
crlf_after-before cr (b ∷ t) more free open_end =
    rw (ne_eqb b LF (All-head (λ b. b ≢ LF) b t free)) (ap (λ x. b ∷ x) (crlf_after-before (is_cr b) t more (All-tail (λ b. b ≢ LF) b t free) open_end))

crlf_after-none : (cr : Bool) (t : List ℕ) → HasNoLf t → crlf_after cr t ≡ t
crlf_after-none cr [] free = refl
crlf_after-none cr (b ∷ t) free =
    rw (ne_eqb b LF (All-head (λ b. b ≢ LF) b t free)) (ap (λ x. b ∷ x) (crlf_after-none (is_cr b) t (All-tail (λ b. b ≢ LF) b t free)))

-- ---- lists of lines as a message has them

-- a line, with those after it: only a last line lacks LF, and it has a text
pub record IsLine (line : TextLine) (following : List TextLine) : Type 0 where
  pub no_lf : HasNoLf line.text
  pub no_cr : line.ended ≡ true → ends_in_cr false line.text ≡ false
  pub is_last : line.ended ≡ false → following ≡ []
  pub has_text : line.ended ≡ false → 0 < length line.text

abbrev pub AreLines : List TextLine → Type 0
AreLines [] = Unit {0}
AreLines (line ∷ lines) = IsLine line lines × AreLines lines

-- bytes are lines one by one
module _ (P : List ℕ → Type 0) (empty : P []) (last : (t : List ℕ) → 0 < length t → HasNoLf t → P t) (first : (t more : List ℕ) → HasNoLf t → P more → P (t ++ LF ∷ more)) where
  after_text : (t bs : List ℕ) → HasNoLf t → P (t ++ bs)
  after_text [] [] free = empty
  after_text (b ∷ t) [] free = subst P (sym (append-nil (b ∷ t))) (last (b ∷ t) (omega arith) free)
  after_text t (b ∷ bs) free =
      elim (cases_eq b LF) [
        | inl is ↦ subst (λ (x : ℕ). P (t ++ x ∷ bs)) (sym is) (first t bs free (after_text [] bs (All-nil (λ b. b ≢ LF))))
        | inr other ↦ (let whole = after_text (t ++ b ∷ []) bs (All-append (λ b. b ≢ LF) t (b ∷ []) free (All-cons (λ b. b ≢ LF) b [] other (All-nil (λ b. b ≢ LF)))) in
            rw append_assoc at whole)
      ]

  pub by_lines : (bs : List ℕ) → P bs
  by_lines bs = after_text [] bs (All-nil (λ b. b ≢ LF))

pub AreLines-lines_of_lf : (bs : List ℕ) → AreLines (lines_of (lf bs))
AreLines-lines_of_lf =
    by_lines (λ bs. AreLines (lines_of (lf bs))) tt
    (λ t some free. subst AreLines (sym (lines_left-last t some free))
    (record { no_lf = free; no_cr = λ e. absurd (false≢true e); is_last = λ _. refl; has_text = λ _. some }, tt))
    (λ t more free rest. subst AreLines (sym (lines_left-before t more free))
    (record { no_lf = without_last_crs_no_lf t free; no_cr = λ _. (cut_end t).1; is_last = λ e. absurd (true≢false e); has_text = λ e. absurd (true≢false e) }, rest))

pub AreLines-without_marks : (lines : List TextLine) → AreLines lines → AreLines (without_marks lines)
AreLines-without_marks [] are = subst AreLines (sym without_marks-nil) tt
AreLines-without_marks (line ∷ lines) are =
    let rest = AreLines-without_marks lines are.1 in
    elim (cases_Bool (is_empty_line line)) [
      | inl empty ↦ subst AreLines (sym (without_marks-empty line lines empty)) are
      | inr some ↦ elim (cases_Bool (is_mark_line line)) [
        | inl mark ↦ subst AreLines (sym (without_marks-mark line lines some mark)) rest
        | inr other ↦ subst AreLines (sym (without_marks-kept line lines some other))
            (record { no_lf = are.0.no_lf; no_cr = are.0.no_cr; is_last = λ e. ap without_marks (are.0.is_last e) ∙ without_marks-nil; has_text = are.0.has_text }, rest)
      ]
    ]

pub AreLines-content : (bs : List ℕ) → AreLines (content_lines bs)
AreLines-content bs = AreLines-without_marks (lines_of (lf bs)) (AreLines-lines_of_lf bs)

-- ---- the bytes of lines

line_bytes-ended : (line : TextLine) → line.ended ≡ true → (more : List ℕ) → line_bytes Lf line ++ more ≡ line.text ++ LF ∷ more
line_bytes-ended line is more = rw (is, append_assoc)

pub crlf-lines : (lines : List TextLine) → AreLines lines → crlf (flat_map (line_bytes Lf) lines) ≡ flat_map (line_bytes CrLf) lines
crlf-lines [] are = refl
crlf-lines (line ∷ lines) are =
    elim (cases_Bool line.ended) [
      | inl ended ↦ rw (ended, append_assoc, append_assoc)
          (crlf_after-before false line.text (flat_map (line_bytes Lf) lines) are.0.no_lf (are.0.no_cr ended)
          ∙ ap (λ x. line.text ++ CR ∷ LF ∷ x) (crlf-lines lines are.1))
      | inr open_end ↦ rw (open_end, are.0.is_last open_end) (rw append-nil (crlf_after-none false line.text are.0.no_lf))
    ]

-- the content as a store with these line ends keeps it, line by line
pub with_line_ends-content : (end : LineEnd) (bs : List ℕ) → with_line_ends end (content bs) ≡ flat_map (line_bytes end) (content_lines bs)
unfolding content
with_line_ends-content Lf bs = refl
with_line_ends-content CrLf bs = crlf-lines (content_lines bs) (AreLines-content bs)

-- ---- lengths

length-lf : (bs : List ℕ) → length (lf bs) ≤ length bs
length-lf [] = omega arith
length-lf (b ∷ bs) = cond_both _ (lf bs) (b ∷ lf bs) (λ x. length x ≤ suc (length bs)) (λ _. omega (arith, length-lf bs)) (λ _. omega (arith, length-lf bs))

length-line_end_bytes : (end : LineEnd) → length (line_end_bytes end) ≤ 2
length-line_end_bytes Lf = omega arith
length-line_end_bytes CrLf = omega arith

onto_first-bytes : (end : LineEnd) (b : ℕ) (lines : List TextLine) → flat_map (line_bytes end) (onto_first b lines) ≡ b ∷ flat_map (line_bytes end) lines
onto_first-bytes end b [] = refl
onto_first-bytes end b (line ∷ lines) =
    elim (cases_Bool line.ended) [ inl ended ↦ rw ended | inr open_end ↦ rw open_end ]

length-lines_of : (end : LineEnd) (bs : List ℕ) → length (flat_map (line_bytes end) (lines_of bs)) ≤ 2 * length bs
length-lines_of end [] = omega arith
length-lines_of end (b ∷ bs) =
    let later = length-lines_of end bs in
    cond_both (eqb b LF) (record { text = []; ended = true } ∷ lines_of bs) (onto_first b (lines_of bs)) (λ ls. length (flat_map (line_bytes end) ls) ≤ 2 * suc (length bs))
    (λ _. rw (length-append) (omega (arith, length-line_end_bytes end)))
    (λ _. rw (onto_first-bytes end b (lines_of bs)) (omega arith))

length-without_marks : (end : LineEnd) (lines : List TextLine) → length (flat_map (line_bytes end) (without_marks lines)) ≤ length (flat_map (line_bytes end) lines)
length-without_marks end [] = rw without_marks-nil (omega arith)
length-without_marks end (line ∷ lines) =
    let later = length-without_marks end lines in
    elim (cases_Bool (is_empty_line line)) [
      | inl empty ↦ rw (without_marks-empty line lines empty) (omega arith)
      | inr some ↦ elim (cases_Bool (is_mark_line line)) [
        | inl mark ↦ rw (without_marks-mark line lines some mark) (simp length-append (omega arith))
        | inr other ↦ rw (without_marks-kept line lines some other) (simp length-append (omega arith))
      ]
    ]

-- a content has at most twice as many bytes as its message
pub length-content_lines : (end : LineEnd) (bs : List ℕ) → length (flat_map (line_bytes end) (content_lines bs)) ≤ 2 * length bs
length-content_lines end bs =
    omega (arith, length-without_marks end (lines_of (lf bs)), length-lines_of end (lf bs), length-lf bs)

-- the bytes of the next line are among those that are left
pub next_line_len : (end : LineEnd) (line : TextLine) (left more : List TextLine) → left ≡ line ∷ more
    → (length line.text ≤ length (flat_map (line_bytes end) left))
    × (line.ended ≡ true → length line.text + length (line_end_bytes end) ≤ length (flat_map (line_bytes end) left))
next_line_len end line left more is = rw is (
  elim (cases_Bool line.ended) [
    | inl ended ↦ rw ended (simp length-append (omega arith))
    | inr open_end ↦ rw open_end (simp length-append (omega arith))
  ],
  λ ended. rw ended (simp length-append (omega arith)),
)

-- ---- the content of a content

pub lf-lines : (lines : List TextLine) → AreLines lines → lf (flat_map (line_bytes Lf) lines) ≡ flat_map (line_bytes Lf) lines
lf-lines [] are = refl
lf-lines (line ∷ lines) are =
    let more = flat_map (line_bytes Lf) lines in
    elim (cases_Bool line.ended) [
      | inl ended ↦ ap lf (line_bytes-ended line ended more) ∙ lf-before line.text more are.0.no_lf
          ∙ ap (λ x. x ++ LF ∷ lf more) (without_last_crs_same line.text (are.0.no_cr ended)) ∙ ap (λ x. line.text ++ LF ∷ x) (lf-lines lines are.1)
          ∙ sym (line_bytes-ended line ended more)
      | inr open_end ↦ rw (open_end, are.0.is_last open_end) (rw append-nil (lf-none line.text are.0.no_lf))
    ]

lines_of-last : (t : List ℕ) → 0 < length t → HasNoLf t → lines_of t ≡ record { text = t; ended = false } ∷ []
lines_of-last [] some free = absurd (omega arith)
lines_of-last (b ∷ t) some free = lines_of-none b t free

-- lines are read again from their bytes
pub lines_of-lines : (lines : List TextLine) → AreLines lines → lines_of (flat_map (line_bytes Lf) lines) ≡ lines
lines_of-lines [] are = refl
lines_of-lines (line ∷ lines) are =
    let more = flat_map (line_bytes Lf) lines in
    elim (cases_Bool line.ended) [
      | inl ended ↦ ap lines_of (line_bytes-ended line ended more) ∙ lines_of-before line.text more are.0.no_lf
          ∙ ap (λ x. record { text = line.text; ended = x } ∷ lines_of more) (sym ended) ∙ ap (λ x. line ∷ x) (lines_of-lines lines are.1)
      | inr open_end ↦ rw (open_end, are.0.is_last open_end) (rw append-nil (lines_of-last line.text (are.0.has_text open_end) are.0.no_lf))
    ]

pub without_marks-twice : (lines : List TextLine) → without_marks (without_marks lines) ≡ without_marks lines
without_marks-twice [] = ap without_marks without_marks-nil
without_marks-twice (line ∷ lines) =
    elim (cases_Bool (is_empty_line line)) [
      | inl empty ↦ ap without_marks (without_marks-empty line lines empty)
      | inr some ↦ elim (cases_Bool (is_mark_line line)) [
        | inl mark ↦ rw (without_marks-mark line lines some mark) (without_marks-twice lines)
        | inr other ↦ rw (without_marks-kept line lines some other) (without_marks-kept line (without_marks lines) some other ∙ ap (λ x. line ∷ x) (without_marks-twice lines))
      ]
    ]

pub lf-content : (bs : List ℕ) → lf (content bs) ≡ content bs
unfolding content
lf-content bs = lf-lines (content_lines bs) (AreLines-content bs)

pub lines_of-content : (bs : List ℕ) → lines_of (content bs) ≡ content_lines bs
unfolding content
lines_of-content bs = lines_of-lines (content_lines bs) (AreLines-content bs)

pub content-content : (bs : List ℕ) → content (content bs) ≡ content bs
unfolding content
content-content bs =
    ap (λ x. flat_map (line_bytes Lf) (without_marks (lines_of x))) (lf-content bs)
    ∙ ap (λ x. flat_map (line_bytes Lf) (without_marks x)) (lines_of-content bs)
    ∙ ap (flat_map (line_bytes Lf)) (without_marks-twice (lines_of (lf bs)))

-- ---- fitness

-- where no NUL is found there is none
pub no_nul_found : (bs : List ℕ) (found : Option ℕ) → IsFirstByte (is_byte 0) bs found → is_none found ≡ true → list_all (λ b. not (b == 0)) bs ≡ true
no_nul_found bs None first none =
    list_all-from_AllPass (λ (b : ℕ). not (b == 0)) bs
    (All-from_get_or (λ b. not (b == 0) ≡ true) bs 0 (λ i below. not_from_false _ (false_from_ne_true _ (first i (omega arith) below))))
no_nul_found bs (Some k) first none = absurd (false≢true none)
