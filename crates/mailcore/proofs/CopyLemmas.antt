-- Laws of what stores hold: a content with their line ends, and the copy of a message under a mark.
use Rattle.std.proofs.Common.{◌≡◌, ◌≢◌, ℕ, All, inl, inr, Bool, true, false, not, ◌==◌, ◌&&◌, List, [], ◌∷◌, ◌++◌, length, take, drop, Some, sym, refl, ap, ◌∙◌, append_assoc, append-nil, arith}
use Rattle.std.proofs.Math.Seq.{take-append_seam, drop-append_seam}
use Rattle.std.specs.Prelude.{codes}
use Rattle.std.specs.List.{flat_map}
use Rattle.std.proofs.lemmas.Bool.{cases_Bool, and_parts, ne_eqb, eqb-true, eqb-false, not-true, false≢true, true≢false}
use Rattle.std.proofs.lemmas.List.Elements.{All-nil, All-cons, All-head, All-tail, All-append, All-weaker}
use Rattle.std.proofs.lemmas.List.Sums.{AllPass-from_list_all}
use Rattle.mailcore.specs.Content.{LF, CR, lf, with_line_ends, TextLine, lines_of, line_bytes, line_end_bytes, without_marks, content_lines, content, copy_text, begins_with_line_end, mark_of}
use Rattle.mailcore.specs.Mark.{is_mark_char, is_mark}
use Rattle.mailcore.specs.declared.side.LineEnd.{LineEnd}
use Rattle.mailcore.specs.declared.side.LineEnd.TheVariants.{Lf, CrLf}
use Rattle.mailcore.proofs.LineLemmas.{HasNoLf, is_cr, without_marks-mark, without_last_crs_push, lf-before, lf-none}
use Rattle.mailcore.proofs.ContentLemmas.{AreLines, AreLines-content, ends_in_cr, without_last_crs_same, crlf-lines, lf-lines, lines_of-lines, without_marks-twice}

-- ---- line ends of a store

lf-crlf_lines : (lines : List TextLine) → AreLines lines → lf (flat_map (line_bytes CrLf) lines) ≡ flat_map (line_bytes Lf) lines
lf-crlf_lines [] are = refl
lf-crlf_lines (line ∷ lines) are =
    let more = flat_map (line_bytes CrLf) lines in
    elim (cases_Bool line.ended) [
      | inl ended ↦ (let whole : HasNoLf (line.text ++ CR ∷ []) = All-append (λ b. b ≢ LF) line.text (CR ∷ []) are.0.no_lf (All-cons (λ b. b ≢ LF) CR [] (omega arith) (All-nil (λ b. b ≢ LF))) in
          let step : lf ((line.text ++ CR ∷ []) ++ LF ∷ more) ≡ line.text ++ LF ∷ flat_map (line_bytes Lf) lines =
          lf-before (line.text ++ CR ∷ []) more whole
          ∙ ap (λ x. x ++ LF ∷ lf more) (without_last_crs_push line.text ∙ without_last_crs_same line.text (are.0.no_cr ended))
          ∙ ap (λ x. line.text ++ LF ∷ x) (lf-crlf_lines lines are.1) in
          rw (ended, append_assoc, append_assoc) (rw append_assoc at step))
      | inr open_end ↦ rw (open_end, are.0.is_last open_end) (rw append-nil (lf-none line.text are.0.no_lf))
    ]

-- lines are read again from what a store with these line ends holds
lf-stored : (end : LineEnd) (lines : List TextLine) → AreLines lines → lf (with_line_ends end (flat_map (line_bytes Lf) lines)) ≡ flat_map (line_bytes Lf) lines
lf-stored Lf lines are = lf-lines lines are
lf-stored CrLf lines are = ap lf (crlf-lines lines are) ∙ lf-crlf_lines lines are

content-lines : (end : LineEnd) (lines : List TextLine) → AreLines lines → content (with_line_ends end (flat_map (line_bytes Lf) lines)) ≡ flat_map (line_bytes Lf) (without_marks lines)
unfolding content
content-lines end lines are =
    ap (λ x. flat_map (line_bytes Lf) (without_marks (lines_of x))) (lf-stored end lines are)
    ∙ ap (λ x. flat_map (line_bytes Lf) (without_marks x)) (lines_of-lines lines are)

-- the content of what a store holds of a content is that content
pub content-with_line_ends : (bs : List ℕ) (end : LineEnd) → content (with_line_ends end (content bs)) ≡ content bs
unfolding content
content-with_line_ends bs end = content-lines end (content_lines bs) (AreLines-content bs) ∙ ap (flat_map (line_bytes Lf)) (without_marks-twice (lines_of (lf bs)))

-- ---- copies

-- a mark line without its end
abbrev marked : List ℕ → TextLine
marked mark = record { text = codes "X-TUID: " ++ mark; ended = true }

-- the byte is part of no line end
abbrev IsPlain : ℕ → Type 0
IsPlain b = (b ≢ LF) × (is_cr b ≡ false)

IsPlain-mark_char : (b : ℕ) → is_mark_char b ≡ true → IsPlain b
IsPlain-mark_char b is =
    (λ e. false≢true (ap is_mark_char (sym e) ∙ is), ne_eqb b CR (λ e. false≢true (ap is_mark_char (sym e) ∙ is)))

IsPlain-mark_field : All IsPlain (codes "X-TUID: ")
IsPlain-mark_field =
    All-weaker (λ b. (not (b == LF) && not (b == CR)) ≡ true) IsPlain
    (λ b is. let parts = and_parts (not (b == LF)) (not (b == CR)) is in (eqb-false b LF (not-true _ parts.0), not-true _ parts.1))
    (codes "X-TUID: ") (AllPass-from_list_all (λ (b : ℕ). not (b == LF) && not (b == CR)) (codes "X-TUID: ") refl)

IsPlain-marked : (mark : List ℕ) → is_mark mark ≡ true → All IsPlain (codes "X-TUID: " ++ mark)
IsPlain-marked mark is =
    All-append IsPlain (codes "X-TUID: ") mark IsPlain-mark_field
    (All-weaker (λ b. is_mark_char b ≡ true) IsPlain IsPlain-mark_char mark (AllPass-from_list_all is_mark_char mark (and_parts _ _ is).1))

ends_in_cr-plain : (before : Bool) (t : List ℕ) → before ≡ false → All IsPlain t → ends_in_cr before t ≡ false
ends_in_cr-plain before [] none all = none
ends_in_cr-plain before (b ∷ t) none all = ends_in_cr-plain (is_cr b) t (All-head IsPlain b t all).1 (All-tail IsPlain b t all)

AreLines-copy : (mark bs : List ℕ) → is_mark mark ≡ true → AreLines (marked mark ∷ content_lines bs)
AreLines-copy mark bs is = (
  record {
    no_lf = All-weaker IsPlain (λ b. b ≢ LF) (λ b plain. plain.0) (codes "X-TUID: " ++ mark) (IsPlain-marked mark is);
    no_cr = λ _. ends_in_cr-plain false (codes "X-TUID: " ++ mark) refl (IsPlain-marked mark is);
    is_last = λ e. absurd (true≢false e);
    has_text = λ e. absurd (true≢false e);
  },
  AreLines-content bs,
)

copy_text-lines : (mark bs : List ℕ) (end : LineEnd) → copy_text mark bs end ≡ with_line_ends end (flat_map (line_bytes Lf) (marked mark ∷ content_lines bs))
unfolding copy_text content
copy_text-lines mark bs end = refl

-- the content of a copy is that of its source
pub content-copy_text : (mark bs : List ℕ) (end : LineEnd) → is_mark mark ≡ true → content (copy_text mark bs end) ≡ content bs
unfolding content
content-copy_text mark bs end is = ap content (copy_text-lines mark bs end) ∙ content-lines end (marked mark ∷ content_lines bs) (AreLines-copy mark bs is)
    ∙ ap (flat_map (line_bytes Lf)) (without_marks-mark (marked mark) (content_lines bs) (ne_eqb _ 0 (λ e. omega arith)) refl ∙ without_marks-twice (lines_of (lf bs)))

-- ---- marks

-- a text and what follows it
cut_after : (n : ℕ) (t more : List ℕ) → length t ≡ n → (take n (t ++ more) ≡ t) × (drop n (t ++ more) ≡ more)
cut_after n t more is = (
  ap (λ k. take k (t ++ more)) (sym is) ∙ take-append_seam t more,
  ap (λ k. drop k (t ++ more)) (sym is) ∙ drop-append_seam t more,
)

begins_with_line_end-bytes : (end : LineEnd) (more : List ℕ) → begins_with_line_end (line_end_bytes end ++ more) ≡ true
begins_with_line_end-bytes Lf more = refl
begins_with_line_end-bytes CrLf more = refl

mark_of-line : (mark more : List ℕ) (end : LineEnd) → is_mark mark ≡ true → mark_of ((codes "X-TUID: " ++ mark) ++ (line_end_bytes end ++ more)) ≡ Some mark
unfolding mark_of
mark_of-line mark more end is =
    let cut = cut_after 12 mark (line_end_bytes end ++ more) (eqb-true _ _ (and_parts _ _ is).0) in
    rw (cut.0, cut.1, is, begins_with_line_end-bytes end more)

pub copy_text-bytes : (mark bs : List ℕ) (end : LineEnd) → is_mark mark ≡ true → copy_text mark bs end ≡ flat_map (line_bytes end) (marked mark ∷ content_lines bs)
copy_text-bytes mark bs Lf is = copy_text-lines mark bs Lf
copy_text-bytes mark bs CrLf is = copy_text-lines mark bs CrLf ∙ crlf-lines (marked mark ∷ content_lines bs) (AreLines-copy mark bs is)

-- the mark of a copy is the one that it was given
pub mark_of-copy_text : (mark bs : List ℕ) (end : LineEnd) → is_mark mark ≡ true → mark_of (copy_text mark bs end) ≡ Some mark
mark_of-copy_text mark bs end is =
    ap mark_of (copy_text-bytes mark bs end is ∙ append_assoc (codes "X-TUID: " ++ mark) (line_end_bytes end) (flat_map (line_bytes end) (content_lines bs))) ∙ mark_of-line mark (flat_map (line_bytes end) (content_lines bs)) end is
