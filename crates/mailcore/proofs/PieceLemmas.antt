-- The pieces of a copy joined are its text.
use Rattle.std.proofs.Common.{◌≡◌, ◌+◌, ℕ, length, arith, true, false, List, [], ◌∷◌, ◌++◌, refl, sym, ap, ◌∙◌, append_assoc, append-nil, length-append, inl, inr}
use Rattle.std.specs.Prelude.{codes}
use Rattle.std.specs.List.{flat_map}
use Rattle.std.proofs.lemmas.Bool.{and_parts, cases_Bool, eqb-true}
use Rattle.mailcore.proofs.ContentLemmas.{with_line_ends-content}
use Rattle.mailcore.specs.Content.{TextLine, line_bytes, line_end_bytes, content, content_lines, copy_text, with_line_ends}
use Rattle.mailcore.specs.Mark.{is_mark}
use Rattle.mailcore.specs.declared.side.LineEnd.{LineEnd}
use Rattle.mailcore.proofs.CopyLemmas.{copy_text-bytes}
use Rattle.mailcore.specs.CopyPieces.{line_pieces, join}

pub join_lines : (end : LineEnd) (lines : List TextLine) → join (flat_map (line_pieces end) lines) ≡ flat_map (line_bytes end) lines
join_lines end [] = refl
join_lines end (line ∷ lines) = elim (cases_Bool line.ended) [
  | inl ended ↦ rw (ended, append_assoc) (ap (λ rest. line.text ++ (line_end_bytes end ++ rest)) (join_lines end lines))
  | inr open_end ↦ rw open_end (ap (λ rest. line.text ++ rest) (join_lines end lines))
]

-- a copy is the line of its mark and then the lines of the content
pub text_is : (mark bs : List ℕ) (end : LineEnd) → is_mark mark ≡ true →
    codes "X-TUID: " ++ (mark ++ (line_end_bytes end ++ join (flat_map (line_pieces end) (content_lines bs)))) ≡ copy_text mark bs end
text_is mark bs end is =
    ap (λ rest. codes "X-TUID: " ++ (mark ++ (line_end_bytes end ++ rest))) (join_lines end (content_lines bs))
    ∙ ap (λ x. codes "X-TUID: " ++ x) (sym (append_assoc mark (line_end_bytes end) (flat_map (line_bytes end) (content_lines bs))))
    ∙ sym (copy_text-bytes mark bs end is)

-- how many bytes they are
pub text_length : (mark bs : List ℕ) (end : LineEnd) → is_mark mark ≡ true
    → length (copy_text mark bs end) ≡ 20 + length (line_end_bytes end) + length (with_line_ends end (content bs))
text_length mark bs end is =
    let twelve : length mark ≡ 12 = eqb-true _ _ (and_parts _ _ is).0 in
    let parts = copy_text-bytes mark bs end is ∙ append_assoc (codes "X-TUID: " ++ mark) (line_end_bytes end) (flat_map (line_bytes end) (content_lines bs)) in
    let ends : length (with_line_ends end (content bs)) ≡ length (flat_map (line_bytes end) (content_lines bs)) = ap (λ (l : List ℕ). length l) (with_line_ends-content end bs) in
    let e : ℕ = length (line_end_bytes end) in
    let f : List ℕ = flat_map (line_bytes end) (content_lines bs) in
    let head : length (codes "X-TUID: " ++ mark) ≡ 8 + length mark = length-append (codes "X-TUID: ") mark in
    let following : length (line_end_bytes end ++ f) ≡ e + length f = length-append (line_end_bytes end) f in
    let both : length ((codes "X-TUID: " ++ mark) ++ (line_end_bytes end ++ f)) ≡ length (codes "X-TUID: " ++ mark) + length (line_end_bytes end ++ f) = length-append (codes "X-TUID: " ++ mark) (line_end_bytes end ++ f) in
    ap (λ (l : List ℕ). length l) parts ∙ omega (arith, twelve, ends, head, following, both)
