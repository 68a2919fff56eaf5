-- Worked examples of `specs/Content.antt`, computed.
use Rattle.std.specs.Prelude.{true, false, ◌≡◌, refl, List, ℕ, [], ◌∷◌, ◌++◌, codes, Some, None}
use Rattle.mailcore.specs.Content.{LF, CR, content, copy_text, mark_of, fit, without_marks}
use Rattle.mailcore.specs.declared.side.Side.TheVariants.{Far, Near}
use Rattle.mailcore.specs.declared.side.LineEnd.TheVariants.{Lf, CrLf}

abbrev a_mark : List ℕ
a_mark = codes "AQAAAAAAAAAC"

crs_before_lf_go : content (codes "H: x" ++ CR ∷ CR ∷ LF ∷ []) ≡ codes "H: x" ++ LF ∷ []
unfolding content without_marks
crs_before_lf_go = refl

other_crs_stay : content (CR ∷ codes "a" ++ CR ∷ codes "b" ++ CR ∷ LF ∷ codes "c" ++ CR ∷ []) ≡ CR ∷ codes "a" ++ CR ∷ codes "b" ++ LF ∷ codes "c" ++ CR ∷ []
unfolding content without_marks
other_crs_stay = refl

a_body_without_header : content (CR ∷ LF ∷ codes "body") ≡ LF ∷ codes "body"
unfolding content without_marks
a_body_without_header = refl

its_far_copy : copy_text a_mark (CR ∷ LF ∷ codes "body") CrLf ≡ codes "X-TUID: AQAAAAAAAAAC" ++ CR ∷ LF ∷ CR ∷ LF ∷ codes "body"
unfolding copy_text content without_marks
its_far_copy = refl

mark_lines_go_from_the_header_alone : content (codes "x-tuid: q" ++ LF ∷ codes "A: b" ++ LF ∷ codes "X-TUID:z" ++ LF ∷ LF ∷ codes "X-TUID: keep" ++ LF ∷ []) ≡ codes "A: b" ++ LF ∷ LF ∷ codes "X-TUID: keep" ++ LF ∷ []
unfolding content without_marks
mark_lines_go_from_the_header_alone = refl

a_last_line_without_lf_is_a_line : content (codes "A: b" ++ CR ∷ LF ∷ codes "X-Tuid: z") ≡ codes "A: b" ++ LF ∷ []
unfolding content without_marks
a_last_line_without_lf_is_a_line = refl

the_empty_message : copy_text a_mark [] Lf ≡ codes "X-TUID: AQAAAAAAAAAC" ++ LF ∷ []
unfolding copy_text content without_marks
the_empty_message = refl

a_mark_before_cr_lf : mark_of (codes "X-TUID: AQAAAAAAAAAC" ++ CR ∷ LF ∷ []) ≡ Some a_mark
unfolding mark_of
a_mark_before_cr_lf = refl

no_mark_before_two_crs : mark_of (codes "X-TUID: AQAAAAAAAAAC" ++ CR ∷ CR ∷ LF ∷ []) ≡ None
unfolding mark_of
no_mark_before_two_crs = refl

no_mark_in_lower_case : mark_of (codes "x-tuid: AQAAAAAAAAAC" ++ LF ∷ []) ≡ None
unfolding mark_of
no_mark_in_lower_case = refl

no_mark_of_another_character : mark_of (codes "X-TUID: AQAAAA+AAAAC" ++ LF ∷ []) ≡ None
unfolding mark_of
no_mark_of_another_character = refl

nul_is_unfit_near : fit Near (codes "a" ++ 0 ∷ LF ∷ []) ≡ false
nul_is_unfit_near = refl

nul_is_fit_far : fit Far (codes "a" ++ 0 ∷ LF ∷ []) ≡ true
nul_is_fit_far = refl
