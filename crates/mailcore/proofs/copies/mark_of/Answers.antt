-- The mark is read from the bytes after the field.
use Rattle.std.proofs.Common.{◌≡◌, ℕ, ◌<◌, Bool, true, false, ◌&&◌, List, length, take, drop, sym, refl, ap, ◌∙◌, arith}
use Rattle.std.specs.Prelude.{Option, Some, None, SomeIff, codes, nat_eq, if◌then◌else◌}
use Rattle.std.specs.List.{starts_with}
use Rattle.std.specs.Cmp.Lexicographic.{pointwise}
use Rattle.std.proofs.lemmas.Bool.{and_right, ne_eqb, false_from_ne_true}
use Rattle.std.proofs.lemmas.Cmp.{nat_list_eq_equiv}
use Rattle.std.proofs.lemmas.List.{length-take, drop-drop}
use Rattle.mailcore.specs.Content.{begins_with_line_end, mark_of}
use Rattle.mailcore.specs.Mark.{is_mark, IsMark}
use Rattle.mailcore.proofs.copies.mark_of.Goals as goal

-- what begins the line of a mark
abbrev field : List ℕ
field = codes "X-TUID: "

-- the mark that this text is, if a line end follows it
abbrev ended_mark : List ℕ → List ℕ → Option (List ℕ)
ended_mark text rest = if is_mark text && begins_with_line_end rest then Some text else None

begins_with_field : (bs : List ℕ) (b : Bool) → pointwise nat_eq (take 8 bs) field ≡ b → starts_with nat_eq bs field ≡ b
begins_with_field bs b is = nat_list_eq_equiv.symm field (take 8 bs) ∙ is

no_field : (bs : List ℕ) → pointwise nat_eq (take 8 bs) field ≡ false → mark_of bs ≡ None
unfolding mark_of
no_field bs is = rw (begins_with_field bs false is)

after_field : (bs following text rest : List ℕ) → pointwise nat_eq (take 8 bs) field ≡ true → following ≡ drop 8 bs → text ≡ take 12 following → rest ≡ drop 12 following → mark_of bs ≡ ended_mark text rest
unfolding mark_of
after_field bs following text rest field_is past_is text_is rest_is =
    let far : rest ≡ drop 20 bs = rest_is ∙ ap (drop 12) past_is ∙ drop-drop 12 8 bs in
    rw (far, text_is, past_is, begins_with_field bs true field_is)

too_short : (following : List ℕ) → length following < 12 → ended_mark (take 12 following) (drop 12 following) ≡ None
too_short following short = rw (ne_eqb (length (take 12 following)) 12 (λ e. omega (arith, length-take 12 following)))

read_mark : (text rest : List ℕ) (found : Option (List ℕ)) → begins_with_line_end rest ≡ true → SomeIff found (IsMark text) text → found ≡ ended_mark text rest
read_mark text rest None ends other = rw (false_from_ne_true (is_mark text) other)
read_mark text rest (Some mark) ends is = rw (is.0, is.1, ends)

no_line_end : (text rest : List ℕ) → begins_with_line_end rest ≡ false → ended_mark text rest ≡ None
no_line_end text rest open_end = rw (and_right (is_mark text) (begins_with_line_end rest) open_end)

pub returns-in_err-following : goal.returns-in_err-following
returns-in_err-following c = c.from_residual.ensures ∙ sym (no_field _ c.in_err-following.ensures.cases)

pub returns-in_err-text : goal.returns-in_err-text
returns-in_err-text c =
    let following = c.in_ok-following.ensures.cases in
    c.from_residual-in_err-text.ensures
    ∙ sym (after_field _ _ _ _ following.0 following.1 refl refl ∙ too_short _ c.in_err-text.ensures.cases)

pub returns-then-ends_line : goal.returns-then-ends_line
returns-then-ends_line c =
    let following = c.in_ok-following.ensures.cases in
    let cut = c.in_ok-text.ensures.cases in
    read_mark c.in_ok-text.text.now c.in_ok-text.rest.now c.read.result (sym c.if-ends_line.ensures) c.read.ensures ∙ sym (after_field _ _ _ _ following.0 following.1 cut.1 cut.2)

pub returns-else-ends_line : goal.returns-else-ends_line
returns-else-ends_line c =
    let following = c.in_ok-following.ensures.cases in
    let cut = c.in_ok-text.ensures.cases in
    sym (after_field _ _ _ _ following.0 following.1 cut.1 cut.2 ∙ no_line_end c.in_ok-text.text.now c.in_ok-text.rest.now (sym c.if-ends_line.ensures))
