-- A copy under another mark is fit as it is.
use Rattle.std.proofs.Common.{◌≡◌, ◌≢◌, ◌+◌, ◌==◌, ◌&&◌, ℕ, All, Bool, true, false, List, [], ◌∷◌, ◌++◌, length, refl, sym, ap, ◌∙◌, arith, length-append}
use Rattle.std.specs.Prelude.{codes, not, nat_le}
use Rattle.std.specs.List.{flat_map, list_all}
use Rattle.std.proofs.lemmas.Bool.{and_parts, eqb-true, eqb-false, false≢true, ne_eqb, not-true}
use Rattle.std.proofs.lemmas.List.Elements.{All-append, All-head, All-tail, All-weaker}
use Rattle.std.proofs.lemmas.List.Sums.{AllPass-from_list_all}
use Rattle.mailcore.specs.declared.side.Side.{Side}
use Rattle.mailcore.specs.declared.side.Side.TheVariants.{Far, Near}
use Rattle.mailcore.specs.declared.side.LineEnd.TheVariants.{Lf}
use Rattle.mailcore.specs.Mark.{IsMark, is_mark_char}
use Rattle.mailcore.specs.Content.{LF, CR, TextLine, content, crlf, fit, lf, line_bytes, lines_of, onto_first, size_limit, without_marks}
use Rattle.mailcore.proofs.LineLemmas.{without_marks-mark}
use Rattle.rules.specs.Alike.{DifferInMark}

-- what begins a copy
abbrev marked : List ℕ → List ℕ
marked mark = codes "X-TUID: " ++ mark

-- ---- bytes that are part of no line end

abbrev IsPlain : ℕ → Type 0
IsPlain b = (b ≢ LF) × ((b == CR) ≡ false)

plain_char : (b : ℕ) → is_mark_char b ≡ true → IsPlain b
plain_char b is = (λ e. false≢true (ap is_mark_char (sym e) ∙ is), ne_eqb b CR (λ e. false≢true (ap is_mark_char (sym e) ∙ is)))

plain_field : All IsPlain (codes "X-TUID: ")
plain_field =
    All-weaker (λ b. (not (b == LF) && not (b == CR)) ≡ true) IsPlain
    (λ b is. let parts = and_parts (not (b == LF)) (not (b == CR)) is in (eqb-false b LF (not-true _ parts.0), not-true _ parts.1))
    (codes "X-TUID: ") (AllPass-from_list_all (λ (b : ℕ). not (b == LF) && not (b == CR)) (codes "X-TUID: ") refl)

plain_marked : (mark : List ℕ) → IsMark mark → All IsPlain (marked mark)
plain_marked mark is =
    All-append IsPlain (codes "X-TUID: ") mark plain_field
    (All-weaker (λ b. is_mark_char b ≡ true) IsPlain plain_char mark (AllPass-from_list_all is_mark_char mark (and_parts _ _ is).1))

-- ---- the line of a mark

lf-plain : (t more : List ℕ) → All IsPlain t → lf (t ++ more) ≡ t ++ lf more
lf-plain [] more h = refl
lf-plain (b ∷ t) more h = rw ((All-head IsPlain b t h).1) (ap (λ x. b ∷ x) (lf-plain t more (All-tail IsPlain b t h)))

-- the text begins the first line, or is a line without LF where there is none
abbrev onto : List ℕ → List TextLine → List TextLine
onto t [] = record { text = t; ended = false } ∷ []
onto t (line ∷ lines) = record { text = t ++ line.text; ended = line.ended } ∷ lines

onto-one : (b : ℕ) (lines : List TextLine) → onto_first b lines ≡ onto (b ∷ []) lines
onto-one b [] = refl
onto-one b (line ∷ lines) = refl

onto-more : (b : ℕ) (t : List ℕ) (lines : List TextLine) → onto_first b (onto t lines) ≡ onto (b ∷ t) lines
onto-more b t [] = refl
onto-more b t (line ∷ lines) = refl

lines_of-plain : (b : ℕ) (t more : List ℕ) → All IsPlain (b ∷ t) → lines_of ((b ∷ t) ++ more) ≡ onto (b ∷ t) (lines_of more)
lines_of-plain b [] more h = rw (ne_eqb b LF (All-head IsPlain b [] h).0) (onto-one b (lines_of more))
lines_of-plain b (c ∷ t) more h =
    rw (ne_eqb b LF (All-head IsPlain b (c ∷ t) h).0) (ap (onto_first b) (lines_of-plain c t more (All-tail IsPlain b (c ∷ t) h)) ∙ onto-more b (c ∷ t) (lines_of more))

abbrev following : List TextLine → List TextLine
following [] = []
following (line ∷ lines) = lines

mark_goes : (mark : List ℕ) (lines : List TextLine) → without_marks (onto (marked mark) lines) ≡ without_marks (following lines)
mark_goes mark [] = without_marks-mark (record { text = marked mark; ended = false }) [] (ne_eqb _ 0 (λ e. omega arith)) refl
mark_goes mark (line ∷ lines) = without_marks-mark (record { text = marked mark ++ line.text; ended = line.ended }) lines (ne_eqb _ 0 (λ e. omega arith)) refl

content_after : (mark rest : List ℕ) → IsMark mark → content (marked mark ++ rest) ≡ flat_map (line_bytes Lf) (without_marks (following (lines_of (lf rest))))
unfolding content
content_after mark rest is =
    ap (λ (x : List ℕ). flat_map (line_bytes Lf) (without_marks (lines_of x))) (lf-plain (marked mark) rest (plain_marked mark is))
    ∙ ap (λ (x : List TextLine). flat_map (line_bytes Lf) (without_marks x)) (lines_of-plain 88 (codes "-TUID: " ++ mark) (lf rest) (plain_marked mark is))
    ∙ ap (λ (x : List TextLine). flat_map (line_bytes Lf) x) (mark_goes mark (lines_of (lf rest)))

-- ---- fitness

abbrev no_nul : ℕ → Bool
no_nul b = not (b == 0)

all_after : (t more : List ℕ) → list_all no_nul t ≡ true → list_all no_nul (t ++ more) ≡ list_all no_nul more
all_after [] more h = refl
all_after (b ∷ t) more h = let parts = and_parts (no_nul b) (list_all no_nul t) h in rw parts.0 (all_after t more parts.1)

no_nul_char : (b : ℕ) → is_mark_char b ≡ true → no_nul b ≡ true
no_nul_char b is = rw (ne_eqb b 0 (λ e. false≢true (ap is_mark_char (sym e) ∙ is))) refl

no_nul_chars : (cs : List ℕ) → list_all is_mark_char cs ≡ true → list_all no_nul cs ≡ true
no_nul_chars [] h = refl
no_nul_chars (c ∷ cs) h = let parts = and_parts (is_mark_char c) (list_all is_mark_char cs) h in rw (no_nul_char c parts.0) (no_nul_chars cs parts.1)

no_nul_marked : (mark rest : List ℕ) → IsMark mark → list_all no_nul (marked mark ++ rest) ≡ list_all no_nul rest
no_nul_marked mark rest is = all_after mark rest (no_nul_chars mark (and_parts _ _ is).1)

length_marked : (mark rest : List ℕ) → IsMark mark → length (marked mark ++ rest) ≡ 20 + length rest
length_marked mark rest is = let twelve : length mark ≡ 12 = eqb-true _ _ (and_parts _ _ is).0 in let k = length-append mark rest in omega (arith, twelve, k)

pub fit_same : (side : Side) (a b : List ℕ) → DifferInMark a b → fit side a ≡ fit side b
fit_same Far a b d =
    ap (λ (x : List ℕ). nat_le (length x) size_limit) d.one
    ∙ ap (λ (n : ℕ). nat_le n size_limit) (length_marked d.mark d.rest d.is_mark ∙ sym (length_marked d.other d.rest d.is_other))
    ∙ ap (λ (x : List ℕ). nat_le (length x) size_limit) (sym d.two)
fit_same Near a b d =
    ap (λ (x : List ℕ). fit Near x) d.one
    ∙ ap (λ (t : Bool). t && nat_le (length (crlf (content (marked d.mark ++ d.rest)))) size_limit) (no_nul_marked d.mark d.rest d.is_mark ∙ sym (no_nul_marked d.other d.rest d.is_other))
    ∙ ap (λ (x : List ℕ). list_all no_nul (marked d.other ++ d.rest) && nat_le (length (crlf x)) size_limit) (content_after d.mark d.rest d.is_mark ∙ sym (content_after d.other d.rest d.is_other))
    ∙ ap (λ (x : List ℕ). fit Near x) (sym d.two)
