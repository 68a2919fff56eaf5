-- The bytes of a copy are in range if those of its source are.
use Rattle.std.proofs.Common.{◌≡◌, ◌<◌, ◌≤◌, ℕ, Bool, true, false, cond, List, [], ◌∷◌, ◌++◌, length, refl, sym, subst, arith, inl, inr}
use Rattle.std.specs.Prelude.{All, codes, filter, not, ◌==◌, ◌&&◌, ◌||◌, nat_le}
use Rattle.std.specs.List.{flat_map, list_all}
use Rattle.std.proofs.lemmas.Bool.{and_parts, or_cases, eqb-true, eqb-false, leb-true, not-true}
use Rattle.std.proofs.lemmas.List.Elements.{All-nil, All-cons, All-head, All-tail, All-append, All-contains, All-take, All-drop}
use Rattle.mailcore.specs.declared.side.Side.{Side}
use Rattle.mailcore.specs.declared.side.LineEnd.{LineEnd}
use Rattle.mailcore.specs.declared.side.LineEnd.TheVariants.{Lf, CrLf}
use Rattle.mailcore.specs.Mark.{IsMark, is_mark_char, MARK_LENGTH}
use Rattle.mailcore.specs.Content.{LF, CR, TextLine, at_line_end, lf, onto_first, lines_of, line_end_bytes, line_bytes, is_mark_line, header, after_header, without_marks, content_lines, copy_text}
use Rattle.rules.proofs.Walks.{All-from_contains, filter_contains}
use Rattle.rules.specs.Copies.{line_end}
use Rattle.law_outcome.proofs.Copies.{copy_is}

-- a byte of at least `least`
abbrev pub InRange : ℕ → ℕ → Type 0
InRange least b = (least ≤ b) × (b < 256)

abbrev TextInRange : ℕ → TextLine → Type 0
TextInRange least line = All (InRange least) line.text

-- ---- lines

kept_or : (least : ℕ) (t : Bool) (b : ℕ) (bs : List ℕ) → InRange least b → All (InRange least) bs → All (InRange least) (cond t bs (b ∷ bs))
kept_or least true b bs h k = k
kept_or least false b bs h k = All-cons (InRange least) b bs h k

lf_in_range : (least : ℕ) (bs : List ℕ) → All (InRange least) bs → All (InRange least) (lf bs)
lf_in_range least [] h = h
lf_in_range least (b ∷ bs) h = kept_or least (b == CR && at_line_end bs) b (lf bs) (All-head (InRange least) b bs h) (lf_in_range least bs (All-tail (InRange least) b bs h))

onto_in_range : (least b : ℕ) (lines : List TextLine) → InRange least b → All (TextInRange least) lines → All (TextInRange least) (onto_first b lines)
onto_in_range least b [] h k = All-cons (TextInRange least) (record { text = b ∷ []; ended = false }) [] (All-cons (InRange least) b [] h (All-nil (InRange least))) (All-nil (TextInRange least))
onto_in_range least b (line ∷ lines) h k =
    All-cons (TextInRange least) (record { text = b ∷ line.text; ended = line.ended }) lines (All-cons (InRange least) b line.text h (All-head (TextInRange least) line lines k)) (All-tail (TextInRange least) line lines k)

line_or : (least : ℕ) (t : Bool) (b : ℕ) (lines : List TextLine) → InRange least b → All (TextInRange least) lines → All (TextInRange least) (cond t (record { text = []; ended = true } ∷ lines) (onto_first b lines))
line_or least true b lines h k = All-cons (TextInRange least) (record { text = []; ended = true }) lines (All-nil (InRange least)) k
line_or least false b lines h k = onto_in_range least b lines h k

lines_in_range : (least : ℕ) (bs : List ℕ) → All (InRange least) bs → All (TextInRange least) (lines_of bs)
lines_in_range least [] h = All-nil (TextInRange least)
lines_in_range least (b ∷ bs) h = line_or least (b == LF) b (lines_of bs) (All-head (InRange least) b bs h) (lines_in_range least bs (All-tail (InRange least) b bs h))

without_in_range : (least : ℕ) (lines : List TextLine) → All (TextInRange least) lines → All (TextInRange least) (without_marks lines)
unfolding without_marks
without_in_range least lines h =
    All-append (TextInRange least) (filter (λ line. not (is_mark_line line)) (header lines)) (after_header lines)
    (All-from_contains (TextInRange least) (filter (λ line. not (is_mark_line line)) (header lines))
    (λ line c. All-contains (TextInRange least) (header lines) line (All-take (TextInRange least) _ lines h) (filter_contains (λ (x : TextLine). not (is_mark_line x)) (header lines) line c).0))
    (All-drop (TextInRange least) (length (header lines)) lines h)

ends_in_range : (least : ℕ) (end : LineEnd) → least ≤ 1 → All (InRange least) (line_end_bytes end)
ends_in_range least Lf l = All-cons (InRange least) 10 [] (omega arith, omega arith) (All-nil (InRange least))
ends_in_range least CrLf l = All-cons (InRange least) 13 (10 ∷ []) (omega arith, omega arith) (All-cons (InRange least) 10 [] (omega arith, omega arith) (All-nil (InRange least)))

line_in_range : (least : ℕ) (end : LineEnd) (t : Bool) (text : List ℕ) → least ≤ 1 → All (InRange least) text → All (InRange least) (cond t (text ++ line_end_bytes end) text)
line_in_range least end true text l h = All-append (InRange least) text (line_end_bytes end) h (ends_in_range least end l)
line_in_range least end false text l h = h

joined_in_range : (least : ℕ) (end : LineEnd) (lines : List TextLine) → least ≤ 1 → All (TextInRange least) lines → All (InRange least) (flat_map (line_bytes end) lines)
joined_in_range least end [] l h = All-nil (InRange least)
joined_in_range least end (line ∷ lines) l h =
    All-append (InRange least) (line_bytes end line) (flat_map (line_bytes end) lines) (line_in_range least end line.ended line.text l (All-head (TextInRange least) line lines h))
    (joined_in_range least end lines l (All-tail (TextInRange least) line lines h))

-- ---- marks

mark_char : (least b : ℕ) → least ≤ 1 → is_mark_char b ≡ true → InRange least b
mark_char least b l h = elim (or_cases (nat_le 65 b && nat_le b 90 || nat_le 97 b && nat_le b 122 || nat_le 48 b && nat_le b 57 || b == 45) (b == 95) h) [
  | inl other ↦ elim (or_cases (nat_le 65 b && nat_le b 90 || nat_le 97 b && nat_le b 122 || nat_le 48 b && nat_le b 57) (b == 45) other) [
    | inl wide ↦ elim (or_cases (nat_le 65 b && nat_le b 90 || nat_le 97 b && nat_le b 122) (nat_le 48 b && nat_le b 57) wide) [
      | inl letters ↦ elim (or_cases (nat_le 65 b && nat_le b 90) (nat_le 97 b && nat_le b 122) letters) [
        | inl large ↦ between 65 90 (omega arith) (omega arith) large
        | inr small ↦ between 97 122 (omega arith) (omega arith) small
      ]
      | inr digits ↦ between 48 57 (omega arith) (omega arith) digits
    ]
    | inr dash ↦ let e : b ≡ 45 = eqb-true b 45 dash in (omega arith, omega arith)
  ]
  | inr line ↦ let e : b ≡ 95 = eqb-true b 95 line in (omega arith, omega arith)
]
  where
    between : (low high : ℕ) → 1 ≤ low → high < 256 → (nat_le low b && nat_le b high) ≡ true → InRange least b
    between low high k m t =
        let parts = and_parts (nat_le low b) (nat_le b high) t in
        let up : low ≤ b = leb-true low b parts.0 in
        let down : b ≤ high = leb-true b high parts.1 in
        (omega arith, omega arith)

chars_in_range : (least : ℕ) (cs : List ℕ) → least ≤ 1 → list_all is_mark_char cs ≡ true → All (InRange least) cs
chars_in_range least [] l h = All-nil (InRange least)
chars_in_range least (c ∷ cs) l h =
    let parts = and_parts (is_mark_char c) (list_all is_mark_char cs) h in
    All-cons (InRange least) c cs (mark_char least c l parts.0) (chars_in_range least cs l parts.1)

mark_in_range : (least : ℕ) (mark : List ℕ) → least ≤ 1 → IsMark mark → All (InRange least) mark
mark_in_range least mark l h = chars_in_range least mark l (and_parts (length mark == MARK_LENGTH) (list_all is_mark_char mark) h).1

tested : (least : ℕ) (bs : List ℕ) → least ≤ 1 → list_all (λ b. nat_le 1 b && nat_le b 255) bs ≡ true → All (InRange least) bs
tested least [] l h = All-nil (InRange least)
tested least (b ∷ bs) l h =
    let parts = and_parts (nat_le 1 b && nat_le b 255) (list_all (λ c. nat_le 1 c && nat_le c 255) bs) h in
    let both = and_parts (nat_le 1 b) (nat_le b 255) parts.0 in
    let up : 1 ≤ b = leb-true 1 b both.0 in
    let down : b ≤ 255 = leb-true b 255 both.1 in
    All-cons (InRange least) b bs (omega arith, omega arith) (tested least bs l parts.1)

name_in_range : (least : ℕ) → least ≤ 1 → All (InRange least) (codes "X-TUID: ")
name_in_range least l = tested least (codes "X-TUID: ") l refl

-- ---- copies

pub copy_in_range : (least : ℕ) (side : Side) (mark bytes : List ℕ) → least ≤ 1 → IsMark mark → All (InRange least) bytes → All (InRange least) (copy_text mark bytes (line_end side))
copy_in_range least side mark bytes l is h =
    subst (λ bs. All (InRange least) bs) (sym (copy_is side mark bytes is))
    (All-append (InRange least) (codes "X-TUID: " ++ mark) (line_end_bytes (line_end side) ++ flat_map (line_bytes (line_end side)) (content_lines bytes))
    (All-append (InRange least) (codes "X-TUID: ") mark (name_in_range least l) (mark_in_range least mark l is))
    (All-append (InRange least) (line_end_bytes (line_end side)) (flat_map (line_bytes (line_end side)) (content_lines bytes)) (ends_in_range least (line_end side) l)
    (joined_in_range least (line_end side) (content_lines bytes) l (without_in_range least (lines_of (lf bytes)) (lines_in_range least (lf bytes) (lf_in_range least bytes h))))))

-- bytes of which none is a NUL
pub without_nul : (bs : List ℕ) → All (InRange 0) bs → list_all (λ b. not (b == 0)) bs ≡ true → All (InRange 1) bs
without_nul [] h t = All-nil (InRange 1)
without_nul (b ∷ bs) h t =
    let parts = and_parts (not (b == 0)) (list_all (λ c. not (c == 0)) bs) t in
    let here : InRange 0 b = All-head (InRange 0) b bs h in
    let high : b < 256 = here.1 in
    let ne : b ≡ 0 → ⊥ = eqb-false b 0 (not-true (b == 0) parts.0) in
    All-cons (InRange 1) b bs (omega arith, high) (without_nul bs (All-tail (InRange 0) b bs h) parts.1)
