-- The octets of characters in UTF-16 are read back as these characters.
use Rattle.std.proofs.Common.{◌≡◌, inl, inr, ◌<◌, ◌≤◌, ℕ, ◌+◌, ◌-◌, ◌*◌, ◌/◌, ◌%◌, Bool, true, false, not, List, [], ◌∷◌, ◌++◌, map, get_or, Option, None, Some, refl, sym, ap, subst, ◌∙◌, arith}
use Rattle.std.specs.Prelude.{if◌then◌else◌, is_some}
use Rattle.std.specs.List.{flat_map, list_any}
use Rattle.std.specs.Option.{unwrap_or}
use Rattle.std.specs.Str.{encode_utf8_all}
use Rattle.std.specs.Char.Escape.{encode_utf16}
use Rattle.std.specs.Char.Utf16.{utf16_chars, surrogate_pair_char, lone_unit_char}
use Rattle.std.proofs.Math.Utf8.{scalar, scalars, scalar_cases}
use Rattle.std.proofs.lemmas.Bool.{and_parts, cases_lt}
use Rattle.std.proofs.lemmas.Grind.{flat_map-append}
use Rattle.std.proofs.lemmas.Nat.{mod_below, div-add-mod'}
use Rattle.std.proofs.lemmas.Str.{utf16_chars-nil, utf16_chars_lone, utf16_chars_pair}
use Rattle.std.proofs.str.Utf16.{IsPair, one_unit, two_units, lone_unit_char_low, lone_unit_char_high}
use Rattle.link_face.specs.Names.{unit_octets, utf16_octets, units_after, text_of, joined}

-- ---- units

back : (u : ℕ) → 256 * (u / 256) + u % 256 ≡ u
back u = omega (arith, div-add-mod' u 256)

pub units_back : (us : List ℕ) → units_after None (flat_map unit_octets us) ≡ Some us
units_back [] = refl
units_back (u ∷ us) =
    ap (joined (Some ((256 * (u / 256) + u % 256) ∷ []))) (units_back us)
    ∙ ap (λ (n : ℕ). let o : Option (List ℕ) = Some (n ∷ us) in o) (back u)

pub octets_are : (cs : List ℕ) → flat_map utf16_octets cs ≡ flat_map unit_octets (flat_map encode_utf16 cs)
octets_are [] = refl
octets_are (c ∷ cs) =
    ap (λ (l : List ℕ). utf16_octets c ++ l) (octets_are cs)
    ∙ sym (flat_map-append unit_octets (encode_utf16 c) (flat_map encode_utf16 cs))

-- ---- characters

no_surrogate : (c v : ℕ) → scalar c ≡ true → IsPair c v → ⊥
no_surrogate c v e pair = elim (scalar_cases c e) [ inl low ↦ omega (arith, low, pair.0) | inr high ↦ omega (arith, high.0, pair.1) ]

stands_for_itself : (c : ℕ) → scalar c ≡ true → c < 0x1_0000 → lone_unit_char c ≡ Some c
stands_for_itself c e lt = elim (scalar_cases c e) [ inl low ↦ lone_unit_char_low c low | inr high ↦ lone_unit_char_high c high.0 ]

over : (c : ℕ) → 0x1_0000 ≤ c → (c - 0x1_0000) / 0x400 * 0x400 + (c - 0x1_0000) % 0x400 + 0x1_0000 ≡ c
over c ge = let parts = div-add-mod' (c - 0x1_0000) 0x400 in omega (arith, parts, ge)

high_of : (c : ℕ) → scalar c ≡ true → 0x1_0000 ≤ c → (c - 0x1_0000) / 0x400 < 0x400
high_of c e ge =
    elim (scalar_cases c e) [
      | inl low ↦ omega (arith, low, ge)
      | inr high ↦ let parts = div-add-mod' (c - 0x1_0000) 0x400 in omega (arith, parts, ge, high.1)
    ]

low_of : (c : ℕ) → (c - 0x1_0000) % 0x400 < 0x400
low_of c = mod_below (c - 0x1_0000) 0x400 (omega arith)

pair_of : (c q r : ℕ) → q < 0x400 → r < 0x400 → IsPair (0xD800 + q) (0xDC00 + r)
pair_of c q r h l = (omega arith, omega (arith, h), omega arith, omega (arith, l))

pair_char : (c q r : ℕ) → q * 0x400 + r + 0x1_0000 ≡ c → surrogate_pair_char (0xD800 + q) (0xDC00 + r) ≡ c
pair_char c q r e = omega (arith, e)

one_back : (c : ℕ) (cs : List ℕ) → scalar c ≡ true → utf16_chars (encode_utf16 c ++ flat_map encode_utf16 cs) ≡ Some c ∷ utf16_chars (flat_map encode_utf16 cs)
one_back c cs e =
    let rest = flat_map encode_utf16 cs in
    elim (cases_lt c 0x1_0000) [
      | inl lt ↦
          ap (λ (l : List ℕ). utf16_chars (l ++ rest)) (one_unit c lt)
          ∙ utf16_chars_lone c rest (no_surrogate c (get_or rest 0 0) e)
          ∙ ap (λ (o : Option ℕ). o ∷ utf16_chars rest) (stands_for_itself c e lt)
      | inr ge ↦
          let q = (c - 0x1_0000) / 0x400 in
          let r = (c - 0x1_0000) % 0x400 in
          ap (λ (l : List ℕ). utf16_chars (l ++ rest)) (two_units c ge)
          ∙ utf16_chars_pair (0xD800 + q) (0xDC00 + r) rest (pair_of c q r (high_of c e ge) (low_of c))
          ∙ ap (λ (n : ℕ). (let o : Option ℕ = Some n in o) ∷ utf16_chars rest) (pair_char c q r (over c ge))
    ]

abbrev pub some_of : ℕ → Option ℕ
some_of c = Some c

pub chars_back : (cs : List ℕ) → scalars cs ≡ true → utf16_chars (flat_map encode_utf16 cs) ≡ map some_of cs
chars_back [] h = utf16_chars-nil
chars_back (c ∷ cs) h =
    let parts = and_parts (scalar c) (scalars cs) h in
    one_back c cs parts.0 ∙ ap (λ (l : List (Option ℕ)). (let o : Option ℕ = Some c in o) ∷ l) (chars_back cs parts.1)

all_some : (cs : List ℕ) → list_any (λ (o : Option ℕ). not (is_some o)) (map some_of cs) ≡ false
all_some [] = refl
all_some (c ∷ cs) = all_some cs

unwrapped : (cs : List ℕ) → map (λ (o : Option ℕ). unwrap_or o 0xFFFD) (map some_of cs) ≡ cs
unwrapped [] = refl
unwrapped (c ∷ cs) = ap (λ (l : List ℕ). c ∷ l) (unwrapped cs)

reported : (b : Bool) (x : List ℕ) (cs : List ℕ) → b ≡ false → x ≡ cs → (if b then None else (let o : Option (List ℕ) = Some (encode_utf8_all x) in o)) ≡ Some (encode_utf8_all cs)
reported true x cs e f = absurd (ne e)
  where
    ne : (let b : Bool = true in b) ≡ false → ⊥
    ne e = cc
reported false x cs e f = ap (λ (l : List ℕ). let o : Option (List ℕ) = Some (encode_utf8_all l) in o) f

pub text_back : (cs : List ℕ) → scalars cs ≡ true → text_of (flat_map encode_utf16 cs) ≡ Some (encode_utf8_all cs)
text_back cs h =
    reported (list_any (λ (o : Option ℕ). not (is_some o)) (utf16_chars (flat_map encode_utf16 cs)))
    (map (λ (o : Option ℕ). unwrap_or o 0xFFFD) (utf16_chars (flat_map encode_utf16 cs))) cs
    (ap (list_any (λ (o : Option ℕ). not (is_some o))) (chars_back cs h) ∙ all_some cs)
    (ap (map (λ (o : Option ℕ). unwrap_or o 0xFFFD)) (chars_back cs h) ∙ unwrapped cs)

-- ---- octets

abbrev pub AllBelow : ℕ → List ℕ → Type 0
AllBelow n [] = Unit {0}
AllBelow n (b ∷ bs) = (b < n) × AllBelow n bs

below_append : (n : ℕ) (xs ys : List ℕ) → AllBelow n xs → AllBelow n ys → AllBelow n (xs ++ ys)
below_append n [] ys h k = k
below_append n (x ∷ xs) ys h k = (h.0, below_append n xs ys h.1 k)

units_below : (c : ℕ) → scalar c ≡ true → AllBelow 65536 (encode_utf16 c)
units_below c e =
    let P : List ℕ → Type 0 = λ l. AllBelow 65536 l in
    elim (cases_lt c 0x1_0000) [
      | inl lt ↦ subst P (sym (one_unit c lt)) (lt, tt)
      | inr ge ↦ subst P (sym (two_units c ge)) (omega (arith, high_of c e ge), (omega (arith, low_of c), tt))
    ]

octets_below : (us : List ℕ) → AllBelow 65536 us → AllBelow 256 (flat_map unit_octets us)
octets_below [] h = tt
octets_below (u ∷ us) h =
    let parts = div-add-mod' u 256 in
    let high : u / 256 < 256 = omega (arith, parts, h.0) in
    (high, (mod_below u 256 (omega arith), octets_below us h.1))

all_units_below : (cs : List ℕ) → scalars cs ≡ true → AllBelow 65536 (flat_map encode_utf16 cs)
all_units_below [] h = tt
all_units_below (c ∷ cs) h =
    let parts = and_parts (scalar c) (scalars cs) h in
    below_append 65536 (encode_utf16 c) (flat_map encode_utf16 cs) (units_below c parts.0) (all_units_below cs parts.1)

pub chars_below : (cs : List ℕ) → scalars cs ≡ true → AllBelow 256 (flat_map utf16_octets cs)
chars_below cs h =
    let P : List ℕ → Type 0 = λ l. AllBelow 256 l in
    subst P (sym (octets_are cs)) (octets_below (flat_map encode_utf16 cs) (all_units_below cs h))
