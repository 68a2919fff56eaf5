-- Each name in UTF-8 without control characters is read back from its modified UTF-7.
use Rattle.std.proofs.Common.{◌≡◌, ◌≤◌, ℕ, ◌==◌, Bool, true, false, not, List, [], ◌∷◌, ◌++◌, map, codes, Option, None, Some, refl, sym, ap, subst, ◌∙◌, arith, inl, inr, append-nil, append_assoc}
use Rattle.std.specs.Prelude.{if◌then◌else◌, nat_le}
use Rattle.std.specs.List.{list_all, flat_map}
use Rattle.std.specs.Option.{option_and_then}
use Rattle.std.specs.Str.{chars, is_utf8, encode_utf8_all}
use Rattle.std.proofs.Math.Utf8.{scalar, scalars, encode}
use Rattle.std.proofs.lemmas.Bool.{and_from, and_parts, cases_eq, false≢true, ne_eqb, leb-true}
use Rattle.std.proofs.lemmas.Grind.{flat_map-append}
use Rattle.std.proofs.lemmas.List.Folds.{list_all-append}
use Rattle.std.proofs.lemmas.Str.{IsUtf8-from_is_utf8, scalars-chars, encodes-chars, encodes-append, encode_ascii}
use Rattle.base64.specs.Engines.{standard_no_pad}
use Rattle.base64.specs.GeneralPurpose.{encode_of}
use Rattle.wire_strings.specs.Texts.{is_text}
use Rattle.link_face.specs.Names.{is_printable, swapped, plain, utf16_octets, run_text, written, is_name_text, units_after, text_of, joined, read, IsName}
use Rattle.link_face.proofs.Utf16Back.{AllBelow, units_back, octets_are, text_back, chars_below}
use Rattle.link_face.proofs.RunsBack.{is_fine, run_fine, run_read}
use Rattle.std.specs.Char.Escape.{encode_utf16}

octets : List ℕ → List ℕ
octets cs = flat_map utf16_octets cs

-- ---- a run

value_is : (cs : List ℕ) → scalars cs ≡ true → option_and_then text_of (units_after None (flat_map utf16_octets cs)) ≡ Some (encode_utf8_all cs)
value_is cs h =
    ap (λ (l : List ℕ). option_and_then text_of (units_after None l)) (octets_are cs)
    ∙ ap (option_and_then text_of) (units_back (flat_map encode_utf16 cs))
    ∙ text_back cs h

same_some : (a b : List ℕ) → (let o : Option (List ℕ) = Some a in o) ≡ Some b → a ≡ b
same_some a b e = cc

-- no octets are the octets of no characters
no_value : (cs : List ℕ) → scalars cs ≡ true → flat_map utf16_octets cs ≡ [] → encode_utf8_all cs ≡ []
no_value cs h e =
    same_some (encode_utf8_all cs) []
    (sym (value_is cs h) ∙ (ap (λ (l : List ℕ). option_and_then text_of (units_after None l)) e ∙ value_is [] refl))

run_chars : (cs rest : List ℕ) → scalars cs ≡ true → read false [] (run_text (flat_map utf16_octets cs) ++ rest) ≡ joined (Some (encode_utf8_all cs)) (read false [] rest)
run_chars cs rest h = run_read (flat_map utf16_octets cs) rest (encode_utf8_all cs) (chars_below cs h) (value_is cs h) (no_value cs h)

-- ---- a character that stands for itself

plain_by : (b : Bool) (c : ℕ) (rest : List ℕ) → b ≡ false → (c == 38) ≡ b → read false [] ((if b then codes "&-" else c ∷ []) ++ rest) ≡ joined (Some (c ∷ [])) (read false [] rest)
plain_by true c rest e f = absurd (false≢true (sym e))
plain_by false c rest e f = ap (λ (t : Bool). if t then read true [] rest else joined (Some (c ∷ [])) (read false [] rest)) f

plain_other : (c : ℕ) (rest : List ℕ) → (c == 38) ≡ false → read false [] (plain c ++ rest) ≡ joined (Some (c ∷ [])) (read false [] rest)
plain_other c rest e = plain_by (c == 38) c rest e refl

plain_read : (c : ℕ) (rest : List ℕ) → read false [] (plain c ++ rest) ≡ joined (Some (c ∷ [])) (read false [] rest)
plain_read c rest =
    elim (cases_eq c 38) [
      | inl is ↦ let P : ℕ → Type 0 = λ n. read false [] (plain n ++ rest) ≡ joined (Some (n ∷ [])) (read false [] rest) in subst P (sym is) refl
      | inr other ↦ plain_other c rest (ne_eqb c 38 other)
    ]

plain_code : (c : ℕ) → is_printable c ≡ true → encode c ≡ c ∷ []
plain_code c e =
    let parts = and_parts (nat_le 32 c) (nat_le c 126) e in
    let most : c ≤ 126 = leb-true c 126 parts.1 in
    encode_ascii c (omega (arith, most))

-- ---- all characters

scalars_append : (xs ys : List ℕ) → scalars xs ≡ true → scalars ys ≡ true → scalars (xs ++ ys) ≡ true
scalars_append [] ys h k = k
scalars_append (x ∷ xs) ys h k =
    let parts = and_parts (scalar x) (scalars xs) h in and_from (scalar x) (scalars (xs ++ ys)) parts.0 (scalars_append xs ys parts.1 k)

-- the octets of characters and one more
octets_more : (rs : List ℕ) (c : ℕ) → flat_map utf16_octets (rs ++ c ∷ []) ≡ flat_map utf16_octets rs ++ utf16_octets c
octets_more rs c = flat_map-append utf16_octets rs (c ∷ []) ∙ ap (λ (l : List ℕ). flat_map utf16_octets rs ++ l) (append-nil (utf16_octets c))

text_more : (rs cs : List ℕ) (c : ℕ) → encode c ≡ c ∷ [] → encode_utf8_all rs ++ (c ∷ encode_utf8_all cs) ≡ encode_utf8_all (rs ++ c ∷ cs)
text_more rs cs c e =
    ap (λ (l : List ℕ). encode_utf8_all rs ++ (l ++ encode_utf8_all cs)) (sym e) ∙ sym (encodes-append rs (c ∷ cs))

by_printable : (b : Bool) (goal : List ℕ → Type 0) (x y : List ℕ) → (b ≡ true → goal x) → (b ≡ false → goal y) → goal (if b then x else y)
by_printable true goal x y f g = f refl
by_printable false goal x y f g = g refl

all_read : (cs rs : List ℕ) → scalars rs ≡ true → scalars cs ≡ true → read false [] (written (flat_map utf16_octets rs) cs) ≡ Some (encode_utf8_all (rs ++ cs))
all_read [] rs h k =
    ap (read false []) (sym (append-nil (run_text (flat_map utf16_octets rs))))
    ∙ run_chars rs [] h
    ∙ ap (λ (l : List ℕ). let o : Option (List ℕ) = Some l in o) (append-nil (encode_utf8_all rs) ∙ ap encode_utf8_all (sym (append-nil rs)))
all_read (c ∷ cs) rs h k =
    let parts = and_parts (scalar c) (scalars cs) k in
    let Q : List ℕ → Type 0 = λ near. read false [] near ≡ Some (encode_utf8_all (rs ++ c ∷ cs)) in
    by_printable (is_printable c) Q (run_text (flat_map utf16_octets rs) ++ plain c ++ written [] cs) (written (flat_map utf16_octets rs ++ utf16_octets c) cs)
    (λ is.
    ap (read false []) (append_assoc (run_text (flat_map utf16_octets rs)) (plain c) (written [] cs))
    ∙ run_chars rs (plain c ++ written [] cs) h
    ∙ ap (joined (Some (encode_utf8_all rs))) (plain_read c (written [] cs) ∙ ap (joined (Some (c ∷ []))) (all_read cs [] refl parts.1))
    ∙ ap (λ (l : List ℕ). let o : Option (List ℕ) = Some l in o) (text_more rs cs c (plain_code c is)))
    (λ is.
    ap (λ (l : List ℕ). read false [] (written l cs)) (sym (octets_more rs c))
    ∙ all_read cs (rs ++ c ∷ []) (scalars_append rs (c ∷ []) h (and_from (scalar c) true parts.0 refl)) parts.1
    ∙ ap (λ (l : List ℕ). let o : Option (List ℕ) = Some (encode_utf8_all l) in o) (append_assoc rs (c ∷ []) cs))

-- ---- each byte is printable

fine_is_printable : (l : List ℕ) → list_all is_fine l ≡ true → list_all is_printable l ≡ true
fine_is_printable [] h = refl
fine_is_printable (b ∷ bs) h =
    let parts = and_parts (is_fine b) (list_all is_fine bs) h in
    and_from (is_printable b) (list_all is_printable bs) (and_parts (is_printable b) (not (b == 45)) parts.0).0 (fine_is_printable bs parts.1)

printable_append : (xs ys : List ℕ) → list_all is_printable xs ≡ true → list_all is_printable ys ≡ true → list_all is_printable (xs ++ ys) ≡ true
printable_append xs ys h k = list_all-append is_printable xs ys ∙ and_from (list_all is_printable xs) (list_all is_printable ys) h k

run_printable : (os : List ℕ) → AllBelow 256 os → list_all is_printable (run_text os) ≡ true
run_printable [] h = refl
run_printable (o ∷ os) h =
    printable_append (map swapped (encode_of standard_no_pad (o ∷ os))) (45 ∷ []) (fine_is_printable (map swapped (encode_of standard_no_pad (o ∷ os))) (run_fine (o ∷ os) h)) refl

plain_printable : (c : ℕ) → is_printable c ≡ true → list_all is_printable (plain c) ≡ true
plain_printable c h =
    let Q : List ℕ → Type 0 = λ l. list_all is_printable l ≡ true in
    by_printable (c == 38) Q (codes "&-") (c ∷ []) (λ is. refl) (λ is. and_from (is_printable c) true h refl)

all_printable : (cs rs : List ℕ) → scalars rs ≡ true → scalars cs ≡ true → list_all is_printable (written (flat_map utf16_octets rs) cs) ≡ true
all_printable [] rs h k = run_printable (flat_map utf16_octets rs) (chars_below rs h)
all_printable (c ∷ cs) rs h k =
    let parts = and_parts (scalar c) (scalars cs) k in
    let Q : List ℕ → Type 0 = λ near. list_all is_printable near ≡ true in
    by_printable (is_printable c) Q (run_text (flat_map utf16_octets rs) ++ plain c ++ written [] cs) (written (flat_map utf16_octets rs ++ utf16_octets c) cs)
    (λ is.
    ap (list_all is_printable) (append_assoc (run_text (flat_map utf16_octets rs)) (plain c) (written [] cs))
    ∙ printable_append (run_text (flat_map utf16_octets rs)) (plain c ++ written [] cs) (run_printable (flat_map utf16_octets rs) (chars_below rs h))
    (printable_append (plain c) (written [] cs) (plain_printable c is) (all_printable cs [] refl parts.1)))
    (λ is.
    ap (λ (l : List ℕ). list_all is_printable (written l cs)) (sym (octets_more rs c))
    ∙ all_printable cs (rs ++ c ∷ []) (scalars_append rs (c ∷ []) h (and_from (scalar c) true parts.0 refl)) parts.1)

-- ---- a name

taken : (b : Bool) (x : Option (List ℕ)) → b ≡ true → (if b then x else None) ≡ x
taken b x e = ap (λ (c : Bool). if c then x else None) e

pub has_near_name : (far : List ℕ) → is_name_text far ≡ true → IsName far (written [] (chars far))
has_near_name far h =
    let utf8 = IsUtf8-from_is_utf8 far (and_parts (is_utf8 far) (list_all is_text far) h).0 in
    let each = scalars-chars far utf8 in
    record {
      written = taken (is_name_text far) (Some (written [] (chars far))) h;
      read = taken (list_all is_printable (written [] (chars far))) (read false [] (written [] (chars far))) (all_printable (chars far) [] refl each)
          ∙ (all_read (chars far) [] refl each ∙ ap (λ (l : List ℕ). let o : Option (List ℕ) = Some l in o) (encodes-chars far utf8));
    }
