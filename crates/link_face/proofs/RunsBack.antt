-- The base64 of a run is printable, has no `-`, and is read back.
use Rattle.std.proofs.Common.{◌≡◌, ◌<◌, ℕ, zero, suc, ◌+◌, ◌*◌, ◌/◌, ◌%◌, ◌==◌, Bool, true, false, ◌&&◌, not, List, [], ◌∷◌, ◌++◌, map, length, slice_index, Option, None, Some, refl, sym, ap, subst, ◌∙◌, arith, inl, inr, append-nil, append_assoc}
use Rattle.std.specs.List.{list_all}
use Rattle.std.specs.Option.{option_and_then}
use Rattle.std.specs.Result.{result_ok}
use Rattle.std.proofs.lemmas.Bool.{and_from, and_parts, cases_eq, ne_eqb, not-true}
use Rattle.std.proofs.lemmas.List.Folds.{list_all-map}
use Rattle.std.proofs.lemmas.Nat.{mod_below, div-add-mod'}
use Rattle.base64.specs.Engines.{standard_no_pad}
use Rattle.base64.specs.GeneralPurpose.{encode_of, decode_of}
use Rattle.base64.specs.Rfc4648.{encode_symbols}
use Rattle.base64.specs.Tables.{all_below}
use Rattle.base64.proofs.EngineFacts.{decode_of-encode_of}
use Rattle.base64.proofs.Tables.{all_below_at}
use Rattle.link_face.specs.Names.{is_printable, swapped, run_text, units_after, text_of, run_value, joined, read}
use Rattle.link_face.proofs.Utf16Back.{AllBelow}

-- printable, and no `-`
abbrev pub is_fine : ℕ → Bool
is_fine s = is_printable s && not (s == 45)

abbrev pub is_good : ℕ → Bool
is_good s = is_fine (swapped s)

abbrev symbols : List ℕ
symbols = standard_no_pad.encode_table

table_good : all_below (λ (i : ℕ). is_good (slice_index symbols i)) 64 ≡ true
table_good = refl

good_at : (i : ℕ) → i < 64 → is_good (slice_index symbols i) ≡ true
good_at i lt = all_below_at (λ (j : ℕ). is_good (slice_index symbols j)) 64 i table_good lt

two : {x y : Bool} → x ≡ true → y ≡ true → (x && y) ≡ true
two {x} {y} e f = and_from x y e f

first_six : (a : ℕ) → a < 256 → a / 4 < 64
first_six a h = let parts = div-add-mod' a 4 in omega (arith, parts, h)

last_two : (a : ℕ) → a % 4 * 16 < 64
last_two a = let low = mod_below a 4 (omega arith) in omega (arith, low)

next_six : (a b : ℕ) → b < 256 → a % 4 * 16 + b / 16 < 64
next_six a b h = let low = mod_below a 4 (omega arith) in let parts = div-add-mod' b 16 in omega (arith, low, parts, h)

last_four : (b : ℕ) → b % 16 * 4 < 64
last_four b = let low = mod_below b 16 (omega arith) in omega (arith, low)

third_six : (b c : ℕ) → c < 256 → b % 16 * 4 + c / 64 < 64
third_six b c h = let low = mod_below b 16 (omega arith) in let parts = div-add-mod' c 64 in omega (arith, low, parts, h)

symbols_good : (m : List ℕ) → AllBelow 256 m → list_all is_good (encode_symbols symbols m) ≡ true
unfolding encode_symbols
symbols_good [] h = refl
symbols_good (a ∷ []) h = two (good_at (a / 4) (first_six a h.0)) (two (good_at (a % 4 * 16) (last_two a)) refl)
symbols_good (a ∷ b ∷ []) h =
    two (good_at (a / 4) (first_six a h.0)) (two (good_at (a % 4 * 16 + b / 16) (next_six a b h.1.0)) (two (good_at (b % 16 * 4) (last_four b)) refl))
symbols_good (a ∷ b ∷ c ∷ rest) h =
    two (good_at (a / 4) (first_six a h.0)) (two (good_at (a % 4 * 16 + b / 16) (next_six a b h.1.0))
    (two (good_at (b % 16 * 4 + c / 64) (third_six b c h.1.1.0)) (two (good_at (c % 64) (mod_below c 64 (omega arith))) (symbols_good rest h.1.1.1))))

pub run_fine : (m : List ℕ) → AllBelow 256 m → list_all is_fine (map swapped (encode_of standard_no_pad m)) ≡ true
run_fine m h =
    list_all-map is_fine swapped (encode_of standard_no_pad m)
    ∙ ap (list_all is_good) (append-nil (encode_symbols symbols m))
    ∙ symbols_good m h

-- ---- read back

swapped_as_it_is : (b : ℕ) → (b ≡ 44 → ⊥) → (b ≡ 47 → ⊥) → swapped b ≡ b
swapped_as_it_is b n m = rw (ne_eqb b 44 n, ne_eqb b 47 m) refl

swapped_back : (b : ℕ) → swapped (swapped b) ≡ b
swapped_back b =
    let P : ℕ → Type 0 = λ n. swapped (swapped n) ≡ n in
    elim (cases_eq b 44) [
      | inl comma ↦ subst P (sym comma) refl
      | inr n ↦ elim (cases_eq b 47) [
        | inl slash ↦ subst P (sym slash) refl
        | inr m ↦ ap swapped (swapped_as_it_is b n m) ∙ swapped_as_it_is b n m
      ]
    ]

all_swapped_back : (bs : List ℕ) → map swapped (map swapped bs) ≡ bs
all_swapped_back [] = refl
all_swapped_back (b ∷ bs) =
    ap (λ (n : ℕ). n ∷ map swapped (map swapped bs)) (swapped_back b) ∙ ap (λ (l : List ℕ). b ∷ l) (all_swapped_back bs)

is_bytes : (m : List ℕ) → AllBelow 256 m → (i : ℕ) → slice_index m i < 256
is_bytes [] h zero = omega arith
is_bytes [] h (suc i) = omega arith
is_bytes (b ∷ bs) h zero = h.0
is_bytes (b ∷ bs) h (suc i) = is_bytes bs h.1 i

some_text : (o : ℕ) (os : List ℕ) → 0 < length (map swapped (encode_of standard_no_pad (o ∷ os)))
unfolding encode_symbols
some_text o [] = omega arith
some_text o (b ∷ []) = omega arith
some_text o (b ∷ c ∷ rest) = omega arith

value_of_some : (x : List ℕ) → 0 < length x
    → run_value x ≡ option_and_then text_of (option_and_then (units_after None) (result_ok (decode_of standard_no_pad (map swapped x))))
value_of_some [] lt = absurd (omega (arith, lt))
value_of_some (b ∷ bs) lt = refl

value_back : (o : ℕ) (os : List ℕ) → AllBelow 256 (o ∷ os)
    → run_value (map swapped (encode_of standard_no_pad (o ∷ os))) ≡ option_and_then text_of (units_after None (o ∷ os))
value_back o os h =
    let text = encode_of standard_no_pad (o ∷ os) in
    value_of_some (map swapped text) (some_text o os)
    ∙ ap (λ (l : List ℕ). option_and_then text_of (option_and_then (units_after None) (result_ok (decode_of standard_no_pad l)))) (all_swapped_back text)
    ∙ ap (λ r. option_and_then text_of (option_and_then (units_after None) (result_ok r))) (decode_of-encode_of standard_no_pad (o ∷ os) refl (is_bytes (o ∷ os) h))

-- the bytes up to the `-` are those of the run
read_run : (text run rest : List ℕ) → list_all is_fine text ≡ true → read true run (text ++ 45 ∷ rest) ≡ joined (run_value (run ++ text)) (read false [] rest)
read_run [] run rest h = ap (λ (l : List ℕ). joined (run_value l) (read false [] rest)) (sym (append-nil run))
read_run (b ∷ text) run rest h =
    let parts = and_parts (is_fine b) (list_all is_fine text) h in
    let no : (b == 45) ≡ false = not-true (b == 45) (and_parts (is_printable b) (not (b == 45)) parts.0).1 in
    rw no (read_run text (run ++ b ∷ []) rest parts.1 ∙ ap (λ (l : List ℕ). joined (run_value l) (read false [] rest)) (append_assoc run (b ∷ []) text))

-- a run of octets that stand for this text
pub run_read : (os rest value : List ℕ) → AllBelow 256 os → option_and_then text_of (units_after None os) ≡ Some value → ((os ≡ []) → value ≡ [])
    → read false [] (run_text os ++ rest) ≡ joined (Some value) (read false [] rest)
run_read [] rest value h e nil = nothing (read false [] rest) ∙ ap (λ (l : List ℕ). joined (Some l) (read false [] rest)) (sym (nil refl))
  where
    nothing : (o : Option (List ℕ)) → o ≡ joined (Some []) o
    nothing None = refl
    nothing (Some x) = refl
run_read (o ∷ os) rest value h e nil =
    let text = map swapped (encode_of standard_no_pad (o ∷ os)) in
    ap (read true []) (append_assoc text (45 ∷ []) rest)
    ∙ read_run text [] rest (run_fine (o ∷ os) h)
    ∙ ap (λ (v : Option (List ℕ)). joined v (read false [] rest)) (value_back o os h ∙ e)
