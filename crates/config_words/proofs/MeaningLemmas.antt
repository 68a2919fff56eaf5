-- What is said of arguments, from what std says of texts.
use Rattle.std.proofs.Common.{◌≡◌, ◌≢◌, ◌∙◌, ℕ, ◌+◌, ◌^◌, ◌<◌, ◌≤◌, ◌&&◌, Bool, true, false, List, [], ◌∷◌, length, take, drop, refl, ap, sym, arith, get_or, map, Global}
use Rattle.std.specs.Prelude.{Option, Some, None, String, string_bytes, option_map, position, decimal, bytes_eq, nat_lt, nat_le, ◌==◌, if◌then◌else◌}
use Rattle.std.specs.Str.Parse.{digits_value}
use Rattle.std.proofs.lemmas.Bool.{le-leb, lt-ltb, ne_eqb}
use Rattle.std.proofs.lemmas.Bool.Decides.{nat_tests}
use Rattle.std.proofs.lemmas.List.Folds.{list_all-map, list_all_at}
use Rattle.std.proofs.lemmas.Fmt.{decimal_is_IsNumeral}
use Rattle.std.proofs.lemmas.Slice.Eq.{bytes_eq-Decides}
use Rattle.config_words.specs.Meanings.{parts_of, patterns_of, port_of, some_of}

-- ---- `:STORE:BOX`

abbrev cut_colon : List ℕ → Option (List ℕ × List ℕ)
cut_colon text = option_map (λ k. (take k text, drop (k + 1) text)) (position (λ c. c == 58) text)

pub no_colon : (text : List ℕ) → ((rest : List ℕ) → text ≢ 58 ∷ rest) → parts_of text ≡ None
no_colon [] none = refl
no_colon (b ∷ rest) none =
    ap (λ (t : Bool). if t then cut_colon rest else None) (ne_eqb b 58 (λ is. none rest (ap (λ (c : ℕ). c ∷ rest) is)))

-- ---- ports

same_digits : (text : List ℕ) (n : ℕ) → decimal n ≡ text → n < 2 ^ 64 → digits_value 10 text ≡ n
same_digits text n is small = ap (λ (t : List ℕ). digits_value 10 t) (sym is) ∙ (decimal_is_IsNumeral n small).1

port_at : (text : List ℕ) (n : ℕ) → digits_value 10 text ≡ n
    → port_of text ≡ (if bytes_eq (decimal n) text && nat_lt 0 n && nat_le n 65535 then Some n else None)
port_at text n is = ap (λ (m : ℕ). if bytes_eq (decimal m) text && nat_lt 0 m && nat_le m 65535 then Some m else None) is

tests : (a b c : Bool) (n : ℕ) → a ≡ true → b ≡ true → c ≡ true → (if a && b && c then Some n else None) ≡ Some n
tests true true true n ha hb hc = refl
tests false b c n ha hb hc = cc
tests true false c n ha hb hc = cc
tests true true false n ha hb hc = cc

pub port_so : (text : List ℕ) (n : ℕ) → decimal n ≡ text → n ≤ 65535 → n ≢ 0 → port_of text ≡ Some n
port_so text n is small some =
    port_at text n (same_digits text n is (omega arith))
    ∙ tests (bytes_eq (decimal n) text) (nat_lt 0 n) (nat_le n 65535) n ((bytes_eq-Decides (decimal n) text).1 is)
    (lt-ltb 0 n (omega arith)) (le-leb n 65535 small)

-- ---- patterns

too_long : (n : ℕ) → 1024 < n → nat_le n 1024 ≡ false
too_long n h = grind (arith, nat_tests)

pub no_patterns : (words : List (String Global)) (i : ℕ) (d : String Global) → i < length words → 1024 < length (string_bytes (get_or words i d))
    → patterns_of (map string_bytes words) ≡ None
no_patterns words i d h long =
    ap (λ (t : Bool). if t then some_of (map string_bytes words) else None)
    (list_all-map (λ (w : List ℕ). nat_le (length w) 1024) string_bytes words
    ∙ list_all_at (λ (s : String Global). nat_le (length (string_bytes s)) 1024) words i d h (too_long (length (string_bytes (get_or words i d))) long))
