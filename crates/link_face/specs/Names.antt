-- Names of mailboxes in modified UTF-7 (RFC 3501, section 5.1.3).
use Rattle.std.specs.Prelude.{◌≡◌, ℕ, ◌+◌, ◌*◌, ◌/◌, ◌%◌, Bool, true, false, ◌&&◌, ◌==◌, nat_le, List, [], ◌∷◌, ◌++◌, map, codes, Option, None, Some, if◌then◌else◌}
use Rattle.std.specs.List.{list_all, flat_map}
use Rattle.std.specs.Option.{option_map, option_and_then}
use Rattle.std.specs.Result.{result_ok}
use Rattle.std.specs.Str.{chars, is_utf8, encode_utf8_all}
use Rattle.std.specs.Char.Escape.{encode_utf16}
use Rattle.std.specs.Char.Utf16.{utf16_lossy_chars, has_unpaired_surrogate}
use Rattle.base64.specs.Engines.{standard_no_pad}
use Rattle.base64.specs.GeneralPurpose.{encode_of, decode_of}
use Rattle.wire_strings.specs.Texts.{is_text}

-- printable US-ASCII, which stands for itself, but for `&`
abbrev pub is_printable : ℕ → Bool
is_printable c = nat_le 32 c && nat_le c 126

-- base64 with `,` for `/`: each of the two stands for the other
abbrev pub swapped : ℕ → ℕ
swapped b = if b == 44 then 47 else (if b == 47 then 44 else b)

-- ---- from UTF-8

abbrev pub plain : ℕ → List ℕ
plain c = if c == 38 then codes "&-" else c ∷ []

-- the octets of a character in UTF-16, of each unit the high one first
abbrev pub unit_octets : ℕ → List ℕ
unit_octets unit = unit / 256 ∷ unit % 256 ∷ []

abbrev pub utf16_octets : ℕ → List ℕ
utf16_octets c = flat_map unit_octets (encode_utf16 c)

-- the base64 of a run of characters that do not stand for themselves, between `&` and `-`
abbrev pub run_text : (octets : List ℕ) → List ℕ
run_text [] = []
run_text (o ∷ os) = 38 ∷ map swapped (encode_of standard_no_pad (o ∷ os)) ++ 45 ∷ []

-- the characters after a run of these octets
abbrev pub written : (run chars : List ℕ) → List ℕ
written run [] = run_text run
written run (c ∷ cs) = if is_printable c then run_text run ++ plain c ++ written [] cs else written (run ++ utf16_octets c) cs

-- UTF-8 without control characters
abbrev pub is_name_text : List ℕ → Bool
is_name_text far = is_utf8 far && list_all is_text far

abbrev pub near_name : List ℕ → Option (List ℕ)
near_name far = if is_name_text far then Some (written [] (chars far)) else None

-- ---- to UTF-8

-- the first text, and the second after it
abbrev pub joined : Option (List ℕ) → Option (List ℕ) → Option (List ℕ)
joined None rest = None
joined (Some text) rest = option_map (λ bs. text ++ bs) rest

-- the units of octets, by twos
abbrev pub units_after : (high : Option ℕ) (octets : List ℕ) → Option (List ℕ)
units_after None [] = Some []
units_after (Some high) [] = None
units_after None (o ∷ os) = units_after (Some o) os
units_after (Some high) (o ∷ os) = joined (Some ((256 * high + o) ∷ [])) (units_after None os)

abbrev pub text_of : (units : List ℕ) → Option (List ℕ)
text_of units = if has_unpaired_surrogate units then None else Some (encode_utf8_all (utf16_lossy_chars units))

-- what stands between `&` and `-`
abbrev pub run_value : List ℕ → Option (List ℕ)
run_value [] = Some (codes "&")
run_value (b ∷ bs) = option_and_then text_of (option_and_then (units_after None) (result_ok (decode_of standard_no_pad (map swapped (b ∷ bs)))))

-- the bytes after those of a run, within it, or outside of a run
abbrev pub read : (is_within : Bool) (run bytes : List ℕ) → Option (List ℕ)
read true run [] = None
read false run [] = Some []
read true run (b ∷ bs) = if b == 45 then joined (run_value run) (read false [] bs) else read true (run ++ b ∷ []) bs
read false run (b ∷ bs) = if b == 38 then read true [] bs else joined (Some (b ∷ [])) (read false [] bs)

abbrev pub far_name : List ℕ → Option (List ℕ)
far_name near = if list_all is_printable near then read false [] near else None

-- ---- both ways

-- one name in UTF-8 and in modified UTF-7: each is what the other is turned into
pub record IsName (far near : List ℕ) : Type 0 where
  pub written : near_name far ≡ Some near
  pub read : far_name near ≡ Some far

-- no two names in UTF-8 have one name in modified UTF-7, and the other way round
pub record AreOneToOne : Type 0 where
  pub near : (far one other : List ℕ) → IsName far one → IsName far other → one ≡ other
  pub far : (near one other : List ℕ) → IsName one near → IsName other near → one ≡ other

-- each name in UTF-8 without control characters has one in modified UTF-7
abbrev pub EachHasNearName : Type 0
EachHasNearName = (far : List ℕ) → is_name_text far ≡ true → IsName far (written [] (chars far))
