-- The tags of a connection are tags.
use Rattle.std.proofs.Common.{◌≡◌, ◌<◌, ℕ, ◌^◌, Bool, true, false, List, [], ◌∷◌, refl, arith}
use Rattle.std.specs.Prelude.{decimal, ◌||◌, ◌&&◌, nat_le}
use Rattle.std.specs.List.{list_all}
use Rattle.std.proofs.lemmas.Bool.{and_parts, and_from}
use Rattle.std.proofs.lemmas.Fmt.{length-decimal-le}
use Rattle.wire_reader.specs.Spelling.{is_digit}
use Rattle.wire_tokens.specs.Atoms.{is_tag_byte, IsTag}
use Rattle.wire_tokens.proofs.NumberLemmas.{number-decimal}
use Rattle.imap_client.specs.Tags.{tag_text}

digit_in : (a b c : Bool) → c ≡ true → (a || b || c) ≡ true
digit_in true b c h = refl
digit_in false true c h = refl
digit_in false false c h = h

digits_tag : (t : List ℕ) → list_all is_digit t ≡ true → list_all is_tag_byte t ≡ true
digits_tag [] h = refl
digits_tag (b ∷ t) h =
    let two = and_parts (is_digit b) (list_all is_digit t) h in
    and_from (is_tag_byte b) (list_all is_tag_byte t) (digit_in (nat_le 65 b && nat_le b 90) (nat_le 97 b && nat_le b 122) (is_digit b) two.0) (digits_tag t two.1)

pub tags_are : (n : ℕ) → n < 2 ^ 64 → IsTag (tag_text n)
tags_are n lt =
    let digits = number-decimal n lt in
    let long = length-decimal-le 20 n (omega arith) (omega (arith, lt)) lt in
    record {
      each = digits_tag (decimal n) digits.each;
      some = omega arith;
      most = omega (arith, long);
    }
