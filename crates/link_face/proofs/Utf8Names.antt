-- Bytes that are UTF-8, and their characters.
use Rattle.std.proofs.Common.{◌≡◌, ℕ, Bool, true, false, ◌&&◌, List, refl, ap}
use Rattle.std.specs.List.{list_all}
use Rattle.std.specs.Str.{IsUtf8, is_utf8}
use Rattle.std.proofs.lemmas.Str.{IsUtf8-from_is_utf8, is_utf8-from_IsUtf8}
use Rattle.wire_strings.specs.Texts.{is_text}
use Rattle.link_face.specs.Names.{is_name_text}

by_test : (b : Bool) → (b ≡ true → ⊥) → b ≡ false
by_test true never = absurd (never refl)
by_test false _ = refl

pub no_text : (bs : List ℕ) → ¬ (IsUtf8 bs) → is_name_text bs ≡ false
no_text bs never = ap (λ b. b && list_all is_text bs) (by_test (is_utf8 bs) (λ is. never (IsUtf8-from_is_utf8 bs is)))

pub is_a_text : (bs : List ℕ) → IsUtf8 bs → is_name_text bs ≡ list_all is_text bs
is_a_text bs is = ap (λ b. b && list_all is_text bs) (is_utf8-from_IsUtf8 bs is)
