-- Sets of UIDs as parts of a grammar.
use Rattle.std.proofs.Common.{◌≡◌, ℕ, true, false, eqb, List, [], ◌∷◌, ◌++◌, Option, None, Some, Result, Ok, Err, refl, sym, ap, subst, ◌∙◌, inl, inr, ◌⊎◌, arith}
use Rattle.std.specs.List.{list_all}
use Rattle.std.proofs.lemmas.Bool.{ne_eqb, and_parts, not-true}
use Rattle.std.proofs.lemmas.List.{append-nil}
use Rattle.wire_reader.specs.declared.side.Speaker.{Speaker}
use Rattle.wire_reader.specs.declared.side.Speaker.TheVariants.{Commands}
use Rattle.wire_reader.specs.declared.stop.Stop.{Stop}
use Rattle.wire_reader.specs.Spelling.{◌⨾◌, Is, OptText, is_digit}
use Rattle.wire_reader.specs.Reading.{◌>>=◌, mapped}
use Rattle.wire_reader.specs.Listing.{opt_at}
use Rattle.wire_reader.specs.Literal.{Number as Digits}
use Rattle.wire_reader.proofs.Reader.{Open}
use Rattle.wire_reader.proofs.First.{Begins}
use Rattle.wire_reader.proofs.LengthSteps.{digit_is}
use Rattle.wire_reader.proofs.Part.{Part, same_part, mapped_part, both_part, first_part, byte_part}
use Rattle.wire_reader.proofs.PartEnded.{ended_part}
use Rattle.wire_reader.proofs.PartOpt.{goes_on, opt_follows, opt_part}
use Rattle.wire_reader.proofs.PartItems.{items_part}
use Rattle.wire_tokens.specs.declared.uid_set.SetEnd.{SetEnd}
use Rattle.wire_tokens.specs.declared.uid_set.SetEnd.TheVariants.{Number, Greatest}
use Rattle.wire_tokens.specs.declared.uid_set.SetItem.{SetItem}
use Rattle.wire_tokens.specs.declared.uid_set.SetItem.TheVariants.{One, Range}
use Rattle.wire_tokens.specs.Numbers.{NzText}
use Rattle.wire_tokens.specs.Sets.{EndText, ItemText, SetText, is_star, is_colon, is_set_byte, number_end, greatest_end, item_of, end_at, second_at, item_at, set_at}
use Rattle.wire_tokens.proofs.NumberParts.{nz_part}

-- ---- an end

abbrev OfStar : SetEnd → List ℕ → Type 0
OfStar (Number n) t = ⊥
OfStar Greatest t = Is (42 ∷ []) t

abbrev OfNumber : SetEnd → List ℕ → Type 0
OfNumber (Number n) t = NzText n t
OfNumber Greatest t = ⊥

from_star : (x : SetEnd) (t : List ℕ) → OfStar x t → (u : Unit {0}) × (x ≡ greatest_end u) × Is (42 ∷ []) t
from_star (Number n) t h = absurd h
from_star Greatest t h = (tt, refl, h)

from_number : (x : SetEnd) (t : List ℕ) → OfNumber x t → (n : ℕ) × (x ≡ number_end n) × NzText n t
from_number (Number n) t h = (n, refl, h)
from_number Greatest t h = absurd h

star_first : (x : SetEnd) (t : List ℕ) → OfStar x t → Begins true is_star t
star_first (Number n) t h = absurd h
star_first Greatest [] h = cc
star_first Greatest (b ∷ bs) h = cc

digit_first : (n : ℕ) (t : List ℕ) → Digits n t → Begins false is_star t
digit_first n [] h = h.plain
digit_first n (b ∷ bs) h = let r = digit_is b (and_parts (is_digit b) (list_all is_digit bs) h.each).0 in ne_eqb b 42 (λ e. omega (arith, r.0, e))

number_first : (x : SetEnd) (t : List ℕ) → OfNumber x t → Begins false is_star t
number_first (Number n) t h = digit_first n t h.0
number_first Greatest t h = absurd h

to_end : (x : SetEnd) (t : List ℕ) → OfStar x t ⊎ OfNumber x t → EndText x t
to_end (Number n) t (inl h) = absurd h
to_end (Number n) t (inr h) = h
to_end Greatest t (inl h) = h
to_end Greatest t (inr h) = absurd h

from_end : (x : SetEnd) (t : List ℕ) → EndText x t → OfStar x t ⊎ OfNumber x t
from_end (Number n) t h = inr h
from_end Greatest t h = inl h

pub end_part : {side : Speaker} → Part side true (Open is_digit) EndText end_at
unfolding end_at
end_part {side} = same_part to_end from_end
    (first_part is_star
    (ended_part is_digit (mapped_part {M = OfStar} greatest_end (λ _ t h. h) from_star (byte_part 42 refl)))
    (mapped_part {M = OfNumber} number_end (λ n t h. h) from_number nz_part)
    star_first number_first)

pub second_part : {side : Speaker} → Part side true (Open (goes_on is_digit 58)) EndText second_at
unfolding second_at
second_part {side} = ended_part is_colon end_part

-- ---- an item

abbrev OfPair : SetEnd × Option SetEnd → List ℕ → Type 0
OfPair v = EndText v.0 ⨾ OptText 58 EndText v.1

to_item : (v : SetEnd × Option SetEnd) (t : List ℕ) → OfPair v t → ItemText (item_of v) t
to_item (x, None) t h = subst (EndText x) (sym (h.parts ∙ ap (λ (y : List ℕ). h.front ++ y) h.second ∙ append-nil h.front)) h.first
to_item (x, Some y) t h = h

from_item : (i : SetItem) (t : List ℕ) → ItemText i t → (v : SetEnd × Option SetEnd) × (i ≡ item_of v) × OfPair v t
from_item (One x) t h = ((x, None), refl, record { front = t; back = []; parts = sym (append-nil t); first = h; second = refl })
from_item (Range x y) t h = ((x, Some y), refl, h)

pub item_part : {side : Speaker} → Part side true (Open (goes_on is_digit 58)) ItemText item_at
unfolding item_at
item_part {side} = mapped_part item_of to_item from_item
    (both_part end_part (opt_part is_digit 58 refl second_part) (opt_follows is_digit 58 second_at refl))

-- what is read after an end
abbrev after_end : Result (SetEnd × List ℕ) Stop → Result (SetItem × List ℕ) Stop
after_end o = (o >>= λ x. mapped (λ y. (x.0, y)) (opt_at is_digit 58 second_at) x.1) >>= λ v. Ok (item_of v.0, v.1)

-- no digit follows an end, so that it is an item alone unless `:` does
pub item_one : (xs : List ℕ) (x : SetEnd) (b : ℕ) (bs : List ℕ) → end_at xs ≡ Ok (x, b ∷ bs) → eqb b 58 ≡ false → item_at xs ≡ Ok (One x, b ∷ bs)
unfolding item_at
item_one xs x b bs h colon =
    let t = (end_part {side = Commands}).reader.sound xs x (b ∷ bs) h in
    let digit : is_digit b ≡ false = not-true _ t.stop in
    ap after_end h ∙ rw (colon, digit) refl

-- ---- a set

pub set_part : {side : Speaker} → Part side true (Open is_set_byte) SetText set_at
unfolding set_at
set_part {side} = items_part side 44 refl refl item_part

-- what the loop over the items gives at its end
pub bind_all : {A : Type 0} (o : Result (A × List ℕ) Stop) → (o >>= λ x. Ok x) ≡ o
bind_all (Ok x) = refl
bind_all (Err s) = refl
