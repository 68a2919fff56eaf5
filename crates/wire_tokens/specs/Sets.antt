-- Sets of UIDs (RFC 9051, section 9: sequence-set, in the profile).
use Rattle.std.specs.Prelude.{◌≡◌, ◌≤◌, ℕ, ◌⊎◌, List, [], ◌∷◌, Option, None, Some, Result, Bool, false, ◌||◌, ◌&&◌, ◌==◌, nat_le, ◌↔◌, IsTrue, Any}
use Rattle.std.specs.List.{list_any}
use Rattle.wire_reader.specs.declared.stop.Stop.{Stop}
use Rattle.wire_reader.specs.Spelling.{◌⨾◌, Is, ItemsText, is_digit}
use Rattle.wire_reader.specs.Reading.{mapped, both, by_first, byte_at}
use Rattle.wire_reader.specs.Listing.{ended, opt_at, items_at}
use Rattle.wire_tokens.specs.declared.uid_set.SetEnd.{SetEnd}
use Rattle.wire_tokens.specs.declared.uid_set.SetEnd.TheVariants.{Number, Greatest}
use Rattle.wire_tokens.specs.declared.uid_set.SetItem.{SetItem}
use Rattle.wire_tokens.specs.declared.uid_set.SetItem.TheVariants.{One, Range}
use Rattle.wire_tokens.specs.Numbers.{NzText, nz_at}

-- ---- what a set is

-- `seq-number`: an nz-number, or `*`
abbrev pub EndText : SetEnd → List ℕ → Type 0
EndText (Number n) text = NzText n text
EndText Greatest text = Is (42 ∷ []) text

-- `seq-number` or `seq-range`, two ends with `:` between
abbrev pub ItemText : SetItem → List ℕ → Type 0
ItemText (One x) text = EndText x text
ItemText (Range x y) text = (EndText x ⨾ Is (58 ∷ []) ⨾ EndText y) text

-- `sequence-set`: one or more items with `,` between
abbrev pub SetText : List SetItem → List ℕ → Type 0
SetText items text = ItemsText 44 ItemText items text

-- ---- what a set names

-- the number at this end, where the greatest UID is `greatest`
abbrev pub end_of : ℕ → SetEnd → ℕ
end_of greatest (Number n) = n
end_of greatest Greatest = greatest

-- from a to b, whichever is less
abbrev pub Between : ℕ → ℕ → ℕ → Type 0
Between a b uid = (a ≤ uid × uid ≤ b) ⊎ (b ≤ uid × uid ≤ a)

abbrev pub ItemNames : ℕ → ℕ → SetItem → Type 0
ItemNames greatest uid (One x) = uid ≡ end_of greatest x
ItemNames greatest uid (Range x y) = Between (end_of greatest x) (end_of greatest y) uid

-- The set names this UID, where `greatest` is the greatest UID of the mailbox. `*` is that one, so that `559:*` names it
-- even if it is below 559. In an empty mailbox a set names nothing.
abbrev pub Names : Option ℕ → List SetItem → ℕ → Type 0
Names None items uid = ⊥
Names (Some greatest) items uid = Any (ItemNames greatest uid) items

-- ---- the same, as a test that computes

abbrev pub between : ℕ → ℕ → ℕ → Bool
between a b uid = (nat_le a uid && nat_le uid b) || (nat_le b uid && nat_le uid a)

abbrev pub item_names : ℕ → ℕ → SetItem → Bool
item_names greatest uid (One x) = uid == end_of greatest x
item_names greatest uid (Range x y) = between (end_of greatest x) (end_of greatest y) uid

abbrev pub names : Option ℕ → List SetItem → ℕ → Bool
names None items uid = false
names (Some greatest) items uid = list_any (item_names greatest uid) items

abbrev pub NamesAreTested : Type 0
NamesAreTested = (greatest : Option ℕ) (items : List SetItem) (uid : ℕ) → IsTrue (names greatest items uid) ↔ Names greatest items uid

-- ---- how it is read

abbrev pub is_star : ℕ → Bool
is_star b = b == 42

abbrev pub is_colon : ℕ → Bool
is_colon b = b == 58

-- the bytes that cannot follow a set
abbrev pub is_set_byte : ℕ → Bool
is_set_byte b = (is_digit b || b == 58) || b == 44

abbrev pub number_end : ℕ → SetEnd
number_end n = Number n

abbrev pub greatest_end : Unit {0} → SetEnd
greatest_end _ = Greatest

-- an end, after which no digit stands
unfoldable pub end_at : List ℕ → Result (SetEnd × List ℕ) Stop
end_at = by_first is_star (ended is_digit (mapped greatest_end (byte_at 42))) (mapped number_end nz_at)

-- the second end of a range, after which no `:` stands either
unfoldable pub second_at : List ℕ → Result (SetEnd × List ℕ) Stop
second_at = ended is_colon end_at

abbrev pub item_of : SetEnd × Option SetEnd → SetItem
item_of (x, None) = One x
item_of (x, Some y) = Range x y

unfoldable pub item_at : List ℕ → Result (SetItem × List ℕ) Stop
item_at = mapped item_of (both end_at (opt_at is_digit 58 second_at))

unfoldable pub set_at : List ℕ → Result (List SetItem × List ℕ) Stop
set_at = items_at 44 item_at
