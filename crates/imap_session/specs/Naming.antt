-- The greatest UID of a mailbox as a number, and what a set names by it.
use Rattle.std.specs.Prelude.{◌≡◌, ◌<◌, ◌≤◌, ℕ, ◌+◌, ◌^◌, Bool, true, false, List, length, All, Option, None, Some}
use Rattle.std.specs.List.{AllWithin}
use Rattle.mailcore.specs.declared.mailbox.Message.{Message}
use Rattle.wire_tokens.specs.declared.uid_set.SetItem.{SetItem}
use Rattle.wire_tokens.specs.Sets.{item_names, names}
use Rattle.imap_session.specs.NamedMessages.{goes}

-- the number is this UID, or 0 where there is none
abbrev pub IsTop : Option ℕ → ℕ → Type 0
IsTop None top = top ≡ 0
IsTop (Some uid) top = (top ≡ uid) × (0 < top) × (top + 1 < 2 ^ 32)

-- the test says whether the set names the UID
abbrev pub Named : List SetItem → (top uid : ℕ) → Bool → Type 0
Named set top uid test = (most : Option ℕ) → IsTop most top → test ≡ names most set uid

-- the test says whether UID EXPUNGE removes the message
abbrev pub Going : List SetItem → (top : ℕ) → Message → Bool → Type 0
Going set top m test = (most : Option ℕ) → IsTop most top → test ≡ goes (names most set) m

-- the item names nothing below the first UID, and nothing above the second
abbrev pub IsBetween : (top low high : ℕ) → SetItem → Type 0
IsBetween top low high item = (uid : ℕ) → item_names top uid item ≡ true → (low ≤ uid) × (uid ≤ high)

-- nor does the set
abbrev pub AreBetween : (top low high : ℕ) → List SetItem → Type 0
AreBetween top low high set = All (IsBetween top low high) set

-- none of the messages before the first place is named, and none from the second place on
pub record IsReach (named : ℕ → Bool) (messages : List Message) (start end : ℕ) : Type 0 where
  pub front : AllWithin (λ m. named m.uid ≡ false) messages 0 start
  pub back : AllWithin (λ m. named m.uid ≡ false) messages end (length messages)
