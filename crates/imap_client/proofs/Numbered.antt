-- Stored messages by their UIDs, and which of them a set names.
use Rattle.std.proofs.Common.{◌≡◌, ℕ, suc, ◌+◌, ◌<◌, ◌≤◌, Bool, true, List, [], ◌∷◌, get_or, refl, ◌∙◌, ap, Option, Some, arith}
use Rattle.std.specs.Prelude.{All, max, nat_le}
use Rattle.std.proofs.lemmas.Bool.{le-leb, leb-true, and_from, or_left}
use Rattle.mailcore.specs.declared.mailbox.Message.{Message}
use Rattle.mailcore.specs.Listed.{AreRising}
use Rattle.mailcore.specs.Ranges.{AreInRange}
use Rattle.mailcore.specs.Stores.{Store, IsStore}
use Rattle.wire_tokens.specs.Sets.{names}
use Rattle.imap_session.specs.NamedMessages.{greatest, named_in}
use Rattle.imap_client.specs.Calls.{from_on}

-- UIDs rise from here on, and there is a next one above each
abbrev pub Rise : (low : ℕ) → List Message → Type 0
Rise low [] = Unit {0}
Rise low (m ∷ ms) = (low ≤ m.uid) × (m.uid + 1 < 4294967296) × Rise (m.uid + 1) ms

pub rise_of : (low : ℕ) (ms : List Message) → AreRising ms → All (λ m. low ≤ m.uid) ms → All (λ m. m.uid + 1 < 4294967296) ms → Rise low ms
rise_of low [] rising from last = tt
rise_of low (m ∷ ms) rising from last = (
  from 0 m (omega arith),
  last 0 m (omega arith),
  rise_of (m.uid + 1) ms
      (λ i j d h k. rising (suc i) (suc j) d (omega arith) (omega arith))
      (λ k d h. let above : m.uid < (get_or ms k d).uid = rising 0 (suc k) d (omega arith) (omega arith) in omega arith)
      (λ k d h. last (suc k) d (omega arith)),
)

pub store_rises : (s : Store) → IsStore s → AreInRange s.messages → Rise 1 s.messages
store_rises s is range = rise_of 1 s.messages is.rising (λ k d h. let p = range.uids k d h in omega arith) (λ k d h. range.last k d h)

-- ---- the greatest UID

abbrev pub last_of : Message → List Message → ℕ
last_of m [] = m.uid
last_of m (n ∷ ns) = last_of n ns

pub greatest_is : (m : Message) (ms : List Message) → greatest (m ∷ ms) ≡ Some (last_of m ms)
greatest_is m [] = refl
greatest_is m (n ∷ ns) = greatest_is n ns

last_least : (low : ℕ) (m : Message) (ms : List Message) → Rise low (m ∷ ms) → m.uid ≤ last_of m ms
last_least low m [] r = omega arith
last_least low m (n ∷ ns) r = let next = last_least (m.uid + 1) n ns r.2 in let above = r.2.0 in omega arith

-- ---- the messages from a UID on

abbrev pub Names : (named : ℕ → Bool) (from : ℕ) → List Message → Type 0
Names named from [] = Unit {0}
Names named from (m ∷ ms) = (nat_le from m.uid ≡ true → named m.uid ≡ true) × Names named from ms

range_names : (from top uid : ℕ) → from ≤ uid → 1 ≤ uid → uid ≤ top → names (Some top) (from_on from) uid ≡ true
range_names from top uid low some high =
    or_left _ _ (or_left _ _ (and_from _ _ (le-leb (max from 1) uid (omega arith)) (le-leb uid top high)))

names_by : (g : Option ℕ) (from low : ℕ) (m : Message) (ms : List Message) → 1 ≤ low → Rise low (m ∷ ms) → g ≡ Some (last_of m ms) → Names (names g (from_on from)) from (m ∷ ms)
names_by g from low m [] some r e = (λ h. ap (λ (x : Option ℕ). names x (from_on from) m.uid) e ∙ range_names from m.uid m.uid (leb-true from m.uid h) (let low_is = r.0 in omega arith) (omega arith), tt)
names_by g from low m (n ∷ ns) some r e = (
  λ h. ap (λ (x : Option ℕ). names x (from_on from) m.uid) e ∙ range_names from (last_of n ns) m.uid (leb-true from m.uid h) (let low_is = r.0 in omega arith) (last_least low m (n ∷ ns) r),
  names_by g from (m.uid + 1) n ns (omega arith) r.2 e,
)

names_in : (from : ℕ) (ms : List Message) → Rise 1 ms → Names (names (greatest ms) (from_on from)) from ms
names_in from [] r = tt
names_in from (m ∷ ms) r = names_by (greatest (m ∷ ms)) from 1 m ms (omega arith) r (greatest_is m ms)

pub names_from : (s : Store) (from : ℕ) → Rise 1 s.messages → Names (named_in s (from_on from)) from s.messages
names_from s from r = names_in from s.messages r
