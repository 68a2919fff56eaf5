-- Entries by their UIDs, and what a list of them keeps.
use Rattle.std.specs.Prelude.{ℕ, Bool, true, false, not, ◌&&◌, ◌||◌, ◌==◌, nat_lt, ◌<◌, ◌≤◌, ◌≡◌, List, All, AllPairs, Option, Some, None, is_some, is_none, unwrap_or}
use Rattle.std.specs.List.{list_all}
use Rattle.mailcore.specs.declared.side.Side.{Side}
use Rattle.mailcore.specs.declared.side.Side.TheVariants.{Far, Near}
use Rattle.rules.specs.declared.entry.Entry.{Entry}

-- the UID on a side, or 0 if the side has vanished
abbrev pub uid_of : Side → Entry → ℕ
uid_of Far e = unwrap_or e.far 0
uid_of Near e = unwrap_or e.near 0

-- the UID on a side, if the side has not vanished
abbrev pub uid_on : Side → Entry → Option ℕ
uid_on Far e = e.far
uid_on Near e = e.near

-- neither side has vanished
abbrev pub is_full : Entry → Bool
is_full e = is_some e.far && is_some e.near

abbrev pub both : Option ℕ → Option ℕ → Option (ℕ × ℕ)
both None near = None
both (Some far) None = None
both (Some far) (Some near) = Some (far, near)

-- both UIDs of a full entry
abbrev pub uids_of : Entry → Option (ℕ × ℕ)
uids_of e = both e.far e.near

-- by far and then near UID
abbrev pub EntryBefore : Entry → Entry → Type 0
EntryBefore a b = (uid_of Far a ≤ uid_of Far b) × (uid_of Far a ≡ uid_of Far b → uid_of Near a < uid_of Near b)

abbrev pub has_a_side : Entry → Bool
has_a_side e = is_some e.far || is_some e.near

-- in order, never without both sides, and a UID stands in one entry of its side at most
pub record ArePairs (entries : List Entry) : Type 0 where
  pub ordered : AllPairs EntryBefore entries
  pub some : All (λ e. has_a_side e ≡ true) entries
  pub far_once : AllPairs (λ a b. a.far ≡ b.far → a.far ≡ None) entries
  pub near_once : AllPairs (λ a b. a.near ≡ b.near → a.near ≡ None) entries

-- two sides name one UID or nothing
abbrev pub is_same : Option ℕ → Option ℕ → Bool
is_same None None = true
is_same None (Some v) = false
is_same (Some u) None = false
is_same (Some u) (Some v) = u == v

-- an entry may stand after another
abbrev pub follows : Entry → Entry → Bool
follows a b =
    (nat_lt (uid_of Far a) (uid_of Far b) || (uid_of Far a == uid_of Far b && nat_lt (uid_of Near a) (uid_of Near b)))
    && (not (is_same a.far b.far) || is_none a.far)
    && (not (is_same a.near b.near) || is_none a.near)

-- an entry may stand after all of these
abbrev pub may_end : Entry → List Entry → Bool
may_end e entries = has_a_side e && list_all (λ a. follows a e) entries
