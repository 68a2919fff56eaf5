-- When an entry may follow others in order: what is asked of the last alone, and of all.
use Rattle.std.specs.Prelude.{ℕ, Bool, true, false, not, ◌<◌, ◌&&◌, ◌||◌, ◌==◌, nat_lt, ◌≡◌, List, Option, Some, None, is_none}
use Rattle.std.specs.List.{list_any}
use Rattle.std.specs.Ordering.{nat_cmp}
use Rattle.std.specs.BTreeSet.{contains}
use Rattle.mailcore.specs.declared.side.Side.TheVariants.{Far, Near}
use Rattle.rules.specs.declared.entry.Entry.{Entry}
use Rattle.rules.specs.declared.near_uids.NearUids.{NearUids}
use Rattle.rules.specs.declared.near_uids.NearUids.TheVariants.{Unknown, UpTo, Known}
use Rattle.rules.specs.Entries.{uid_of, is_same}

-- in order after another, and with another far UID
abbrev pub is_above : Entry → Entry → Bool
is_above a b =
    (nat_lt (uid_of Far a) (uid_of Far b) || (uid_of Far a == uid_of Far b && nat_lt (uid_of Near a) (uid_of Near b)))
    && (not (is_same a.far b.far) || is_none a.far)

-- above the last one, if there is one
abbrev pub is_above_last : Option Entry → Entry → Bool
is_above_last None e = true
is_above_last (Some last) e = is_above last e

-- no entry has this near UID
abbrev pub is_near_free : Option ℕ → List Entry → Bool
is_near_free None entries = true
is_near_free (Some uid) entries = not (list_any (λ e. is_same e.near (Some uid)) entries)

-- what is known of the near UIDs of these entries
abbrev pub KnowsNear : NearUids → List Entry → Type 0
KnowsNear Unknown entries = Unit {0}
KnowsNear (UpTo most alloc) entries = (uid : ℕ) → most < uid → list_any (λ e. is_same e.near (Some uid)) entries ≡ false
KnowsNear (Known known) entries = (uid : ℕ) → contains nat_cmp known uid ≡ list_any (λ e. is_same e.near (Some uid)) entries
