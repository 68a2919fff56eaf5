-- Which names of mailboxes have no folder below the path of a Maildir store.
use Rattle.std.specs.Prelude.{ℕ, nat_eq, ◌==◌, Bool, ◌||◌, List, codes, bytes_eq}
use Rattle.std.specs.List.{list_any, slice_split, starts_with}

-- what stands in the folder of a mailbox: its three folders, its state with what belongs to it, and its validity
unfoldable pub is_own_part : List ℕ → Bool
is_own_part part =
    bytes_eq part (codes "cur") || bytes_eq part (codes "new") || bytes_eq part (codes "tmp")
    || starts_with nat_eq part (codes ".mbsyncstate") || starts_with nat_eq part (codes ".uidvalidity")

-- a name of which a part, between slashes (47), is one of these
abbrev pub has_own_part : List ℕ → Bool
has_own_part name = list_any is_own_part (slice_split (λ b. b == 47) name)
