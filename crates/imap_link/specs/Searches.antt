-- How far a reply was sought.
use Rattle.std.specs.Prelude.{◌≡◌, ◌≤◌, ◌<◌, ℕ, List, length, take, Option, None, Some}
use Rattle.wire_reader.specs.Scanning.{start, scanned}
use Rattle.imap_link.specs.declared.search.Search.{Search}
use Rattle.imap_link.specs.Fronts.{BeginsAtPlaces, NoneWhole}

-- so many of the bytes were scanned; no reply is whole in them, and none of their places breaks the protocol
pub record IsSearched (search : Search) (bytes : List ℕ) : Type 0 where
  pub within : search.scanned ≤ length bytes
  pub scanner_is : search.scanner ≡ scanned start (take search.scanned bytes)
  pub none : NoneWhole (take search.scanned bytes)
  pub begun : BeginsAtPlaces (take search.scanned bytes)

-- the next place was found
pub record IsNext (old new : Search) (bytes : List ℕ) (end : ℕ) : Type 0 where
  pub within : end ≤ length bytes
  pub later : old.scanned < end
  pub scanned_is : new.scanned ≡ end
  pub scanner_is : new.scanner ≡ scanned start (take end bytes)

-- or there is none, and no reply is whole
abbrev pub Finds : (old new : Search) (bytes : List ℕ) → Option ℕ → Type 0
Finds old new bytes None = IsSearched new bytes × (new.scanned ≡ length bytes)
Finds old new bytes (Some end) = IsNext old new bytes end
