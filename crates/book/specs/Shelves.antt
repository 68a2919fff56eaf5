-- What a shelf stores, and what a call of it does, whether it stops or not.
use Rattle.std.specs.Prelude.{ℕ, ◌≤◌, ◌≡◌, List, [], ◌++◌, length, take, Option, Some, unwrap_or, Vec}
use Rattle.std.specs.Global.{Global}
use Rattle.std.specs.Option.{option_map}
use Rattle.device.specs.Calls.{Effect}
use Rattle.book.specs.declared.shelf.ShelfFile.{ShelfFile}
use Rattle.book.specs.declared.shelf.ShelfFile.TheVariants.{State, Journal}

-- the bytes of the two files, where they are there
pub record Files : Type 0 where
  pub state : Option (List ℕ)
  pub journal : Option (List ℕ)

abbrev pub file_at : ShelfFile → Files → Option (List ℕ)
file_at State files = files.state
file_at Journal files = files.journal

abbrev pub with_file : ShelfFile → Option (List ℕ) → Files → Files
with_file State bytes files = record { state = bytes; journal = files.journal }
with_file Journal bytes files = record { state = files.state; journal = bytes }

-- what a vector holds, where there is one
abbrev pub bytes_of : Option (Vec ℕ Global) → Option (List ℕ)
bytes_of bytes = option_map (λ b. b.items) bytes

-- the bytes of the file are these
abbrev pub Gives : ShelfFile → Option (Vec ℕ Global) → Files → Type 0
Gives file bytes files = bytes_of bytes ≡ file_at file files

-- the file holds these bytes, or is missing
abbrev pub Puts : ShelfFile → Option (List ℕ) → Effect Files
Puts file bytes old new = new ≡ with_file file bytes old

-- bytes follow those that were there
abbrev pub Appends : ShelfFile → List ℕ → Effect Files
Appends file bytes old new = Puts file (Some (unwrap_or (file_at file old) [] ++ bytes)) old new

-- a beginning of the bytes follows those that were there
pub record AppendsPart (file : ShelfFile) (bytes : List ℕ) (old new : Files) : Type 0 where
  pub count : ℕ
  pub within : count ≤ length bytes
  pub part : Appends file (take count bytes) old new
