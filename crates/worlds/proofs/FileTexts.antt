-- The lines of waiting files.
use Rattle.std.proofs.Common.{◌≡◌, ℕ, List, [], ◌∷◌, ◌++◌, map, refl, ap}
use Rattle.std.specs.List.{flat_map}
use Rattle.worlds.specs.declared.world.WaitingFile.{WaitingFile}
use Rattle.worlds.specs.WorldText.{waiting_line}
use Rattle.worlds.specs.Worlds.{waiting_of}

abbrev pub file_line : WaitingFile → List ℕ
file_line f = waiting_line (waiting_of f)

pub lines_of_files : (files : List WaitingFile) → flat_map file_line files ≡ flat_map waiting_line (map waiting_of files)
lines_of_files [] = refl
lines_of_files (f ∷ files) = ap (λ (l : List ℕ). file_line f ++ l) (lines_of_files files)
