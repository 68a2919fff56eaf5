-- Texts cut at a byte.
use Rattle.std.specs.Prelude.{ℕ, ◌==◌, List, [], ◌∷◌, Option, None, Some, if◌then◌else◌}
use Rattle.std.specs.Option.{option_map}

-- what stands on both sides of a byte
abbrev pub Sides : Type 0
Sides = List ℕ × List ℕ

-- the byte stands before the first part
abbrev pub onto_front : ℕ → Sides → Sides
onto_front b (front, following) = (b ∷ front, following)

-- the text cut at the first such byte, if it has one
abbrev pub cut_first : ℕ → List ℕ → Option Sides
cut_first byte [] = None
cut_first byte (b ∷ bs) = if b == byte then Some ([], bs) else option_map (onto_front b) (cut_first byte bs)

abbrev pub or_here : Option Sides → Option Sides → Option Sides
or_here (Some sides) here = Some sides
or_here None here = here

-- the text cut at the last such byte, if it has one
abbrev pub cut_last : ℕ → List ℕ → Option Sides
cut_last byte [] = None
cut_last byte (b ∷ bs) =
    or_here (option_map (onto_front b) (cut_last byte bs)) (if b == byte then Some ([], bs) else None)
