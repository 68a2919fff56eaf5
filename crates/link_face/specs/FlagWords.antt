-- Words among which flags are handed out (RFC 9051, section 2.3.2).
use Rattle.std.specs.Prelude.{◌==◌, ◌&&◌, ◌||◌, not, nat_le, nat_eq, ℕ, Bool, List, [], ◌∷◌, ◌++◌, codes, length, filter, if◌then◌else◌}
use Rattle.std.specs.List.{list_all}
use Rattle.std.specs.Cmp.Lexicographic.{pointwise}
use Rattle.wire_tokens.specs.Atoms.{is_atom_byte}
use Rattle.wire_tokens.specs.FlagLists.{spaced_out}
use Rattle.wire_tokens.specs.Names.{names_of}

abbrev pub without_backslash : List ℕ → List ℕ
without_backslash [] = []
without_backslash (b ∷ bs) = if b == 92 then bs else b ∷ bs

-- an atom of the profile, or `\` and one
abbrev pub is_flag : List ℕ → Bool
is_flag word =
    let atom = without_backslash word in
    not (length atom == 0) && nat_le (length atom) 255 && list_all is_atom_byte atom

-- `\*`: other flags may be made
abbrev pub is_star : List ℕ → Bool
is_star word = pointwise nat_eq word (codes "\\*")

abbrev pub is_kept : (takes_star : Bool) → List ℕ → Bool
is_kept takes_star word = is_flag word || takes_star && is_star word

-- those of the names that are handed out, with a space between
abbrev pub kept_of : (takes_star : Bool) → (names : List (List ℕ)) → List ℕ
kept_of takes_star names = spaced_out (filter (is_kept takes_star) names)

-- those of the words in brackets
abbrev pub listed_flags : (takes_star : Bool) → (words : List ℕ) → List ℕ
listed_flags takes_star words = 40 ∷ (kept_of takes_star (names_of words) ++ 41 ∷ [])
