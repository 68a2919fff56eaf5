-- Literals of at least one octet: their length does not begin with 0.
use Rattle.std.specs.Prelude.{ℕ, ◌<◌, List, [], ◌∷◌, length, Result, ◌==◌, if◌then◌else◌}
use Rattle.wire_reader.specs.declared.side.Speaker.{Speaker}
use Rattle.wire_reader.specs.declared.stop.Stop.{Stop}
use Rattle.wire_reader.specs.Reading.{stuck, seq, skip, byte_at}
use Rattle.wire_reader.specs.Literal.{Literal, length_at, octets_of}

-- the literals of at least one octet
abbrev pub FilledLiteral : Speaker → List ℕ → List ℕ → Type 0
FilledLiteral side octets text = Literal side octets text × (0 < length octets)

-- a reader, but not where this byte stands first
abbrev pub barred : {A : Type 0} → ℕ → (List ℕ → Result (A × List ℕ) Stop) → List ℕ → Result (A × List ℕ) Stop
barred c r [] = r []
barred c r (b ∷ bs) = if b == c then stuck (b ∷ bs) else r (b ∷ bs)

abbrev pub filled_literal_at : Speaker → List ℕ → Result (List ℕ × List ℕ) Stop
filled_literal_at side = skip (byte_at 123) (seq (barred 48 (length_at side)) (octets_of side))
