-- How a password is sent.
use Rattle.std.specs.Prelude.{ℕ, List}
use Rattle.std.specs.List.{flat_map}
use Rattle.wire_strings.specs.Quotes.{escaped}

-- what stands between the quotes: `"` and `\` after a `\`
abbrev pub sent : List ℕ → List ℕ
sent password = flat_map escaped password
