use Rattle.std.proofs.Common.{◌≡◌, ◌++◌, drop}
use Rattle.wire_strings.specs.Quotes.{unescaped_from, unescaped}
use Rattle.link_face.proofs.token.unescaped.Given as goal

abbrev pub invariant-loop-b : goal.invariant-loop-b
invariant-loop-b l = l.value.items ++ unescaped_from l.after_slash (drop l.b-index l.raw) ≡ unescaped l.raw
