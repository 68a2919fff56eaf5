use Rattle.std.proofs.Common.{◌≡◌, ◌++◌, ◌∷◌, length, take, drop}
use Rattle.std.specs.List.{flat_map}
use Rattle.wire_strings.specs.Quotes.{escaped}
use Rattle.wire_strings.proofs.string_writing.append_quoted.Given as goal

abbrev pub invariant-loop-b : goal.invariant-loop-b
invariant-loop-b l = record {
  rest : l.out.items ++ flat_map escaped (drop l.b-index l.bytes) ≡ l.fn.out.items ++ 34 ∷ flat_map escaped l.bytes;
  kept : take (length l.fn.out.items) l.out.items ≡ l.fn.out.items;
}
