use Rattle.std.proofs.Common.{◌≡◌, ◌++◌, ◌∷◌, take, string_bytes}
use Rattle.std.specs.Prelude.{codes}
use Rattle.worlds.proofs.write.write_keyword.Given as goal

abbrev pub invariant-loop-byte : goal.invariant-loop-byte
invariant-loop-byte l = record {
  items : l.byte-items ≡ l.keyword.name;
  written : string_bytes l.text ≡ string_bytes l.fn.text ++ (codes "keyword " ++ l.keyword.letter ∷ 32 ∷ take l.byte-index l.keyword.name);
}
