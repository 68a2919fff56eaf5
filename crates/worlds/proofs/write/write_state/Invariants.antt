use Rattle.std.proofs.Common.{◌≡◌, ◌++◌, take, string_bytes}
use Rattle.std.specs.List.{flat_map}
use Rattle.worlds.specs.WorldText.{entry_line, state_line}
use Rattle.worlds.proofs.write.write_state.Given as goal

abbrev pub invariant-loop-entry : goal.invariant-loop-entry
invariant-loop-entry l = record {
  items : l.entry-items ≡ l.fn.state.entries;
  written : string_bytes l.text ≡ string_bytes l.fn.text ++ (state_line l.fn.state ++ flat_map entry_line (take l.entry-index l.entry-items));
}
