use Rattle.std.proofs.Common.{◌≡◌, Bool, List, ℕ, take}
use Rattle.std.specs.List.{filter}
use Rattle.channels.specs.Boxes.{Rises, Reports, put_names}
use Rattle.channels.proofs.boxes.add_chosen.Given as goal

-- the names so far that the patterns choose are put
abbrev pub invariant-loop-name : goal.invariant-loop-name
invariant-loop-name l = record {
  rising : Rises l.boxes.items;
  boxes : (is_chosen : List ℕ → Bool) → Reports is_chosen l.patterns → l.boxes.items ≡ put_names l.initial.boxes.items (filter is_chosen (take l.name-index l.names));
}
