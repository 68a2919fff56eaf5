use Rattle.std.proofs.Common.{◌≡◌, [], take}
use Rattle.channels.specs.Boxes.{Rises, put_names}
use Rattle.channels.proofs.boxes.in_order.Given as goal

-- the names so far are put
abbrev pub invariant-loop-name : goal.invariant-loop-name
invariant-loop-name l = record {
  rising : Rises l.ordered.items;
  names : l.ordered.items ≡ put_names [] (take l.name-index l.names);
}
