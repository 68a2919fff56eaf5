use Rattle.std.proofs.Common.{◌≡◌, take, false, string_bytes}
use Rattle.std.specs.Io.KnownBytes.{Appends}
use Rattle.std.specs.List.{flat_map}
use Rattle.channels.specs.Lines.{box_line}
use Rattle.channels.specs.Streams.{Extends}
use Rattle.channels.proofs.listing.print_boxes.Given as goal

-- the lines of the mailboxes so far are printed
abbrev pub invariant-loop-far : goal.invariant-loop-far
invariant-loop-far g l = record {
  stores : l.stores.stores ≡ l.initial.stores.stores;
  out : l.stores.out.ghost_name ≡ l.initial.stores.out.ghost_name;
  err : l.stores.err ≡ l.initial.stores.err;
  text : Appends (g.O.Write.contents l.initial.stores.out.now) (g.O.Write.contents l.stores.out.now) (flat_map (λ far. box_line (string_bytes l.channel.name) far) (take l.far-index l.boxes));
  whole : Extends (g.O.Write.contents l.initial.stores.out.now) (g.O.Write.contents l.stores.out.now);
  going : l.stores.write_failed ≡ false;
}
