use Rattle.std.proofs.Common.{◌≡◌, ◌++◌, false, true, map, drop}
use Rattle.mailcore.specs.Listed.{item_of}
use Rattle.mailcore.specs.Spared.{spares}
use Rattle.box_worlds.specs.Spared.{item_spared}
use Rattle.box_worlds.specs.declared.bodies.Bodies.TheVariants.{Short}
use Rattle.box_worlds.proofs.reader.WorldReader.listed_mailbox.Given as goal

-- the messages so far are those of the listing
abbrev pub invariant-loop-item : goal.invariant-loop-item
invariant-loop-item g l = record {
  honest : g.M.Mailbox.honest l.mailbox → g.M.Mailbox.honest l.initial.mailbox;
  keeps : g.M.Mailbox.alone ≡ true → g.M.Mailbox.honest l.mailbox → (g.M.Mailbox.seen l.mailbox).stored ≡ (g.M.Mailbox.seen l.initial.mailbox).stored;
  whole : (g.M.Mailbox.seen l.mailbox).is_broken ≡ false;
  opened : g.M.Mailbox.is_open l.mailbox ≡ true;
  numbers : (l.made.validity ≡ l.initial.made.validity) × (l.made.next ≡ l.initial.made.next);
  messages : l.self.bodies ≡ Short → map (item_of l.side) l.made.messages ++ map (item_spared (spares l.spared)) (drop l.item-index l.item-items)
      ≡ map (item_spared (spares l.spared)) l.item-items;
}
