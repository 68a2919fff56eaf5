use Rattle.std.proofs.Common.{take}
use Rattle.wire_tokens.specs.Sets.{ItemText}
use Rattle.wire_tokens.proofs.SetWriting.{Written}
use Rattle.wire_tokens.proofs.uid_set.write_items.Given as goal

abbrev pub invariant-loop-i : goal.invariant-loop-i
invariant-loop-i l = Written 44 ItemText (take l.i l.items) l.fn.out.items l.out.items
