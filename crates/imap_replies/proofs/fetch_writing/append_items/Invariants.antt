use Rattle.std.proofs.Common.{take}
use Rattle.imap_replies.specs.Forms.{AsWritten}
use Rattle.imap_replies.specs.Fetches.{ItemIn}
use Rattle.wire_tokens.proofs.SetWriting.{Written}
use Rattle.imap_replies.proofs.fetch_writing.append_items.Given as goal

abbrev pub invariant-loop-i : goal.invariant-loop-i
invariant-loop-i l = Written 32 (ItemIn AsWritten) (take l.i l.items) l.fn.out.items l.out.items
