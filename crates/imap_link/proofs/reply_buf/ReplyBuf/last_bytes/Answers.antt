use Rattle.std.proofs.Common.{ap, arith}
use Rattle.imap_link.specs.ReplyBuffers.{Buffer}
use Rattle.imap_link.proofs.Views.{last_is}
use Rattle.imap_link.proofs.reply_buf.ReplyBuf.last_bytes.Goals as goal

pub returns : goal.returns
returns c =
    let b = c.self.inside in
    last_is b.bytes.items c.deref.result.now c.args.self.now.read b.start b.end c.args.len c.self.invariant.0 (omega (arith, c.self.invariant.1, c.self.invariant.2))
    (ap (λ (v : Buffer). v.read) c.self.view_is) c.requires c.deref.ensures.value
