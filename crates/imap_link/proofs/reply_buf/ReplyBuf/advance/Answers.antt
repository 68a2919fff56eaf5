use Rattle.std.proofs.Common.{◌≡◌, ◌+◌, ◌≤◌, ◌∙◌, ap, arith, length, length-drop, drop}
use Rattle.imap_link.specs.ReplyBuffers.{Buffer, reads}
use Rattle.imap_link.proofs.Views.{buffer_is, more_read, less_unread}
use Rattle.imap_link.proofs.reply_buf.ReplyBuf.advance.Goals as goal

pub returns : goal.returns
returns c =
    let b = c.self.inside in
    let bytes = b.bytes.items in
    let now = c.move_down.new.bytes.items in
    let len = c.args.len in
    let same = c.self.view_is ∙ c.skip_gap.ensures in
    let long : length (drop b.next bytes) ≡ length c.args.self.now.unread = ap (λ (v : Buffer). length v.unread) same in
    let within : b.next + len ≤ length bytes = omega (arith, c.requires, c.self.invariant.2, length-drop b.next bytes) in
    let i = c.self.invariant in
    let m = c.move_down.ensures in
    buffer_is _ _ _ _ (more_read bytes now b.start b.end b.next len i.0 i.1 within m.front m.following) (less_unread bytes now b.start b.end b.next len i.0 i.1 within m.front m.following)
    ∙ ap (reads len) same
