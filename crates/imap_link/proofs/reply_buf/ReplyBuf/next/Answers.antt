use Rattle.std.proofs.Common.{rules, ◌≡◌, ◌∙◌, Ok, ap, arith, drop, length, length-drop, subst}
use Rattle.wire_reader.specs.Answers.{WholeAt}
use Rattle.imap_replies.specs.Replies.{ReplyText}
use Rattle.wire_reader.specs.declared.answer.Read.{Read}
use Rattle.imap_link.specs.ReplyBuffers.{Buffer}
use Rattle.imap_link.specs.Fronts.{IsWhole, Looks}
use Rattle.imap_link.proofs.Answered.{whole_takes, whole_waits}
use Rattle.imap_link.proofs.reply_buf.ReplyBuf.next.Goals as goal

pub returns-in_ok-reply-in-Ok-Whole-clause-takes : goal.returns-in_ok-reply-in-Ok-Whole-clause-takes
returns-in_ok-reply-in-Ok-Whole-clause-takes c =
    let is : WholeAt ReplyText c.args.self.now.unread c.in_ok-reply-in-Ok-Whole.reply c.in-Ok-Whole.len = search rules in
    whole_takes c.args.self.now.unread c.in-Ok-Whole.len c.in_ok-reply-in-Ok-Whole.reply is

pub returns-in_ok-reply-in-Ok-Whole-clause-waits : goal.returns-in_ok-reply-in-Ok-Whole-clause-waits
returns-in_ok-reply-in-Ok-Whole-clause-waits c =
    let is : WholeAt ReplyText c.args.self.now.unread c.in_ok-reply-in-Ok-Whole.reply c.in-Ok-Whole.len = search rules in
    whole_waits c.args.self.now.unread c.in-Ok-Whole.len c.in_ok-reply-in-Ok-Whole.reply is

pub invariant_of-self-in-Ok-Whole : goal.invariant_of-self-in-Ok-Whole
invariant_of-self-in-Ok-Whole c =
    let b = c.self.inside in
    let long : length (drop b.next b.bytes.items) ≡ length c.close_gap.new.self.unread = ap (λ (v : Buffer). length v.unread) (c.self.view_is ∙ c.found.ensures.same) in
    let whole : IsWhole c.close_gap.new.self.unread c.in-Ok-Whole.len =
    subst (λ (r : Read (Unit {0})). Looks c.close_gap.new.self.unread (Ok r)) c.in-Ok-Whole.field-0-is c.in-Ok-Whole.ensures.looks in
    let within = whole.within in (
      omega (arith, c.self.invariant.0, c.self.invariant.1),
      omega arith,
      omega (arith, within, long, c.self.invariant.2, length-drop b.next b.bytes.items),
      c.new-self-inside.ensures _,
    )
