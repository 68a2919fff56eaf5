use Rattle.wire_tokens.proofs.AppendLemmas.{written_as}
use Rattle.imap_replies.proofs.WrittenReplies.{written_spelled}
use Rattle.imap_replies.proofs.RepliesFit.{reply_few}
use Rattle.imap_replies.proofs.writing.write_reply.Goals as goal

pub returns-else-is_err-clause-ok : goal.returns-else-is_err-clause-ok
returns-else-is_err-clause-ok c = written_as (written_spelled c.args.reply.now) _ _ c.append_reply-written.result c.append_reply-written.ensures.ok

pub returns-else-is_err-clause-fits : goal.returns-else-is_err-clause-fits
returns-else-is_err-clause-fits c =
    written_as (λ t h. record { written = h; fits = reply_few c.args.reply.now t h }) _ _ c.append_reply-written.result c.append_reply-written.ensures.ok
