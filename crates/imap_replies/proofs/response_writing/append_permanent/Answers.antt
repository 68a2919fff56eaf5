use Rattle.wire_tokens.proofs.AppendLemmas.{then_written}
use Rattle.imap_replies.proofs.response_writing.append_permanent.Goals as goal

pub returns-clause-ok : goal.returns-clause-ok
returns-clause-ok c =
    then_written c.in_ok-append.ensures.ok (then_written c.in_ok-append-2.ensures.ok
    (then_written c.in_ok-write.ensures.ok c.in_ok-append-3.ensures.ok))
