use Rattle.wire_tokens.proofs.AppendLemmas.{then_written}
use Rattle.imap_commands.proofs.request_writing.append_message.Goals as goal

pub returns-clause-ok : goal.returns-clause-ok
returns-clause-ok c =
    then_written c.in_ok-write.ensures.ok
    (then_written c.in_ok-append.ensures.ok
    (then_written c.in_ok-write-2.ensures.ok (then_written c.in_ok-append-2.ensures.ok (then_written c.in_ok-write-3.ensures.ok c.in_ok-append-3.ensures.ok))))
