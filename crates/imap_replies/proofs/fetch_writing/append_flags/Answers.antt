use Rattle.wire_tokens.proofs.AppendLemmas.{then_written}
use Rattle.imap_replies.proofs.fetch_writing.append_flags.Goals as goal

pub returns-clause-ok : goal.returns-clause-ok
returns-clause-ok c = then_written c.in_ok-append.ensures.ok c.in_ok-write.ensures.ok
