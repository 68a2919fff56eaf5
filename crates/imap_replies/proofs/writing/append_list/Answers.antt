use Rattle.wire_tokens.proofs.AppendLemmas.{then_written}
use Rattle.wire_strings.proofs.StringWriting.{in_replies}
use Rattle.imap_replies.proofs.writing.append_list.Goals as goal

pub returns-clause-ok : goal.returns-clause-ok
returns-clause-ok c =
    then_written c.in_ok-append.ensures.ok (then_written c.in_ok-append-2.ensures.ok (then_written c.in_ok-append-3.ensures.ok
    (then_written c.in_ok-write.ensures.ok (then_written c.in_ok-append-4.ensures.ok (then_written c.in_ok-append_mark.ensures.ok
    (then_written c.in_ok-append-5.ensures.ok (then_written (in_replies c.in_ok-write-2.ensures.ok) c.in_ok-append-6.ensures.ok)))))))
