use Rattle.std.proofs.lemmas.Result.{err_from_is_err_and}
use Rattle.wire_tokens.proofs.AppendLemmas.{then_written, still_kept}
use Rattle.imap_replies.proofs.writing.append_message.Goals as goal

pub returns-in_err-append_fetch-clause-kept : goal.returns-in_err-append_fetch-clause-kept
returns-in_err-append_fetch-clause-kept c =
    let failed = err_from_is_err_and c.from_residual-in_err-append_fetch.result c.from_residual-in_err-append_fetch.ensures.1 in
    let before = then_written c.in_ok-append.ensures.ok (then_written c.in_ok-write.ensures.ok (then_written c.in_ok-append-2.ensures.ok c.in_ok-append-3.ensures.ok)) in
    rw failed.1 (still_kept _ _ _ before c.in_err-append_fetch.ensures.kept)
