use Rattle.std.proofs.lemmas.Result.{err_from_is_err_and}
use Rattle.wire_tokens.proofs.AppendLemmas.{then_written, still_kept}
use Rattle.imap_commands.proofs.writing.append_command.Goals as goal

pub returns-in_err-append_request-clause-kept : goal.returns-in_err-append_request-clause-kept
returns-in_err-append_request-clause-kept c =
    let failed = err_from_is_err_and c.from_residual-in_err-append_request.result c.from_residual-in_err-append_request.ensures.1 in
    let before = then_written c.in_ok-write.ensures.ok (then_written c.in_ok-append.ensures.ok c.in_ok-append_word.ensures.ok) in
    rw failed.1 (still_kept _ _ _ before c.in_err-append_request.ensures.kept)

pub returns-clause-ok : goal.returns-clause-ok
returns-clause-ok c =
    then_written c.in_ok-write.ensures.ok (then_written c.in_ok-append.ensures.ok (then_written c.in_ok-append_word.ensures.ok c.in_ok-append_request.ensures.ok))
