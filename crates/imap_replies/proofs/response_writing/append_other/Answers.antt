use Rattle.std.proofs.lemmas.Result.{err_from_is_err_and}
use Rattle.wire_tokens.proofs.AppendLemmas.{still_kept}
use Rattle.imap_replies.proofs.response_writing.append_other.Goals as goal

pub returns-in_err-append_code_rest-clause-kept : goal.returns-in_err-append_code_rest-clause-kept
returns-in_err-append_code_rest-clause-kept c =
    let failed = err_from_is_err_and c.from_residual-in_err-append_code_rest.result c.from_residual-in_err-append_code_rest.ensures.1 in
    rw failed.1 (still_kept _ _ _ c.in_ok-append.ensures.ok c.in_err-append_code_rest.ensures.kept)
