use Rattle.std.proofs.Common.{rules}
use Rattle.std.proofs.lemmas.Result.{err_from_is_err_and}
use Rattle.imap_link.proofs.Looked.{err_longer}
use Rattle.imap_link.proofs.Searched.{searched_next}
use Rattle.imap_link.proofs.search.Search.look.Goals as goal

pub returns-in_err-answer-clause-looks : goal.returns-in_err-answer-clause-looks
returns-in_err-answer-clause-looks c =
    let p = err_from_is_err_and c.from_residual.result c.from_residual.ensures.1 in
    err_longer c.args.bytes.now c.in-Some.end c.from_residual.result p.0 c.in_err-answer.field-0.0 p.1 p.2 c.in_err-answer.ensures.looks

pub loop-preserved : goal.loop-preserved
loop-preserved c = record {
  searched = searched_next c.loop.self c.next_place.new.self c.args.bytes.now c.in-Some.end c.in-Some.ensures (search rules) (search rules);
  far = search rules;
}
