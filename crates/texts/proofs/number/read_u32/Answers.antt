use Rattle.std.proofs.Common.{◌∙◌, sym, arith}
use Rattle.texts.proofs.NumberLemmas.{number_of-None, number_of-decimal, ok_number}
use Rattle.texts.proofs.number.read_u32.Goals as goal

pub returns-in_err-number-clause-value : goal.returns-in_err-number-clause-value
returns-in_err-number-clause-value c =
    c.from_residual.ensures
    ∙ sym (number_of-None c.args.limit c.args.bytes.now (λ n within e. let reported = c.in_err-number.ensures.each n (omega arith) e in cc))

pub returns-clause-value : goal.returns-clause-value
returns-clause-value c =
    let number = c.in_ok-number.ensures.spelled in
    c.ok.ensures.value
    ∙ ok_number c.try_from.result _ c.try_from.ensures (omega arith)
    ∙ sym (number_of-decimal c.args.limit c.in_ok-number.number c.args.bytes.now (omega arith) (omega arith) number.0)
