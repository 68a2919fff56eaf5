use Rattle.std.proofs.Common.{◌+◌, arith, sym, eq-eqb, add-one}
use Rattle.std.proofs.lemmas.List.{take_rest}
use Rattle.std.proofs.lemmas.Bool.{eqb-true}
use Rattle.texts.proofs.CutLemmas.{cut_last-none, cut_last-place}
use Rattle.texts.proofs.cut.cut_at_last.Goals as goal

pub returns-in_err-place-clause-value : goal.returns-in_err-place-clause-value
returns-in_err-place-clause-value c =
    rw c.from_residual.ensures (sym (cut_last-none c.args.byte c.args.text.now (λ k below e. c.in_err-place.ensures k (omega arith) below (eq-eqb _ _ e))))

pub returns-clause-value : goal.returns-clause-value
returns-clause-value c =
    let at = c.in_ok-place.ensures in
    rw (take_rest c.args.text.now (c.in_ok-place.place + 1), add-one)
    (sym (cut_last-place c.args.byte c.args.text.now c.in_ok-place.place at.0.high (eqb-true _ _ at.1) (λ k above below e. at.0.after k (omega arith) below (eq-eqb _ _ e))))
