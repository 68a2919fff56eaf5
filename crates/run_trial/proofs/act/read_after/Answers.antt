use Rattle.std.proofs.Common.{sym}
use Rattle.texts.proofs.StartLemmas.{starts}
use Rattle.run_trial.proofs.ActLemmas.{after_sign}
use Rattle.run_trial.proofs.act.read_after.Goals as goal

pub returns-else-is_empty : goal.returns-else-is_empty
returns-else-is_empty c =
    let cases = c.in_ok-strip_prefix.ensures.cases in
    after_sign c.args.sign.now c.in_ok-strip_prefix.field-0.now c.args.word.now c.in_ok-flags.flags
    (starts c.args.sign.now c.args.word.now c.in_ok-strip_prefix.field-0.now cases.0 cases.1) c.in_ok-flags.ensures.spelled (sym c.if-is_empty.ensures)
