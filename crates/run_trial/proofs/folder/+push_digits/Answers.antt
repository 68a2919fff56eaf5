use Rattle.std.proofs.Common.{◌<◌, arith}
use Rattle.run_trial.proofs.DigitLemmas.{digit_pushed}
use Rattle.run_trial.proofs.folder.+push_digits.Goals as goal

pub returns : goal.returns
returns t c =
    let some : 0 < c.args.count = omega (arith, c.if-count-eq0.false) in
    digit_pushed c.args.text.now.items c.push_digits.new.text.items c.push.new.self.items c.args.count c.args.number some c.in_ok-push_digits.ensures c.in_ok-push.ensures.items
