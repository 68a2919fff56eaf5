use Rattle.std.proofs.Common.{rules}
use Rattle.wire_tokens.specs.Sets.{names}
use Rattle.wire_tokens.proofs.SetTests.{tested, same_truth}
use Rattle.wire_tokens.proofs.uid_set.UidSet.names.Goals as goal

pub returns-in-Some-clause-named : goal.returns-in-Some-clause-named
returns-in-Some-clause-named c = search rules

pub returns-in-Some-clause-test : goal.returns-in-Some-clause-test
returns-in-Some-clause-test c =
    let said = returns-in-Some-clause-named c in
    let test = tested c.args.greatest c.args.self.now c.args.uid in
    same_truth c.any.result (names c.args.greatest c.args.self.now c.args.uid) (λ h. test.1 (said.0 h)) (λ h. said.1 (test.0 h))
