use Rattle.wire_tokens.proofs.SetTests.{tested}
use Rattle.wire_tokens.proofs.uid_set.names_are_tested.Goals as goal

pub returns : goal.returns
returns c = tested
