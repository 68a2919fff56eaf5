use Rattle.wire_tokens.proofs.FlagTexts.{as_permanent}
use Rattle.wire_tokens.proofs.flag_list.FlagNames.permanent.Goals as goal

pub invariant_of-result : goal.invariant_of-result
invariant_of-result c = as_permanent _ _ c.self.invariant
