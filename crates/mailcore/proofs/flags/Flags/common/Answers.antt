use Rattle.mailcore.proofs.FlagRules.{common_is}
use Rattle.mailcore.proofs.flags.Flags.common.Goals as goal

pub returns : goal.returns
returns c = rw (← c.self.view_is, ← c.other.view_is) (common_is _ _ c.self.invariant)
