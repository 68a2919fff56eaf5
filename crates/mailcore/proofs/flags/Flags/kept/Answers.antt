use Rattle.std.proofs.Common.{◌∙◌, ap}
use Rattle.mailcore.specs.FlagSet.{common}
use Rattle.mailcore.specs.KeywordNames.{kept}
use Rattle.mailcore.proofs.flags.Flags.kept.Goals as goal

pub returns : goal.returns
unfolding kept
returns c = c.common.ensures ∙ ap (common c.args.self) c.known.ensures
