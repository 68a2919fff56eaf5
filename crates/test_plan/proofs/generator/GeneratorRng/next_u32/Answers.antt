use Rattle.std.proofs.Common.{arith}
use Rattle.std.proofs.lemmas.Grind.{common_steps}
use Rattle.rand_core.proofs.StepsLemmas.{meets_next_u32}
use Rattle.test_plan.proofs.generator.GeneratorRng.next_u32.Goals as goal

pub returns : goal.returns
returns c = meets_next_u32 _ _ _ _ (grind (arith, common_steps))
