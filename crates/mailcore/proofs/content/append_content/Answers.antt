use Rattle.std.proofs.Common.{arith}
use Rattle.std.proofs.lemmas.Grind.{common_steps}
use Rattle.mailcore.proofs.ContentLemmas.{with_line_ends-content}
use Rattle.mailcore.proofs.content.append_content.Goals as goal

pub returns : goal.returns
returns c = grind (arith, common_steps, with_line_ends-content c.args.end c.args.message.now, c.in-None.ensures.steps)
