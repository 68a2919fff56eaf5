use Rattle.std.proofs.Common.{rules, arith}
use Rattle.std.proofs.lemmas.Grind.{common_steps}
use Rattle.worlds.proofs.KeywordTexts.{written_more}
use Rattle.worlds.proofs.write.write_keywords.Goals as goal

pub loop-keyword-preserved : goal.loop-keyword-preserved
loop-keyword-preserved c =
    let more = written_more c.args.keywords.now c.loop-keyword.keyword-index c.keyword-item.result (search rules) (search rules) in
    grind (arith, common_steps, more)
