use Rattle.std.proofs.Common.{arith}
use Rattle.std.proofs.lemmas.Grind.{common_steps}
use Rattle.worlds.proofs.KeywordLines.{given_more}
use Rattle.worlds.proofs.read_keywords.read_keywords.Goals as goal

pub loop-line-preserved : goal.loop-line-preserved
loop-line-preserved c =
    let added = c.in_ok-add_keyword.ensures.added in
    record {
      is_map = added.is_map;
      given = given_more c.loop-line.keywords c.add_keyword.new.keywords c.in-Some.line.text.now c.take_if.new.self.rest.now c.loop-line.lines.rest.now c.args.lines.now.rest.now c.loop-line.invariant.given c.in-Some.ensures.line added;
      taken = grind (arith, common_steps, added.following);
      count = omega arith;
    }
