use Rattle.std.proofs.Common.{rules}
use Rattle.mailcore.proofs.PassedLemmas.{not_among_more, passed_all}
use Rattle.mailcore.proofs.passed_marks.PassedMarks.pass_all.Goals as goal

pub loop-mark-preserved : goal.loop-mark-preserved
loop-mark-preserved c = record {
  from = c.loop-mark.invariant.from;
  below = c.loop-mark.invariant.below;
  noted = λ other none.
      not_among_more c.loop-mark.self.marks c.insert.new.self c.args.marks.now c.mark-item.result other c.args.self.now.marks c.loop-mark.mark-index (search rules) (search rules)
      (c.in_ok-insert.ensures.updates.0 other) (c.loop-mark.invariant.noted other) none;
}

pub returns-clause-passed : goal.returns-clause-passed
returns-clause-passed c = λ next messages small passed each.
    passed_all next messages c.args.self.now _ c.args.marks.now c.args.below small passed each (search rules) (search rules)
    (λ other none.
    let noted = c.loop-mark.invariant.noted other none in
    (noted.0, λ k d within. noted.1 k d (search rules)))
