use Rattle.std.proofs.Common.{◌≡◌, ◌∙◌, List, ap, arith, sym, take}
use Rattle.std.specs.List.{list_any}
use Rattle.std.proofs.lemmas.List.{take_all}
use Rattle.std.proofs.lemmas.List.Sorted.{list_any-IsPermutation}
use Rattle.rules.specs.declared.plan.Step.{Step}
use Rattle.book.specs.Changes.{is_of}
use Rattle.book.specs.Committed.{says_gone}
use Rattle.book.proofs.changes.gone_pairs.Goals as goal

pub returns : goal.returns
returns c = record {
  in_order = c.sort_pairs.ensures.in_order;
  says = λ e.
      let all : list_any (is_of e) c.loop-step.pairs.items ≡ list_any (says_gone c.args.direction e) (take c.loop-step.step-index c.args.steps.now) = c.loop-step.invariant e in
      let ends : list_any (says_gone c.args.direction e) (take c.loop-step.step-index c.args.steps.now) ≡ list_any (says_gone c.args.direction e) c.args.steps.now = ap (λ (l : List Step). list_any (says_gone c.args.direction e) l) (take_all _ c.args.steps.now (let past = c.loop-step-test.false in omega arith)) in
      sym (list_any-IsPermutation (is_of e) _ _ c.sort_pairs.ensures.same) ∙ all ∙ ends;
}
