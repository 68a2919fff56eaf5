use Rattle.std.proofs.Common.{rules, ltb}
use Rattle.std.proofs.lemmas.List.Sorted.{answers_always}
use Rattle.run_trial.proofs.ContentsLemmas.{rise_if}
use Rattle.run_trial.proofs.contents.rise.Goals as goal

pub returns : goal.returns
returns c = rise_if c.args.messages.now c.is_sorted_by.result (c.is_sorted_by.ensures.cases (λ a b. ltb a.uid b.uid) (answers_always _ _ _ (λ f a r q k. search rules)))
