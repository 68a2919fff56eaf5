use Rattle.std.proofs.Common.{rules}
use Rattle.std.proofs.lemmas.List.Sorted.{answers_always}
use Rattle.near_box.specs.SurveyParts.{is_before}
use Rattle.near_box.proofs.OrderLemmas.{names_in_order}
use Rattle.near_box.proofs.survey.FoundFiles.sort.Goals as goal

pub returns-clause-rise : goal.returns-clause-rise
returns-clause-rise c = c.in_ok-sort_by_key.ensures.sorted (λ entry. entry.uid) (answers_always _ _ _ (λ f a r q k. search rules))

pub returns-clause-in_order : goal.returns-clause-in_order
returns-clause-in_order c = c.in_ok-sort_by.ensures.sorted is_before names_in_order (answers_always _ _ _ (λ f a r q k. search rules))
