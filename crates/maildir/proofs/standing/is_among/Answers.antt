use Rattle.std.proofs.Common.{ℕ, ◌∙◌, rules}
use Rattle.std.proofs.lemmas.List.Sorted.{answers_always}
use Rattle.maildir.proofs.SearchedLemmas.{is_there}
use Rattle.maildir.proofs.standing.is_among.Goals as goal

pub returns : goal.returns
returns c = λ rising.
    let found = c.binary_search_by_key.ensures.position (λ (one : ℕ). one) (answers_always _ _ _ (λ f a r q k. search rules)) in
    let there = is_there (λ (one : ℕ). one) c.args.uids.now c.args.uid c.get.result c.binary_search_by_key.result c.get.ensures.number rising found 0 c.binary_search_by_key.ensures.bound in
    c.is_ok.ensures.value ∙ there
