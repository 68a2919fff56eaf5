use Rattle.std.proofs.Common.{◌∙◌, sym, rules, ℕ}
use Rattle.std.proofs.lemmas.List.Sorted.{answers_always}
use Rattle.maildir.proofs.SearchedLemmas.{is_there}
use Rattle.guarded.proofs.sorted.Uids.has.Goals as goal

pub returns : goal.returns
returns c =
    let uids = c.deref.result.now in
    let found = c.binary_search_by_key.ensures.position (λ (one : ℕ). one) (answers_always _ _ _ (λ f a r q k. search rules)) in
    let there = is_there (λ (one : ℕ). one) uids c.args.uid c.get.result c.binary_search_by_key.result c.get.ensures.number (rw c.deref.ensures.value c.self.invariant) found 0 c.binary_search_by_key.ensures.bound in
    rw (sym c.self.view_is, sym c.deref.ensures.value) (c.is_ok.ensures.value ∙ there)
