use Rattle.std.proofs.Common.{◌<◌, ◌≡◌, ◌∙◌, ℕ, List, Result, Ok, Err, rules}
use Rattle.std.specs.Prelude.{All, AllPairs, IfErr, IfOk}
use Rattle.std.specs.Ordering.{nat_cmp}
use Rattle.std.specs.List.{HoldsAt}
use Rattle.std.specs.List.Sorted.{IsBinarySearchResult}
use Rattle.std.proofs.lemmas.List.Sorted.{answers_always}
use Rattle.near_box.specs.declared.known_mark.KnownMark.{KnownMark}
use Rattle.near_box.proofs.OrderLemmas.{equal_numbers, none_found}
use Rattle.near_box.proofs.known_mark.place_of_mark.Goals as goal

found_by : (known : List KnownMark) (uid b : ℕ) (r : Result ℕ ℕ) → b ≡ uid → IsBinarySearchResult (λ k. nat_cmp k.uid b) known r → IfOk r (λ i. HoldsAt (λ k. k.uid ≡ uid) known i)
found_by known uid b (Ok i) same search_result = λ d. equal_numbers _ _ (search_result d) ∙ same
found_by known uid b (Err i) same search_result = tt

pub returns-in_default-clause-found : goal.returns-in_default-clause-found
returns-in_default-clause-found c =
    found_by c.args.known.now c.args.uid c.get-number.result c.binary_search_by_key.result c.get-number.ensures.number (c.binary_search_by_key.ensures.position (λ k. k.uid) (answers_always _ _ _ (λ f a r q k. search rules)))

missing_by : (known : List KnownMark) (uid b : ℕ) (r : Result ℕ ℕ) → b ≡ uid → IsBinarySearchResult (λ k. nat_cmp k.uid b) known r
    → AllPairs (λ a b. a.uid < b.uid) known → IfErr r (λ i. All (λ k. k.uid ≡ uid → ⊥) known)
missing_by known uid b (Ok i) same search_result rising = tt
missing_by known uid b (Err i) same search_result rising = none_found (λ k. k.uid) known uid b i same search_result rising

pub returns-in_default-clause-missing : goal.returns-in_default-clause-missing
returns-in_default-clause-missing c =
    missing_by c.args.known.now c.args.uid c.get-number.result c.binary_search_by_key.result c.get-number.ensures.number (c.binary_search_by_key.ensures.position (λ k. k.uid) (answers_always _ _ _ (λ f a r q k. search rules)))
