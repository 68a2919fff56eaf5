use Rattle.std.proofs.Common.{◌≡◌, ℕ, ◌∙◌, List, None, All, Result, Ok, Err, rules, sym}
use Rattle.std.specs.Prelude.{IfSome}
use Rattle.std.specs.Ordering.{nat_cmp}
use Rattle.std.specs.List.{HoldsAt}
use Rattle.std.specs.List.Sorted.{IsBinarySearchResult}
use Rattle.std.specs.Result.{result_ok}
use Rattle.std.proofs.lemmas.List.Sorted.{answers_always}
use Rattle.near_box.specs.Entries.{AreRising}
use Rattle.near_box.specs.declared.survey.SurveyEntry.{SurveyEntry}
use Rattle.near_box.proofs.OrderLemmas.{equal_numbers, none_found}
use Rattle.near_box.proofs.near_calls.place_of.Goals as goal

found_by : (entries : List SurveyEntry) (uid b : ℕ) (r : Result ℕ ℕ) → b ≡ uid → IsBinarySearchResult (λ entry. nat_cmp entry.uid b) entries r
    → IfSome (result_ok r) (λ i. HoldsAt (λ entry. entry.uid ≡ uid) entries i)
found_by entries uid b (Ok i) same search_result = λ d. equal_numbers _ _ (search_result d) ∙ same
found_by entries uid b (Err i) same search_result = tt

pub returns-clause-found : goal.returns-clause-found
returns-clause-found c =
    rw (c.ok.ensures.value) (found_by c.args.entries.now c.args.uid c.get.result c.binary_search_by_key.result c.get.ensures.number (c.binary_search_by_key.ensures.position (λ entry. entry.uid) (answers_always _ _ _ (λ f a r q k. search rules))))

missing_by : (entries : List SurveyEntry) (uid b : ℕ) (r : Result ℕ ℕ) → b ≡ uid → IsBinarySearchResult (λ entry. nat_cmp entry.uid b) entries r
    → AreRising entries → result_ok r ≡ None → All (λ entry. entry.uid ≡ uid → ⊥) entries
missing_by entries uid b (Ok i) same search_result rising none = cc
missing_by entries uid b (Err i) same search_result rising none = none_found (λ entry. entry.uid) entries uid b i same search_result rising

pub returns-clause-missing : goal.returns-clause-missing
returns-clause-missing c = λ rising none.
    missing_by c.args.entries.now c.args.uid c.get.result c.binary_search_by_key.result c.get.ensures.number (c.binary_search_by_key.ensures.position (λ entry. entry.uid) (answers_always _ _ _ (λ f a r q k. search rules))) rising (sym (c.ok.ensures.value) ∙ none)
