use Rattle.std.proofs.Common.{◌≡◌, ◌∙◌, ℕ, Option, ap, arith, sym, rules, tests}
use Rattle.std.proofs.lemmas.Grind.{common_steps}
use Rattle.std.specs.Prelude.{find, not}
use Rattle.std.specs.List.Sorted.{IsNonDecreasingBy, IsPermutation}
use Rattle.std.specs.Option.{option_map}
use Rattle.std.proofs.lemmas.Iterator.Adapters.{YieldsList-from_vec, option_map_id}
use Rattle.std.proofs.lemmas.Iterator.Search.{find_from_yields_List}
use Rattle.maildir.specs.declared.folder.FileName.{FileName}
use Rattle.maildir.specs.declared.standing.Stale.TheVariants.{Unmarked}
use Rattle.maildir.specs.Standings.{is_among}
use Rattle.maildir.proofs.SearchedLemmas.{rises_by}
use Rattle.maildir.proofs.StandingLemmas.{odd_sorted}
use Rattle.maildir.proofs.standing.Look.odd_one.Goals as goal

pub returns : goal.returns
returns c =
    let moved : IsPermutation c.args.self.marked.items c.as_slice-met.result.now = search rules in
    let rises : IsNonDecreasingBy (λ (uid : ℕ). uid) c.as_slice-met.result.now =
    rw c.as_slice-met.ensures.value (rises_by (λ (uid : ℕ). uid) _ c.sort_unstable_by_key.ensures.sorted (λ a r q k. search rules)) in
    let found : option_map (λ (one : ℕ × FileName). one) c.find.result ≡ find (λ (one : ℕ × FileName). not (is_among c.as_slice-met.result.now one.0)) c.args.self.odd.items =
    find_from_yields_List (λ (one : ℕ × FileName). not (is_among c.as_slice-met.result.now one.0)) c.find.new.self _ c.find.result c.find.ensures.ran
    (YieldsList-from_vec {s = c.into_iter.result} c.args.self.odd.items c.into_iter.ensures.rest (c.into_iter.ensures.len ∙ c.args.self.odd.ok.0))
    (λ x b q k. first_of (search (rules, tests, rises), grind (arith, rises))) in
    let mapped : c.map.result ≡ option_map (λ (one : ℕ × FileName). Unmarked one.0 one.1) c.find.result = first_of (search rules, grind (arith, common_steps)) in
    mapped ∙ ap (λ (o : Option (ℕ × FileName)). option_map (λ one. Unmarked one.0 one.1) o) (sym (option_map_id c.find.result) ∙ found)
    ∙ odd_sorted c.args.self.marked.items c.as_slice-met.result.now c.args.self.odd.items moved
