use Rattle.std.proofs.Common.{rules}
use Rattle.std.specs.Ordering.{nat_cmp}
use Rattle.std.specs.Cmp.Lexicographic.{slice_cmp}
use Rattle.std.proofs.lemmas.Fn.{always_returns_same}
use Rattle.channels.proofs.SearchLemmas.{placed, standing}
use Rattle.channels.proofs.boxes.search.Goals as goal

pub returns-clause-place : goal.returns-clause-place
returns-clause-place c =
    placed c.args.name.now c.args.names.now c.binary_search_by.result c.requires.rising c.binary_search_by.ensures.bound
    (c.binary_search_by.ensures.position (λ n. slice_cmp nat_cmp n c.args.name.now) (always_returns_same _ _ _ (λ a r q k. (search rules, search rules))))

pub returns-clause-stands : goal.returns-clause-stands
returns-clause-stands c =
    standing c.args.name.now c.args.names.now c.binary_search_by.result c.requires.rising c.binary_search_by.ensures.bound
    (c.binary_search_by.ensures.position (λ n. slice_cmp nat_cmp n c.args.name.now) (always_returns_same _ _ _ (λ a r q k. (search rules, search rules))))
