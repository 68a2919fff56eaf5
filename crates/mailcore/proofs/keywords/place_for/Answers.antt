use Rattle.std.proofs.Common.{rules, tests, ◌∙◌, sym}
use Rattle.std.specs.Prelude.{nat_lt}
use Rattle.std.proofs.lemmas.Iterator.{YieldsList-from_slice}
use Rattle.std.proofs.lemmas.Iterator.Search.{position_from_yields_List}
use Rattle.mailcore.specs.declared.keywords.Keyword.{Keyword}
use Rattle.mailcore.proofs.KeywordMaps.{stands_found, stands_last}
use Rattle.mailcore.proofs.keywords.place_for.Goals as goal

pub returns-in-Some-clause-place : goal.returns-in-Some-clause-place
returns-in-Some-clause-place c =
    stands_found c.args.letter c.in-Some.place c.args.keywords.now
    (sym (position_from_yields_List (λ (x : Keyword). nat_lt c.args.letter x.letter) _ _ _ c.position.ensures.ran (YieldsList-from_slice c.args.keywords.now c.iter.ensures.rest) (λ x b q k. search (rules, tests))) ∙ c.in-Some.is)

pub returns-in-None-clause-place : goal.returns-in-None-clause-place
returns-in-None-clause-place c =
    stands_last c.args.letter c.args.keywords.now
    (sym (position_from_yields_List (λ (x : Keyword). nat_lt c.args.letter x.letter) _ _ _ c.position.ensures.ran (YieldsList-from_slice c.args.keywords.now c.iter.ensures.rest) (λ x b q k. search (rules, tests))) ∙ c.in-None.is)
