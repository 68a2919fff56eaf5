use Rattle.std.proofs.Common.{rules, ◌≡◌, ◌∙◌, sym, ap, ℕ, List, Bor, option_map, Option, None}
use Rattle.std.proofs.lemmas.Iterator.{YieldsList-from_slice}
use Rattle.std.proofs.lemmas.Iterator.Search.{find_from_yields_List}
use borrow.Author.Tests.{tests}
use Rattle.mailcore.specs.declared.flags.Flag.{Flag}
use Rattle.mailcore.specs.FlagNames.{all_flags, is_named, flag_named}
use Rattle.mailcore.proofs.flags.Flag.named.Goals as goal

-- what the search found
found_is : (name : List ℕ) (r s : Option (Bor Flag)) → option_map (λ x. x.now) r ≡ flag_named name → r ≡ s → option_map (λ x. x.now) s ≡ flag_named name
found_is name r s found is = ap (λ o. option_map (λ x. x.now) o) (sym is) ∙ found

pub returns-in-None : goal.returns-in-None
returns-in-None c =
    found_is c.args.name.now c.find.result None (find_from_yields_List (is_named c.args.name.now) _ _ _ c.find.ensures.ran (YieldsList-from_slice all_flags c.iter.ensures.rest) (λ x b q k. search (rules, tests))) c.in-None.is
