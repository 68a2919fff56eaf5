use Rattle.std.proofs.Common.{◌≡◌, ℕ, false, eqb, List, [], ◌∷◌, length, refl, sym, ap, ◌∙◌, rules, tests}
use Rattle.std.specs.List.{fold}
use Rattle.std.proofs.lemmas.Iterator.Consumers.{fold_from_yields_List}
use Rattle.std.proofs.lemmas.Iterator.Splits.{YieldsList-from_slice_split}
use Rattle.wire_tokens.specs.Names.{is_space, names_of}
use Rattle.mailcore.specs.KeywordNames.{with_named, named_set}
use Rattle.wire_tokens.specs.FlagLists.{listed}
use Rattle.wire_tokens.proofs.flag_list.named_set.Goals as goal

listed_is : (text : List ℕ) → eqb (length text) 0 ≡ false → names_of text ≡ listed text
listed_is [] h = absurd cc
listed_is (b ∷ bs) h = refl

pub returns : goal.returns
returns c =
    fold_from_yields_List _ (with_named c.args.keywords.now) _ _ c.fold.ensures.ran
    (YieldsList-from_slice_split _ is_space c.args.text.now c.split.ensures.rest c.split.ensures.done c.split.ensures.closure (λ x b q k. search (rules, tests)))
    (λ a x b q k. search (rules, tests))
    ∙ ap (λ (set : ℕ). fold (with_named c.args.keywords.now) set (names_of c.args.text.now)) c.none-2.ensures
    ∙ ap (named_set c.args.keywords.now) (listed_is c.args.text.now (sym c.is_empty.ensures ∙ c.if-is_empty.false))
