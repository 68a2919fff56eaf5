use Rattle.std.proofs.Common.{◌≡◌, ◌∙◌, List, ap, rules, sym, tests}
use Rattle.std.specs.List.{list_all}
use Rattle.std.proofs.lemmas.Iterator.{YieldsList-from_slice}
use Rattle.std.proofs.lemmas.Iterator.Search.{all_from_yields_List}
use Rattle.config_words.specs.declared.keyword.FirstWord.{FirstWord}
use Rattle.config_words.specs.declared.keyword.LinePlace.{LinePlace}
use Rattle.config_words.specs.Keywords.{required_at}
use Rattle.config.specs.Drafts.{place_of}
use Rattle.config.proofs.RequiredLemmas.{all_stand, stand_all, stands_in}
use Rattle.config.proofs.draft.Draft.is_whole.Goals as goal

pub returns : goal.returns
returns c =
    let seen = c.args.self.now.seen.items in
    let required = required_at (place_of c.args.self.now.section) in
    let same : c.required-required.result.now ≡ required = c.required-required.ensures ∙ ap (λ (p : LinePlace). required_at p) c.place.ensures in
    let tested : c.all.result ≡ list_all (stands_in seen) c.required-required.result.now =
    all_from_yields_List (stands_in seen) _ _ _ c.all.ensures.ran (YieldsList-from_slice c.required-required.result.now c.iter.ensures.rest)
    (λ x b q k. search (rules, tests)) in
    let is = tested ∙ ap (λ (l : List FirstWord). list_all (stands_in seen) l) same in
    (λ whole. all_stand seen required (sym is ∙ whole), λ has. is ∙ stand_all seen required has)
