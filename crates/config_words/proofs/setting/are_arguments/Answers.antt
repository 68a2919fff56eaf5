use Rattle.std.proofs.Common.{◌∙◌, sym, rules, tests}
use Rattle.std.specs.Prelude.{string_bytes}
use Rattle.std.proofs.lemmas.Iterator.{YieldsList-from_slice}
use Rattle.std.proofs.lemmas.Iterator.Search.{all_from_yields_List}
use Rattle.std.proofs.lemmas.List.Folds.{list_all-map}
use Rattle.config_words.specs.Settings.{is_argument}
use Rattle.config_words.proofs.setting.are_arguments.Goals as goal

pub returns : goal.returns
returns c =
    all_from_yields_List (λ argument. is_argument (string_bytes argument)) _ _ _ c.all.ensures.ran
    (YieldsList-from_slice c.args.arguments.now c.iter.ensures.rest)
    (λ x b q k. search (rules, tests))
    ∙ sym (list_all-map is_argument string_bytes c.args.arguments.now)
