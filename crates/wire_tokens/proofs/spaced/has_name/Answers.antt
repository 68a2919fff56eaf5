use Rattle.std.proofs.Common.{rules, tests}
use Rattle.std.specs.Str.{str_eq_ignore_ascii_case}
use Rattle.std.proofs.lemmas.Iterator.Search.{any_from_yields_List}
use Rattle.std.proofs.lemmas.Iterator.Splits.{YieldsList-from_slice_split}
use Rattle.wire_tokens.specs.Names.{is_space}
use Rattle.wire_tokens.proofs.spaced.has_name.Goals as goal

pub returns : goal.returns
returns c =
    any_from_yields_List (λ one. str_eq_ignore_ascii_case one c.args.name.now) _ _ _ c.any.ensures.ran
    (YieldsList-from_slice_split _ is_space c.args.text.now c.split.ensures.rest c.split.ensures.done c.split.ensures.closure (λ x b q k. search (rules, tests)))
    (λ x b q k. search (rules, tests))
