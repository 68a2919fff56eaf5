use Rattle.std.proofs.Common.{◌∙◌, rules, tests}
use Rattle.std.specs.Prelude.{nat_eq, string_bytes}
use Rattle.std.specs.Cmp.Lexicographic.{pointwise}
use Rattle.std.proofs.lemmas.Iterator.{YieldsList-from_slice}
use Rattle.std.proofs.lemmas.Iterator.Search.{any_from_yields_List}
use Rattle.config.proofs.NameLemmas.{any_map}
use Rattle.config.proofs.names.stands_among.Goals as goal

pub returns : goal.returns
returns c =
    any_from_yields_List (λ other. pointwise nat_eq (string_bytes other) c.args.name.now) _ _ _ c.any.ensures.ran
    (YieldsList-from_slice c.args.names.now c.iter.ensures.rest)
    (λ x b q k. search (rules, tests))
    ∙ any_map string_bytes (λ other. pointwise nat_eq other c.args.name.now) c.args.names.now
