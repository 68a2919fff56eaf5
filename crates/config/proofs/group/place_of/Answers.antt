use Rattle.std.proofs.Common.{◌∙◌, rules, tests, Global}
use Rattle.std.specs.Prelude.{String, bytes_eq, string_bytes}
use Rattle.std.proofs.lemmas.Iterator.{YieldsList-from_slice}
use Rattle.std.proofs.lemmas.Iterator.Search.{position_from_yields_List}
use Rattle.config.proofs.NameLemmas.{place_map}
use Rattle.config.proofs.group.place_of.Goals as goal

pub returns : goal.returns
returns c =
    position_from_yields_List (λ (other : String Global). bytes_eq (string_bytes other) c.args.name.now) _ _ _ c.position.ensures.ran
    (YieldsList-from_slice c.args.names.now c.iter.ensures.rest)
    (λ x b q k. search (rules, tests))
    ∙ place_map string_bytes (λ other. bytes_eq other c.args.name.now) c.args.names.now
