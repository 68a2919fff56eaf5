use Rattle.std.proofs.Common.{◌∙◌, ℕ, sym, rules, tests}
use Rattle.std.specs.Prelude.{◌==◌}
use Rattle.std.proofs.lemmas.Iterator.Adapters.{YieldsList-from_skip, option_map_id}
use Rattle.std.proofs.lemmas.Iterator.Consumers.{YieldsList-at, YieldsList-from_filter_map}
use Rattle.std.proofs.lemmas.Iterator.Search.{find_from_yields_List}
use Rattle.std.proofs.lemmas.Iterator.Splits.{YieldsList-from_slice_split}
use Rattle.maildir.specs.Standings.{COMMA, is_among, uid_ahead}
use Rattle.maildir.proofs.standing.ahead_among.Goals as goal

pub returns : goal.returns
returns c =
    sym (option_map_id c.find.result)
    ∙ find_from_yields_List (is_among c.args.uids.now) _ _ c.find.result c.find.ensures.ran
    ((YieldsList-from_filter_map _ uid_ahead
    (YieldsList-at c.filter_map.ensures.source (YieldsList-from_skip 1
    (YieldsList-at c.skip.ensures.source (YieldsList-from_slice_split _ (λ (b : ℕ). b == COMMA) c.args.name.now c.split.ensures.rest c.split.ensures.done c.split.ensures.closure (λ x b q k. search (rules, tests))))
    c.skip.ensures.count)) c.filter_map.ensures.closure (λ x r q k. search (rules, tests))))
    (λ x b q k. search (rules, tests))
