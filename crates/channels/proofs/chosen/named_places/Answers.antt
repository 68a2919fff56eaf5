use Rattle.std.proofs.Common.{[], ap, ◌∙◌, string_bytes}
use Rattle.std.proofs.lemmas.List.{take_all}
use Rattle.std.specs.List.{flat_map}
use Rattle.channels.specs.Chosen.{named}
use Rattle.channels.specs.Places.{with_places}
use Rattle.channels.proofs.PlaceLemmas.{with_places-flat_map-more, with_places-is_each_once}
use Rattle.channels.proofs.chosen.named_places.Goals as goal

pub loop-name-preserved : goal.loop-name-preserved
loop-name-preserved c =
    let m = with_places-flat_map-more (λ name. named c.args.config.now (string_bytes name)) [] c.args.names.now c.loop-name.name-index c.name-item.result c.loop-name-test.true in
    let h = c.loop-name.invariant in
    let e = c.in_ok-add_named.ensures in
    let u = c.as_str.ensures.value in
    let i = c.name-item.is in
    cc

pub returns : goal.returns
returns c =
    c.loop-name.invariant
    ∙ ap (λ names. with_places [] (flat_map (λ name. named c.args.config.now (string_bytes name)) names)) (take_all c.loop-name.name-index c.args.names.now c.loop-name-test.false)
    ∙ with_places-is_each_once (flat_map (λ name. named c.args.config.now (string_bytes name)) c.args.names.now)
