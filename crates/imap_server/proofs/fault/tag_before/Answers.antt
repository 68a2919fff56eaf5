use Rattle.std.proofs.Common.{◌∙◌}
use Rattle.imap_server.proofs.TagLemmas.{space_test, tag_if_space, no_tag_else, no_tag_stop}
use Rattle.imap_server.proofs.fault.tag_before.Goals as goal

pub returns-then-eq : goal.returns-then-eq
returns-then-eq c =
    tag_if_space c.args.front.now c.in-Ok.tag c.in-Ok.rest.now c.in-Ok.ensures
    (space_test c.copied.result _ c.eq.result c.eq.ensures (c.copied.ensures ∙ c.first.ensures.value) ∙ c.if-eq.true)

pub returns-else-eq : goal.returns-else-eq
returns-else-eq c =
    no_tag_else c.args.front.now c.in-Ok.tag c.in-Ok.rest.now c.in-Ok.ensures
    (space_test c.copied.result _ c.eq.result c.eq.ensures (c.copied.ensures ∙ c.first.ensures.value) ∙ c.if-eq.false)

pub returns-in-Err-Ends : goal.returns-in-Err-Ends
returns-in-Err-Ends c = no_tag_stop c.args.front.now c.in-Err-Ends.field-0 c.in-Err-Ends.ensures

pub returns-in-Err-Fails : goal.returns-in-Err-Fails
returns-in-Err-Fails c = no_tag_stop c.args.front.now c.in-Err-Fails.field-0 c.in-Err-Fails.ensures
