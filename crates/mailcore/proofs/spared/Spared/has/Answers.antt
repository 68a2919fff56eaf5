use Rattle.std.proofs.Common.{◌∙◌}
use Rattle.mailcore.proofs.SparedLemmas.{spared_above}
use Rattle.mailcore.proofs.spared.Spared.has.Goals as goal

pub returns-else-uid-self : goal.returns-else-uid-self
returns-else-uid-self c =
    c.is_ok.ensures.value
    ∙ spared_above c.args.self.now.up_to c.args.uid _ c.args.self.now.others.items _ _ c.get-uid.ensures.number c.deref.ensures.value c.if-uid-self.false
    c.args.self.now.in_order c.binary_search.ensures.position
