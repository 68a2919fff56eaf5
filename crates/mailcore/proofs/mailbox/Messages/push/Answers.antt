use Rattle.std.proofs.Common.{◌≡◌, sym, ◌∙◌, ap, true}
use Rattle.std.specs.Prelude.{nat_lt}
use Rattle.std.specs.List.{list_all}
use Rattle.mailcore.proofs.Rising.{rising-push}
use Rattle.mailcore.specs.declared.mailbox.Message.{Message}
use Rattle.mailcore.proofs.mailbox.Messages.push.Goals as goal

pub invariant_of-self-2 : goal.invariant_of-self-2
invariant_of-self-2 c =
    let above : list_all (λ (m : Message). nat_lt m.uid c.args.message.uid) c.self.inside.list.items ≡ true =
    ap (λ is. list_all (λ (m : Message). nat_lt m.uid c.args.message.uid) is) (sym c.deref.ensures.value) ∙ sym c.is_above.ensures ∙ c.if-not-is_above.false in
    rw c.in_ok-push.ensures.items (rising-push (λ (m : Message). m.uid) _ _ c.self.invariant above)
