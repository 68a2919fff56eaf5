use Rattle.std.proofs.Common.{true, List, sym, subst}
use Rattle.mailcore.specs.declared.keywords.Keyword.{Keyword}
use Rattle.outside.specs.MailboxOperations.{ListsWithin}
use Rattle.mailcore.specs.declared.side.Side.TheVariants.{Near}
use Rattle.runner.proofs.PartCalls.{from_opening, left_call, line_of_opening, opening_unrefused, passed_reported}
use Rattle.runner.proofs.Begun.{clear_arrives, clear_underway, near_listed}
use Rattle.runner.proofs.Validities.{read_validities}
use Rattle.runner.proofs.opening.list_near.Goals as goal

pub list_near-requires : goal.list_near-requires
list_near-requires g c = record { is_open = c.requires.1.1.0 Near }

pub returns-in-Ok-clause-part : goal.returns-in-Ok-clause-part
returns-in-Ok-clause-part g c =
    let s1 = g.O.Outside.seen c.list_near.new.self in
    rw c.in-Ok.ensures.opened (passed_reported _ _ _ _ _ _ _ _ _ _ _ c.in-Ok.ensures.call (λ h m at a own. near_listed g.opening _ _ _ _ _ m s1.device (subst (λ (ks : List Keyword). ListsWithin ks c.in-Ok.near) (sym c.requires.1.1.1) (c.in-Ok.ensures.within h)) (c.requires.1.0 g.opening.world.state at.clear.state) a at own.0 own.1))

pub returns-in-Err-clause-part : goal.returns-in-Err-clause-part
returns-in-Err-clause-part g c =
    let opened = g.O.Outside.opened c.args.outside.now in
    rw c.call_fault.ensures (left_call _ _ _ _ _ _ _ _ _ _ _ (opening_unrefused _) c.in-Err.ensures.call (line_of_opening _) (λ m at a own reported. (from_opening c.in-Err.fault reported, rw own (clear_underway g.opening opened true m (clear_arrives g.opening opened true _ m a at.clear)))))

pub returns-in-Ok-clause-validities : goal.returns-in-Ok-clause-validities
returns-in-Ok-clause-validities g c = λ honest. let w = c.in-Ok.ensures.call in let acts = w.acts in let e = acts.effect honest in read_validities g.O.Outside.ours g.O.Outside.alone _ e.mid _ e.before e.following.0

pub returns-in-Ok-clause-validity : goal.returns-in-Ok-clause-validity
returns-in-Ok-clause-validity g c = λ honest. let w = c.in-Ok.ensures.call in let acts = w.acts in let e = acts.effect honest in let l = e.following.1 in rw e.following.0 l.validity
