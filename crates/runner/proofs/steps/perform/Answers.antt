use Rattle.runner.proofs.StepParts.{step_weaker}
use Rattle.runner.proofs.Stages.{as_resumed}
use Rattle.runner.proofs.Finding.{plain_so}
use Rattle.runner.proofs.Asking.{performs_plain}
use Rattle.runner.proofs.steps.perform.Goals as goal

pub returns-in-Gone-clause-part : goal.returns-in-Gone-clause-part
returns-in-Gone-clause-part g c =
    let opened = g.O.Outside.opened c.args.outside.now in
    step_weaker _ opened _ _ _ _ _ _ _ _ _ _ (as_resumed g.opening opened c.args.is_resumed) (λ x d k. k) c.mark_deleted.ensures.part

pub returns-in-Flags-clause-part : goal.returns-in-Flags-clause-part
returns-in-Flags-clause-part g c =
    let opened = g.O.Outside.opened c.args.outside.now in
    step_weaker _ opened _ _ _ _ _ _ _ _ _ _ (as_resumed g.opening opened c.args.is_resumed) (λ x d k. k) c.carry_flags.ensures.part

pub returns-in-Expunge-clause-part : goal.returns-in-Expunge-clause-part
returns-in-Expunge-clause-part g c =
    let opened = g.O.Outside.opened c.args.outside.now in
    step_weaker _ opened _ _ _ _ _ _ _ _ _ _ (as_resumed g.opening opened c.args.is_resumed) (λ x d k. k) c.remove.ensures.part

pub returns-in-Gone-clause-found : goal.returns-in-Gone-clause-found
returns-in-Gone-clause-found g c = rw c.in-Gone.is (plain_so g.O.Outside.ours c.mark_deleted.result _ _ (g.O.Outside.seen c.args.outside.now).device c.mark_deleted.ensures.fits)

pub returns-in-Flags-clause-found : goal.returns-in-Flags-clause-found
returns-in-Flags-clause-found g c = rw c.in-Flags.is (plain_so g.O.Outside.ours c.carry_flags.result _ _ (g.O.Outside.seen c.args.outside.now).device c.carry_flags.ensures.fits)

pub returns-in-Expunge-clause-found : goal.returns-in-Expunge-clause-found
returns-in-Expunge-clause-found g c = rw c.in-Expunge.is (plain_so g.O.Outside.ours c.remove.result _ _ (g.O.Outside.seen c.args.outside.now).device c.remove.ensures.fits)

pub returns-in-Gone-clause-asked : goal.returns-in-Gone-clause-asked
returns-in-Gone-clause-asked g c = performs_plain g.O.Outside.noted c.args.is_resumed (g.O.Outside.opened c.args.outside.now) _ _ _ _ (rw c.in-Gone.is at c.requires.1.1.0) tt c.mark_deleted.ensures.asked

pub returns-in-Flags-clause-asked : goal.returns-in-Flags-clause-asked
returns-in-Flags-clause-asked g c = performs_plain g.O.Outside.noted c.args.is_resumed (g.O.Outside.opened c.args.outside.now) _ _ _ _ (rw c.in-Flags.is at c.requires.1.1.0) tt c.carry_flags.ensures.asked

pub returns-in-Expunge-clause-asked : goal.returns-in-Expunge-clause-asked
returns-in-Expunge-clause-asked g c = performs_plain g.O.Outside.noted c.args.is_resumed (g.O.Outside.opened c.args.outside.now) _ _ _ _ (rw c.in-Expunge.is at c.requires.1.1.0) tt c.remove.ensures.asked
