use Rattle.std.proofs.Common.{◌∙◌, ap, refl, Some}
use Rattle.runner.proofs.Finding.{same_none}
use Rattle.runner.specs.GivingUp.{Nowhere}
use Rattle.runner.proofs.GivingUp.{notes_none}
use Rattle.runner.proofs.PartCalls.{passed_none}
use Rattle.runner.proofs.Looking.{looks_none}
use Rattle.runner.proofs.give_up.note_step.Goals as goal

pub returns-in-Gone-clause-notes : goal.returns-in-Gone-clause-notes
returns-in-Gone-clause-notes g c = λ honest.
    let d = (g.O.Outside.seen c.args.outside.now).device in
    notes_none g.O.Outside.ours (g.O.Outside.opened c.args.outside.now) _ d d c.requires.going.untorn (c.requires.next ∙ ap Some c.in-Gone.is) refl (same_none g.O.Outside.ours d)

pub returns-in-Flags-clause-notes : goal.returns-in-Flags-clause-notes
returns-in-Flags-clause-notes g c = λ honest.
    let d = (g.O.Outside.seen c.args.outside.now).device in
    notes_none g.O.Outside.ours (g.O.Outside.opened c.args.outside.now) _ d d c.requires.going.untorn (c.requires.next ∙ ap Some c.in-Flags.is) refl (same_none g.O.Outside.ours d)

pub returns-in-Expunge-clause-notes : goal.returns-in-Expunge-clause-notes
returns-in-Expunge-clause-notes g c = λ honest.
    let d = (g.O.Outside.seen c.args.outside.now).device in
    notes_none g.O.Outside.ours (g.O.Outside.opened c.args.outside.now) _ d d c.requires.going.untorn (c.requires.next ∙ ap Some c.in-Expunge.is) refl (same_none g.O.Outside.ours d)

pub returns-in-Gone-clause-counted : goal.returns-in-Gone-clause-counted
returns-in-Gone-clause-counted g c = passed_none _ Nowhere Nowhere _ c.requires.whole (λ k. k)

pub returns-in-Flags-clause-counted : goal.returns-in-Flags-clause-counted
returns-in-Flags-clause-counted g c = passed_none _ Nowhere Nowhere _ c.requires.whole (λ k. k)

pub returns-in-Expunge-clause-counted : goal.returns-in-Expunge-clause-counted
returns-in-Expunge-clause-counted g c = passed_none _ Nowhere Nowhere _ c.requires.whole (λ k. k)

pub returns-in-Gone-clause-asked : goal.returns-in-Gone-clause-asked
returns-in-Gone-clause-asked g c = looks_none g.O.Outside.noted _ _ refl

pub returns-in-Flags-clause-asked : goal.returns-in-Flags-clause-asked
returns-in-Flags-clause-asked g c = looks_none g.O.Outside.noted _ _ refl

pub returns-in-Expunge-clause-asked : goal.returns-in-Expunge-clause-asked
returns-in-Expunge-clause-asked g c = looks_none g.O.Outside.noted _ _ refl
