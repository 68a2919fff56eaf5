use Rattle.std.proofs.Common.{◌∙◌, refl, None}
use Rattle.runner.proofs.Finding.{same_none}
use Rattle.runner.specs.GivingUp.{InLook, Nowhere}
use Rattle.runner.specs.Going.{number_at}
use Rattle.runner.proofs.GivingUp.{notes_none}
use Rattle.runner.proofs.PartCalls.{part_reported, passed_none}
use Rattle.runner.proofs.StepParts.{steps_reported}
use Rattle.runner.proofs.Looking.{looks_none}
use Rattle.runner.proofs.give_up.note_copy.Goals as goal

pub returns-in-None-clause-notes : goal.returns-in-None-clause-notes
returns-in-None-clause-notes g c = λ honest.
    let d = (g.O.Outside.seen c.args.outside.now).device in
    notes_none g.O.Outside.ours (g.O.Outside.opened c.args.outside.now) None d d c.requires.going.untorn c.in-None.ensures refl (same_none g.O.Outside.ours d)

pub returns-in-None-clause-counted : goal.returns-in-None-clause-counted
returns-in-None-clause-counted g c = passed_none _ Nowhere Nowhere _ c.requires.whole (λ k. k)

pub returns-in-Some-clause-counted : goal.returns-in-Some-clause-counted
returns-in-Some-clause-counted g c =
    let n = number_at (g.O.Outside.opened c.args.outside.now) in
    part_reported _ _ _ _ _ _ _ _ _ _ (steps_reported _ (InLook n) (λ step k. k ∙ c.in-Some.ensures.0)) c.note_step.ensures.counted

pub returns-in-None-clause-asked : goal.returns-in-None-clause-asked
returns-in-None-clause-asked g c = looks_none g.O.Outside.noted _ _ refl
