use Rattle.std.proofs.Common.{sym}
use Rattle.runner.proofs.KeptBoxes.{all_read}
use Rattle.runner.proofs.GivenUpRead.{in_look}
use Rattle.runner.proofs.PartCalls.{left_step, left_reported, line_of_box, passed_call}
use Rattle.runner.proofs.give_up.look.Goals as goal

pub find_mark-requires : goal.find_mark-requires
find_mark-requires g c = record { is_open = c.requires.going.boxes c.args.side }

pub returns-in-Ok-clause-found : goal.returns-in-Ok-clause-found
returns-in-Ok-clause-found g c = λ honest. let w = c.in-Ok.ensures.call in let acts = w.acts in let e = acts.effect honest in rw (c.first_uid-from.ensures, sym e.following.0) at e.following.1

pub returns-in-Ok-clause-kept : goal.returns-in-Ok-clause-kept
returns-in-Ok-clause-kept g c = λ honest. let w = c.in-Ok.ensures.call in let acts = w.acts in let e = acts.effect honest in all_read g.O.Outside.ours g.O.Outside.alone _ e.mid _ e.before e.following.0

pub returns-in-Err-clause-kept : goal.returns-in-Err-clause-kept
returns-in-Err-clause-kept g c = λ honest. let w = c.in-Err.ensures.call in let acts = w.acts in let l = acts.left honest in all_read g.O.Outside.ours g.O.Outside.alone _ l.mid _ l.before l.following

pub returns-in-Ok-clause-counted : goal.returns-in-Ok-clause-counted
returns-in-Ok-clause-counted g c = passed_call _ _ _ _ _ _ _ _ _ _ _ c.in-Ok.ensures.call (λ m at a own. at)

pub returns-in-Err-clause-counted : goal.returns-in-Err-clause-counted
returns-in-Err-clause-counted g c =
    rw c.step_fault.ensures (left_reported _ _ _ _ _ _ _ _ (in_look c.args.number (g.O.Outside.opened c.args.outside.now) _ _ _)
    (left_step _ _ _ _ _ _ _ _ _ _ c.args.number (g.O.Outside.opened c.args.outside.now) _ c.in-Err.ensures.call (line_of_box _) (λ m at a own. absurd at) (λ m at a own reported. absurd at)))
