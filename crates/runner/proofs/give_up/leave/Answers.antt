use Rattle.runner.proofs.KeptBoxes.{boxes_booked, boxes_left, did, held_arrives}
use Rattle.runner.proofs.GivingUp.{given_up_at, given_up_or_not, takes_plan}
use Rattle.runner.proofs.PartCalls.{book_unrefused, left_call, line_of_book, passed_call}
use Rattle.runner.proofs.give_up.leave.Goals as goal

pub give_up-requires : goal.give_up-requires
give_up-requires g c = record { takes = takes_plan (g.O.Outside.opened c.args.outside.now) c.requires.plan; rising = c.requires.rising }

pub returns-in-Ok-clause-done : goal.returns-in-Ok-clause-done
returns-in-Ok-clause-done g c = λ honest h. let w = c.in-Ok.ensures.call in let acts = w.acts in let e = acts.effect honest in given_up_at c.args.lost.now _ e.mid _ e.following (held_arrives g.O.Outside.ours g.O.Outside.alone _ _ e.mid e.before h)

pub returns-in-Err-clause-left : goal.returns-in-Err-clause-left
returns-in-Err-clause-left g c = λ honest h. let w = c.in-Err.ensures.call in let acts = w.acts in let l = acts.left honest in given_up_or_not c.args.lost.now _ l.mid _ c.requires.plan (held_arrives g.O.Outside.ours g.O.Outside.alone _ _ l.mid l.before h) (did _ _ _ _ l.mid _ l.following)

pub returns-in-Ok-clause-boxes : goal.returns-in-Ok-clause-boxes
returns-in-Ok-clause-boxes g c = λ honest. let w = c.in-Ok.ensures.call in let acts = w.acts in let e = acts.effect honest in boxes_booked g.O.Outside.ours g.O.Outside.alone _ _ _ e.mid _ e.before e.following

pub returns-in-Err-clause-boxes : goal.returns-in-Err-clause-boxes
returns-in-Err-clause-boxes g c = λ honest. let w = c.in-Err.ensures.call in let acts = w.acts in let l = acts.left honest in boxes_left g.O.Outside.ours g.O.Outside.alone _ _ _ _ _ l.mid _ l.before l.following

pub returns-in-Ok-clause-counted : goal.returns-in-Ok-clause-counted
returns-in-Ok-clause-counted g c = passed_call _ _ _ _ _ _ _ _ _ _ _ c.in-Ok.ensures.call (λ m at a own. at)

pub returns-in-Err-clause-counted : goal.returns-in-Err-clause-counted
returns-in-Err-clause-counted g c = rw c.call_fault.ensures (left_call _ _ _ _ _ _ _ _ _ _ _ (book_unrefused _) c.in-Err.ensures.call (line_of_book _) (λ m at a own reported. absurd at))
