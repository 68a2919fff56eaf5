use Rattle.sync_state.specs.declared.journal.Logged.TheVariants.{Copied}
use Rattle.book.specs.Books.{torn}
use Rattle.book.specs.BookLogs.{logged_more}
use Rattle.runner.proofs.KeptBoxes.{boxes_booked, boxes_left, did, held_arrives}
use Rattle.runner.proofs.GivingUp.{logged_on, still_by, torn_on, turned_held, untorn_plan}
use Rattle.runner.proofs.GivenUpRead.{in_look}
use Rattle.runner.proofs.Logging.{takes_log}
use Rattle.runner.proofs.PartCalls.{left_step, left_reported, line_of_log, passed_call}
use Rattle.runner.proofs.Readings.{turned_open}
use Rattle.runner.proofs.give_up.log_copy.Goals as goal

pub done-requires : goal.done-requires
done-requires g c = record { takes = takes_log (g.O.Outside.opened c.args.outside.now) c.args.number (Copied c.args.copy) c.requires.going.untorn c.requires.number c.requires.fits }

pub returns-in-Ok-clause-held : goal.returns-in-Ok-clause-held
returns-in-Ok-clause-held g c = λ honest h. let w = c.in-Ok.ensures.call in let acts = w.acts in let e = acts.effect honest in rw c.in-Ok.ensures.opened (turned_held (λ p. logged_more p (Copied c.args.copy)) _ e.mid _ e.following (held_arrives g.O.Outside.ours g.O.Outside.alone _ _ e.mid e.before h))

pub returns-in-Err-clause-left : goal.returns-in-Err-clause-left
returns-in-Err-clause-left g c = λ honest h. let w = c.in-Err.ensures.call in let acts = w.acts in let l = acts.left honest in
    still_by (λ p. logged_more p (Copied c.args.copy)) torn _ l.mid _ (logged_on (Copied c.args.copy)) torn_on (untorn_plan _ c.requires.going.untorn) (held_arrives g.O.Outside.ours g.O.Outside.alone _ _ l.mid l.before h) (did _ _ _ _ l.mid _ l.following)

pub returns-in-Ok-clause-boxes : goal.returns-in-Ok-clause-boxes
returns-in-Ok-clause-boxes g c = λ honest. let w = c.in-Ok.ensures.call in let acts = w.acts in let e = acts.effect honest in boxes_booked g.O.Outside.ours g.O.Outside.alone _ _ _ e.mid _ e.before e.following

pub returns-in-Err-clause-boxes : goal.returns-in-Err-clause-boxes
returns-in-Err-clause-boxes g c = λ honest. let w = c.in-Err.ensures.call in let acts = w.acts in let l = acts.left honest in boxes_left g.O.Outside.ours g.O.Outside.alone _ _ _ _ _ l.mid _ l.before l.following

pub returns-in-Ok-clause-open : goal.returns-in-Ok-clause-open
returns-in-Ok-clause-open g c = rw c.in-Ok.ensures.opened (turned_open (λ p. logged_more p (Copied c.args.copy)) (g.O.Outside.opened c.args.outside.now) c.requires.going.boxes)

pub returns-in-Ok-clause-counted : goal.returns-in-Ok-clause-counted
returns-in-Ok-clause-counted g c = passed_call _ _ _ _ _ _ _ _ _ _ _ c.in-Ok.ensures.call (λ m at a own. at)

pub returns-in-Err-clause-counted : goal.returns-in-Err-clause-counted
returns-in-Err-clause-counted g c =
    rw c.step_fault.ensures (left_reported _ _ _ _ _ _ _ _ (in_look c.args.number (g.O.Outside.opened c.args.outside.now) _ _ _)
    (left_step _ _ _ _ _ _ _ _ _ _ c.args.number (g.O.Outside.opened c.args.outside.now) _ c.in-Err.ensures.call (line_of_log (g.O.Outside.opened c.args.outside.now) (Copied c.args.copy) _) (λ m at a own. absurd at) (λ m at a own reported. absurd at)))
