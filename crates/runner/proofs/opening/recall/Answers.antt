use Rattle.runner.proofs.PartCalls.{left_call, line_of_shelf, passed_call, shelf_unrefused, stuck_call, whole_call}
use Rattle.runner.proofs.Readings.{held_before, read_known, unread_files, unread_left}
use Rattle.runner.proofs.Validities.{kept_read}
use Rattle.run_states.proofs.Arrived.{underway_arrives}
use Rattle.runner.proofs.Finding.{same_read}
use Rattle.runner.proofs.opening.recall.Goals as goal

pub returns-in-Ok-clause-part : goal.returns-in-Ok-clause-part
returns-in-Ok-clause-part g c =
    let s1 = g.O.Outside.seen c.open_book.new.self in
    passed_call _ _ _ _ _ _ _ _ _ _ _ c.in-Ok.ensures.call (λ m at a own. read_known g.opening _ _ m s1.device at a own.0 own.1)

pub returns-in-Err-clause-part : goal.returns-in-Err-clause-part
returns-in-Err-clause-part g c =
    let s1 = g.O.Outside.seen c.open_book.new.self in
    rw c.call_fault.ensures (left_call _ _ _ _ _ _ _ _ _ _ _ (shelf_unrefused _) c.in-Err.ensures.call
    (λ reported. line_of_shelf _ (λ honest. let w = c.in-Err.ensures.call in let acts = w.acts in let l = acts.left honest in unread_files c.in-Err.fault l.mid s1.device l.following.0 l.following.1))
    (λ m at a own reported. unread_left g.opening c.in-Err.fault m s1.device (underway_arrives g.opening _ m a at) own.0 own.1 reported))

pub returns-in-Ok-clause-held : goal.returns-in-Ok-clause-held
returns-in-Ok-clause-held g c = λ honest. let w = c.in-Ok.ensures.call in let acts = w.acts in let e = acts.effect honest in held_before g.opening _ _ e.mid e.before e.following.1

pub returns-in-Ok-clause-kept : goal.returns-in-Ok-clause-kept
returns-in-Ok-clause-kept g c = λ honest. let w = c.in-Ok.ensures.call in let acts = w.acts in let e = acts.effect honest in kept_read g.O.Outside.ours g.O.Outside.alone _ e.mid _ e.before e.following.0

pub returns-in-Err-clause-kept : goal.returns-in-Err-clause-kept
returns-in-Err-clause-kept g c = λ honest. let w = c.in-Err.ensures.call in let acts = w.acts in let l = acts.left honest in kept_read g.O.Outside.ours g.O.Outside.alone _ l.mid _ l.before l.following.0

pub returns-in-Ok-clause-stuck : goal.returns-in-Ok-clause-stuck
returns-in-Ok-clause-stuck g c = λ b. absurd (whole_call _ _ _ _ _ _ _ _ _ c.in-Ok.ensures.call b)

pub returns-in-Err-clause-stuck : goal.returns-in-Err-clause-stuck
returns-in-Err-clause-stuck g c = λ b. rw c.call_fault.ensures (stuck_call _ _ _ _ _ _ _ _ c.in-Err.fault c.in-Err.ensures.call b)

pub returns-in-Ok-clause-same : goal.returns-in-Ok-clause-same
returns-in-Ok-clause-same g c = λ honest. let w = c.in-Ok.ensures.call in let acts = w.acts in let e = acts.effect honest in same_read g.O.Outside.ours g.O.Outside.alone _ e.mid _ e.before (e.following).0
