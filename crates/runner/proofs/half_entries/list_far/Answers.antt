use Rattle.mailcore.specs.declared.side.Side.TheVariants.{Far}
use Rattle.runner.proofs.KeptBoxes.{all_read}
use Rattle.runner.proofs.PartCalls.{left_call, line_of_opening, opening_unrefused, passed_call}
use Rattle.runner.proofs.half_entries.list_far.Goals as goal

pub look_far-requires : goal.look_far-requires
look_far-requires g c = record { is_open = c.requires.boxes Far }

pub returns-in-Ok-clause-shows : goal.returns-in-Ok-clause-shows
returns-in-Ok-clause-shows g c = λ honest. let w = c.in-Ok.ensures.call in let acts = w.acts in let e = acts.effect honest in let l = e.following.1 in rw e.following.0 l.shows.items

pub returns-in-Ok-clause-kept : goal.returns-in-Ok-clause-kept
returns-in-Ok-clause-kept g c = λ honest. let w = c.in-Ok.ensures.call in let acts = w.acts in let e = acts.effect honest in all_read g.O.Outside.ours g.O.Outside.alone _ e.mid _ e.before e.following.0

pub returns-in-Err-clause-kept : goal.returns-in-Err-clause-kept
returns-in-Err-clause-kept g c = λ honest. let w = c.in-Err.ensures.call in let acts = w.acts in let l = acts.left honest in all_read g.O.Outside.ours g.O.Outside.alone _ l.mid _ l.before l.following

pub returns-in-Ok-clause-counted : goal.returns-in-Ok-clause-counted
returns-in-Ok-clause-counted g c = passed_call _ _ _ _ _ _ _ _ _ _ _ c.in-Ok.ensures.call (λ m at a own. at)

pub returns-in-Err-clause-counted : goal.returns-in-Err-clause-counted
returns-in-Err-clause-counted g c = rw c.call_fault.ensures (left_call _ _ _ _ _ _ _ _ _ _ _ (opening_unrefused _) c.in-Err.ensures.call (line_of_opening _) (λ m at a own reported. absurd at))
