use Rattle.std.proofs.Common.{◌∙◌, List, ap}
use Rattle.mailcore.specs.declared.listing.Item.{Item}
use Rattle.mailcore.specs.declared.side.Side.TheVariants.{Near}
use Rattle.rules.specs.Scene.{flags_at}
use Rattle.runner.proofs.Fitness.{flags_sparing}
use Rattle.runner.proofs.KeptBoxes.{all_read}
use Rattle.runner.proofs.PartCalls.{left_call, line_of_opening, opening_unrefused, passed_call}
use Rattle.runner.proofs.half_entries.list_near.Goals as goal

pub look_near-requires : goal.look_near-requires
look_near-requires g c = record { is_open = c.requires.boxes Near }

pub returns-in-Ok-clause-shows : goal.returns-in-Ok-clause-shows
returns-in-Ok-clause-shows g c = λ honest uid. let w = c.in-Ok.ensures.call in let acts = w.acts in let e = acts.effect honest in let l = e.following.1 in
    rw e.following.0 (ap (λ (is : List Item). flags_at is uid) l.items ∙ flags_sparing _ e.mid.near.store.messages uid)

pub returns-in-Ok-clause-kept : goal.returns-in-Ok-clause-kept
returns-in-Ok-clause-kept g c = λ honest. let w = c.in-Ok.ensures.call in let acts = w.acts in let e = acts.effect honest in all_read g.O.Outside.ours g.O.Outside.alone _ e.mid _ e.before e.following.0

pub returns-clause-kept : goal.returns-clause-kept
returns-clause-kept g c = λ honest. let w = c.in-Err.ensures.call in let acts = w.acts in let l = acts.left honest in all_read g.O.Outside.ours g.O.Outside.alone _ l.mid _ l.before l.following

pub returns-in-Ok-clause-counted : goal.returns-in-Ok-clause-counted
returns-in-Ok-clause-counted g c = passed_call _ _ _ _ _ _ _ _ _ _ _ c.in-Ok.ensures.call (λ m at a own. at)

pub returns-clause-counted : goal.returns-clause-counted
returns-clause-counted g c = rw c.call_fault.ensures (left_call _ _ _ _ _ _ _ _ _ _ _ (opening_unrefused _) c.in-Err.ensures.call (line_of_opening _) (λ m at a own reported. absurd at))
