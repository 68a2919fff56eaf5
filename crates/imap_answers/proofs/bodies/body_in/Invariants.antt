use Rattle.std.proofs.Common.{◌≡◌, take, None, Some}
use Rattle.std.specs.List.{fold}
use Rattle.std.specs.Option.{option_map}
use Rattle.imap_answers.specs.Bodies.{body_more}
use Rattle.imap_answers.proofs.bodies.body_in.Given as goal

abbrev pub invariant-loop-item : goal.invariant-loop-item
invariant-loop-item l = Some (option_map (λ b. b.now) l.body) ≡ fold body_more (Some None) (take l.item-index l.items)
