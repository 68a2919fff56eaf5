-- Worked examples of steps, computed.
use Rattle.std.specs.Prelude.{◌≡◌, refl, ℕ, Bool, true, List, [], ◌∷◌, ◌++◌, codes, Option, Some, None, length}
use Rattle.mailcore.specs.declared.side.Side.TheVariants.{Far, Near}
use Rattle.mailcore.specs.declared.mailbox.Message.{Message}
use Rattle.mailcore.specs.FlagSet.{each_flag, union, minus}
use Rattle.mailcore.specs.Content.{LF, CR, content, without_marks, copy_text}
use Rattle.rules.specs.declared.options.Options.{Options}
use Rattle.rules.specs.declared.options.Directions.{Directions}
use Rattle.rules.specs.FlagRule.{taken, recorded_after, with_deleted}
use Rattle.rules.specs.World.{World, scene_of}
use Rattle.planner.specs.Written.{all_steps}
use Rattle.law_outcome.specs.Steps.{Boxes, boxes_of, after, Fit, given}
use Rattle.rules.specs.WorldAfter.{messages_under}

computed : World → World
unfolding each_flag union minus taken recorded_after with_deleted content without_marks copy_text
computed w = w

abbrev both : Directions
both = record { pull = true; push = true }

abbrev full : (far near : Bool) → Options
full far near = record { cells = record { new = both; gone = both; flags = both }; expunge = record { far = far; near = near }; keywords = [] }

abbrev message : (uid flags : ℕ) → Message
message uid flags = record { uid = uid; flags = flags; bytes = codes "a" ++ LF ∷ [] }

-- a new far message 6 (seen), a new near one 9, a pair 1 2 with a flag set on each side, a near message 3 whose counterpart has gone, a far one 5 deleted
abbrev mixed : World
mixed = record {
  far = record { validity = 1; next = 7; messages = message 1 2 ∷ message 5 32 ∷ message 6 16 ∷ [] };
  near = record { validity = 1; next = 10; messages = message 2 16 ∷ message 3 0 ∷ message 9 0 ∷ [] };
  waiting = [];
  state = record { run = 3; far_validity = 1; near_validity = 1; max_pulled = 5; max_pushed = 3; entries = record { far = Some 1; near = Some 2; flags = 0 } ∷ record { far = Some 4; near = Some 3; flags = 0 } ∷ [] };
}

abbrev marks : List (List ℕ)
marks = codes "AQAAAAAAAAAC" ∷ codes "AwAAAAAAAAAE" ∷ []

-- the copies got 12 and 8, where 10 and 7 were next
abbrev results : List (Option ℕ)
results = Some 12 ∷ Some 8 ∷ None ∷ None ∷ None ∷ None ∷ None ∷ []

seven_steps : length (all_steps (scene_of mixed (full true true)) marks) ≡ 7
unfolding computed
seven_steps = refl

they_fit : Fit (all_steps (scene_of mixed (full true true)) marks) results
unfolding computed
they_fit = (refl, (refl, (refl, (refl, (refl, (refl, (refl, tt)))))))

far_uids : given Far (all_steps (scene_of mixed (full true true)) marks) results ≡ 8 ∷ []
unfolding computed
far_uids = refl

near_uids : given Near (all_steps (scene_of mixed (full true true)) marks) results ≡ 12 ∷ []
unfolding computed
near_uids = refl

abbrev found : Boxes
found = after (all_steps (scene_of mixed (full true true)) marks) results (boxes_of mixed)

the_far_ones : found.far ≡ message 1 18 ∷ message 6 16 ∷ record { uid = 8; flags = 0; bytes = codes "X-TUID: AwAAAAAAAAAE" ++ CR ∷ LF ∷ codes "a" ++ CR ∷ LF ∷ [] } ∷ []
unfolding computed
the_far_ones = refl

the_near_ones : found.near ≡ message 2 18 ∷ message 9 0 ∷ record { uid = 12; flags = 16; bytes = codes "X-TUID: AQAAAAAAAAAC" ++ LF ∷ codes "a" ++ LF ∷ [] } ∷ []
unfolding computed
the_near_ones = refl

they_are_named_far : found.far ≡ messages_under mixed (full true true) Far (8 ∷ []) marks
unfolding computed
they_are_named_far = refl

they_are_named_near : found.near ≡ messages_under mixed (full true true) Near (12 ∷ []) marks
unfolding computed
they_are_named_near = refl
