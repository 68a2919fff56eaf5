-- When a world that is found is what a run makes of another, by lists: the UIDs and the marks that the copies got.
use Rattle.std.specs.Prelude.{ℕ, ◌≡◌, ◌≢◌, List, [], length, All, AllPairs}
use Rattle.std.specs.List.Sorted.{IsPermutation}
use Rattle.mailcore.specs.declared.side.Side.{Side}
use Rattle.mailcore.specs.Mark.{IsMark}
use Rattle.mailcore.specs.Rise.{Rise}
use Rattle.mailcore.specs.Sides.{towards}
use Rattle.rules.specs.declared.state.SyncState.{SyncState}
use Rattle.rules.specs.declared.options.Options.{Options}
use Rattle.rules.specs.Outcome.{count_new}
use Rattle.rules.specs.World.{World, store, scene_of}
use Rattle.rules.specs.WorldAfter.{new_messages, messages_under, entries_under, state_after}

-- marks for the copies of a run, one for each
pub record AreCopyMarks (w : World) (options : Options) (marks : List (List ℕ)) : Type 0 where
  pub count : length marks ≡ count_new (scene_of w options)
  pub each : All IsMark marks

-- marks of a plan: they differ too
pub record AreMarks (w : World) (options : Options) (marks : List (List ℕ)) : Type 0 where
  pub count : length marks ≡ count_new (scene_of w options)
  pub each : All IsMark marks
  pub differ : AllPairs (λ a b. a ≢ b) marks

-- the state after a run whose copies got these UIDs; a state keeps its entries in order, so they may stand in another one here
pub record IsStateAfter (w : World) (options : Options) (uids : Side → List ℕ) (found : SyncState) : Type 0 where
  pub run : found.run ≡ (state_after w options).run
  pub far_validity : found.far_validity ≡ (state_after w options).far_validity
  pub near_validity : found.near_validity ≡ (state_after w options).near_validity
  pub max_pulled : found.max_pulled ≡ (state_after w options).max_pulled
  pub max_pushed : found.max_pushed ≡ (state_after w options).max_pushed
  pub entries : IsPermutation (entries_under w options uids) found.entries

-- `w` has no waiting files, and nor has what is found
pub record AlikeBy (w : World) (options : Options) (found : World) : Type 0 where
  pub uids : Side → List ℕ
  pub marks : List (List ℕ)
  pub are_marks : AreMarks w options marks
  pub each : (side : Side) → length (uids side) ≡ length (new_messages w options (towards side))
  pub rise : (side : Side) → Rise (store w side).next (uids side) (store found side).next
  pub messages : (side : Side) → (store found side).messages ≡ messages_under w options side (uids side) marks
  pub validity : (side : Side) → (store found side).validity ≡ (store w side).validity
  pub waiting : found.waiting ≡ []
  pub state : IsStateAfter w options uids found.state
