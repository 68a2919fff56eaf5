-- What a run leaves.
use Rattle.std.specs.Prelude.{◌≡◌, ℕ, Bool, true, List, All}
use Rattle.rules.specs.declared.options.Options.{Options}
use Rattle.rules.specs.declared.state.SyncState.{SyncState}
use Rattle.rules.specs.Admission.{admitted}
use Rattle.rules.specs.Alike.{Alike}
use Rattle.rules.specs.AlikeBy.{AlikeBy, AreCopyMarks}
use Rattle.rules.specs.World.{World, scene_of}
use Rattle.rules.specs.WorldAfter.{outcome}
use Rattle.planner.specs.Written.{all_steps}
use Rattle.book.specs.declared.book.Pending.{Pending}
use Rattle.book.specs.declared.book.Pending.TheVariants.{Missing}
use Rattle.book.specs.Books.{Holds}
use Rattle.law_outcome.specs.AlikeLaws.{own_world}
use Rattle.outside.specs.Devices.{Device, Named}
use Rattle.run_states.specs.Openings.{IsIdle, world_at}
use Rattle.run_states.specs.Plans.{NamedBy}

-- Both mailboxes and this state are alike to the outcome of the world: under rising UIDs, with copies that bear these marks, which differ,
-- and without what others added: each message that a call has named since was for a step of the world's plan to change or to remove. Where
-- nobody adds any, nothing is left out.
pub record AlikeAt (ours : List ℕ → Bool) (alone : Bool) (earlier : List Named) (w : World) (options : Options) (marks : List (List ℕ)) (d : Device) (state : SyncState) : Type 0 where
  pub are_ours : All (λ mark. ours mark ≡ true) marks
  pub alike : AlikeBy w options (own_world w marks (world_at d state))
  pub borne : alike.marks ≡ marks
  pub named : NamedBy earlier (all_steps (scene_of w options) marks) d.named
  pub nobody : alone ≡ true → own_world w marks (world_at d state) ≡ world_at d state

-- the run is done; its journal may still be there
pub record DoneAt (ours : List ℕ → Bool) (alone : Bool) (earlier : List Named) (w : World) (options : Options) (d : Device) : Type 0 where
  pub state : SyncState
  pub pending : Pending
  pub idle : IsIdle pending
  pub files : Holds d.files state pending
  pub marks : List (List ℕ)
  pub alike : AlikeAt ours alone earlier w options marks d state

-- the run is done, there is no journal, and the copies bear these marks
pub record EndedUnder (ours : List ℕ → Bool) (alone : Bool) (earlier : List Named) (w : World) (options : Options) (marks : List (List ℕ)) (d : Device) : Type 0 where
  pub state : SyncState
  pub files : Holds d.files state Missing
  pub alike : AlikeAt ours alone earlier w options marks d state

-- they bear some marks
abbrev pub EndedAt : (List ℕ → Bool) → Bool → List Named → World → Options → Device → Type 0
EndedAt ours alone earlier w options d = (marks : List (List ℕ)) × EndedUnder ours alone earlier w options marks d

-- the same in the words of the rules, where nobody adds messages: the world of the device is alike to the outcome of the opening
pub record IsDone (opening : World) (options : Options) (d : Device) : Type 0 where
  pub state : SyncState
  pub pending : Pending
  pub idle : IsIdle pending
  pub files : Holds d.files state pending
  pub alike : (marks : List (List ℕ)) → AreCopyMarks (admitted opening) options marks → Alike opening (outcome (admitted opening) options marks) (world_at d state)
