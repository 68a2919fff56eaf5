-- What a run of a trial goes by: its marks, and its opening.
use Rattle.std.specs.Prelude.{◌≡◌, ℕ, Bool, true, List, [], None}
use Rattle.mailcore.specs.Draws.{mark_at}
use Rattle.mailcore.specs.Stores.{Store}
use Rattle.rules.specs.declared.options.Options.{Options}
use Rattle.rules.specs.declared.state.SyncState.{SyncState}
pub use Rattle.worlds.specs.Trial.{trial_stream}
use Rattle.outside.specs.Devices.{Device}
use Rattle.run_states.specs.Openings.{Opening}
use Rattle.runner.specs.Attempts.{AtOpening}

abbrev pub no_messages : Store
no_messages = record { validity = 0; next = 0; messages = [] }

abbrev pub no_state : SyncState
no_state = record { run = 0; far_validity = 0; near_validity = 0; max_pulled = 0; max_pushed = 0; entries = [] }

-- an opening with nothing in it, under a map, for who says nothing of one
abbrev pub no_opening : {ours : List ℕ → Bool} {alone : Bool} → Options → Opening ours alone
no_opening options =
    record { world = record { far = no_messages; near = no_messages; waiting = []; state = no_state }; options = options; called = options; named = []; listed = None }

-- nobody else writes a mark that the generator of trials gives
abbrev pub AreOurs : (List ℕ → Bool) → Type 0
AreOurs ours = (pair : ℕ) → ours (mark_at trial_stream pair) ≡ true

-- A device stands at this opening of a run: it has no plan yet, or one is pending. The options of the call are these.
pub record StandsAt {ours : List ℕ → Bool} {alone : Bool} (opening : Opening ours alone) (options : Options) (d : Device) : Type 0 where
  pub called : opening.called ≡ options
  pub at_opening : AtOpening opening d
