-- An opening of a run.
use Rattle.std.specs.Prelude.{ℕ, Bool, List, [], None}
use Rattle.rules.specs.declared.options.Options.{Options}
use Rattle.rules.specs.declared.state.SyncState.{SyncState}
use Rattle.outside.specs.Devices.{Device}
use Rattle.run_states.specs.Openings.{Opening, world_at}

abbrev pub no_state : SyncState
no_state = record { run = 0; far_validity = 0; near_validity = 0; max_pulled = 0; max_pushed = 0; entries = [] }

-- a first run on this device
abbrev pub first_on : (ours : List ℕ → Bool) (alone : Bool) → Device → Options → Opening ours alone
first_on ours alone d options = record { world = world_at d no_state; options = options; called = options; named = d.named; listed = None }
