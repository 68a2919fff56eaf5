-- What is printed of devices is the one world that they hold.
use Rattle.std.proofs.Common.{◌≡◌, ◌++◌, ap, ◌∙◌}
use Rattle.std.proofs.Math.Logic.{∥∥₁_elim}
use Rattle.std.proofs.Props.{props}
use Rattle.rules.specs.declared.state.SyncState.{SyncState}
use Rattle.worlds.specs.WorldText.{text_from_far}
use Rattle.book.proofs.KnownBooks.{state_of_file}
use Rattle.run_states.specs.Openings.{world_at}
use Rattle.run_trial.specs.Laws.{PrintedIsHeld}

state-set : IsSet SyncState
state-set = hlevel props

pub printed_is_held : PrintedIsHeld
printed_is_held d old new state pending printed holds =
    let one : IsProp (printed.state ≡ state) = hlevel (state-set, props) in
    let same : printed.state ≡ state = ∥∥₁_elim holds one (λ held. state_of_file d.files.state printed.state state printed.held held.state_file) in
    printed.text ∙ ap (λ (s : SyncState). old ++ text_from_far (world_at d s)) same
