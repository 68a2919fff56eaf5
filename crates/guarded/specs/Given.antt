-- Which UIDs a far mailbox is known to have given.
use Rattle.std.specs.Prelude.{ℕ, ◌&&◌, ◌==◌, nat_le, List, fold, map, max, Option, None, Some, if◌then◌else◌}
use Rattle.std.specs.List.{zip}
use Rattle.mailcore.specs.declared.side.Direction.TheVariants.{Pull, Push}
use Rattle.mailcore.specs.declared.side.Side.TheVariants.{Far}
use Rattle.rules.specs.declared.plan.Step.{Step}
use Rattle.rules.specs.declared.plan.Step.TheVariants.{New}
use Rattle.rules.specs.declared.state.SyncState.{SyncState}
use Rattle.rules.specs.Entries.{uid_of}
use Rattle.sync_state.specs.declared.journal.Journal.{Journal}
use Rattle.sync_state.specs.declared.journal.Logged.{Logged}
use Rattle.sync_state.specs.declared.journal.Logged.TheVariants.{Copied}
use Rattle.guarded.specs.declared.given.FarGiven.{FarGiven}

-- the greatest of a number and others
abbrev pub greatest : ℕ → List ℕ → ℕ
greatest number others = fold max number others

-- MaxPulledUid and the far UIDs of the entries
abbrev pub greatest_far : SyncState → ℕ
greatest_far state = greatest state.max_pulled (map (uid_of Far) state.entries)

-- the far UID of a message that was copied, or of its copy
abbrev pub copied_far : Step → Logged → ℕ
copied_far (New Pull uid flags mark) (Copied copy) = uid
copied_far (New Push uid flags mark) (Copied copy) = copy
copied_far step logged = 0

abbrev pub greatest_copied : Journal → ℕ
greatest_copied journal = greatest 0 (map (λ one. copied_far one.0 one.1) (zip journal.plan.steps journal.log))

-- what a state knows, and the plan that is pending after it
abbrev pub given_by : SyncState → Option Journal → FarGiven
given_by state None = record { validity = state.far_validity; greatest = greatest_far state }
given_by state (Some journal) = record { validity = journal.plan.far.validity; greatest = max (greatest_far state) (greatest_copied journal) }

-- the greatest UID that is known, where a mailbox of this UIDVALIDITY and UIDNEXT is to give it again
abbrev pub is_again : FarGiven → ℕ → ℕ → Option ℕ
is_again given validity next = if validity == given.validity && nat_le next given.greatest then Some given.greatest else None
