-- Runs after which the state says no more of the near mailbox than before.
use Rattle.std.specs.Prelude.{◌≡◌, ◌==◌, ◌||◌, ℕ, Bool, true, [], Option, None, Some}
use Rattle.std.specs.List.{list_any}
use Rattle.mailcore.specs.declared.side.Side.TheVariants.{Near}
use Rattle.rules.specs.declared.entry.Entry.{Entry}
use Rattle.rules.specs.declared.plan.Plan.{Plan}
use Rattle.rules.specs.declared.state.SyncState.{SyncState}
use Rattle.rules.specs.Entries.{uid_of}
use Rattle.book.specs.declared.book.Pending.{Pending}
use Rattle.book.specs.declared.book.Pending.TheVariants.{Missing, Useless, Planned}
use Rattle.run_pair.specs.Kept.{Kept}

abbrev pub has_near : ℕ → Entry → Bool
has_near uid e = uid_of Near e == uid

-- the state names this near UID, as MaxPushedUid or in an entry
abbrev pub is_named : ℕ → SyncState → Bool
is_named uid state = (uid == state.max_pushed) || list_any (has_near uid) state.entries

-- the plan does nothing, to a mailbox or to an entry, and its numbers of the near mailbox stand in the state already
pub record NamesNothing (state : SyncState) (plan : Plan) : Type 0 where
  pub steps : plan.steps ≡ []
  pub notes : plan.notes ≡ []
  pub validity : plan.near.validity ≡ state.near_validity
  pub highest : is_named plan.near.highest state ≡ true

-- this plan is such a one, after what was read
abbrev pub PlanNamesNothing : Option Kept → Plan → Type 0
PlanNamesNothing None plan = ⊥
PlanNamesNothing (Some k) plan = NamesNothing k.state plan

abbrev pub JournalNamesNothing : SyncState → Pending → Type 0
JournalNamesNothing state Missing = ⊥
JournalNamesNothing state Useless = ⊥
JournalNamesNothing state (Planned written) = NamesNothing state written.journal.plan

-- the plan that is pending is such a one
abbrev pub PendingNamesNothing : Option Kept → Type 0
PendingNamesNothing None = ⊥
PendingNamesNothing (Some k) = JournalNamesNothing k.state k.pending
