-- Which plans can be written down: their numbers are in the ranges of UIDs, UIDVALIDITYs and sets of flags, and their steps and notes in order.
use Rattle.std.specs.Prelude.{ℕ, ◌+◌, ◌<◌, ◌^◌, ◌≡◌, Bool, true, ◌&&◌, ◌||◌, ◌==◌, nat_lt, List, [], ◌∷◌, All, map, Option, Some, None, unwrap_or}
use Rattle.mailcore.specs.declared.listing.Listing.{Listing}
use Rattle.mailcore.specs.FlagSet.{FLAGS}
use Rattle.mailcore.specs.KeywordNames.{IsMap}
use Rattle.mailcore.specs.Mark.{IsMark}
use Rattle.rules.specs.declared.state.SyncState.{SyncState}
use Rattle.rules.specs.declared.plan.Step.{Step}
use Rattle.rules.specs.declared.plan.Step.TheVariants as step
use Rattle.rules.specs.declared.plan.Note.{Note}
use Rattle.rules.specs.declared.plan.Note.TheVariants as note
use Rattle.rules.specs.declared.plan.PlanSide.{PlanSide}
use Rattle.rules.specs.declared.plan.Plan.{Plan}
use Rattle.rules.specs.Propagation.{New, Gone, Flags, Expunge, Record, Drop}
use Rattle.rules.specs.Order.{place}

-- a UID: 1 to 4294967294
pub record IsUid (uid : ℕ) : Type 0 where
  pub positive : 0 < uid
  pub below_last : uid + 1 < 2 ^ 32

-- a UIDVALIDITY or a UIDNEXT: 1 to 4294967295
pub record IsPositive (n : ℕ) : Type 0 where
  pub positive : 0 < n
  pub fits : n < 2 ^ 32

-- MaxPulledUid or MaxPushedUid
abbrev pub IsHighest : ℕ → Type 0
IsHighest n = n + 1 < 2 ^ 32

-- the UID of a side of an entry, if that side has not vanished
abbrev pub IsUidOrNone : Option ℕ → Type 0
IsUidOrNone None = Unit {0}
IsUidOrNone (Some uid) = IsUid uid

pub record IsPlanSide (side : PlanSide) : Type 0 where
  pub validity : IsPositive side.validity
  pub highest : IsHighest side.highest
  pub next : IsPositive side.next

abbrev pub IsStep : Step → Type 0
IsStep (step.New direction uid flags mark) = IsUid uid × (flags < 2 ^ FLAGS) × IsMark mark
IsStep (step.Gone direction far near) = IsUid far × IsUid near
IsStep (step.Flags direction far near set cleared) = IsUid far × IsUid near × (set < 2 ^ FLAGS) × (cleared < 2 ^ FLAGS)
IsStep (step.Expunge side uid) = IsUid uid

abbrev pub IsNote : Note → Type 0
IsNote (note.Record far near flags) = IsUid far × IsUid near × (flags < 2 ^ FLAGS)
IsNote (note.Drop far near) = IsUidOrNone far × IsUidOrNone near

-- the place of a step or a note in the order of a plan
abbrev pub step_place : Step → ℕ × ℕ × ℕ
step_place (step.New direction uid flags mark) = place (New direction uid)
step_place (step.Gone direction far near) = place (Gone direction far near)
step_place (step.Flags direction far near set cleared) = place (Flags direction far near set cleared)
step_place (step.Expunge side uid) = place (Expunge side uid)

abbrev pub note_place : Note → ℕ × ℕ × ℕ
note_place (note.Record far near flags) = place (Record far near flags)
note_place (note.Drop far near) = place (Drop (unwrap_or far 0) (unwrap_or near 0))

-- as IsBelow
abbrev pub is_below : (a b : ℕ × ℕ × ℕ) → Bool
is_below a b = nat_lt a.0 b.0 || (a.0 == b.0 && (nat_lt a.1 b.1 || (a.1 == b.1 && nat_lt a.2 b.2)))

-- each place is below the next one, from this one on
abbrev pub rises : ℕ × ℕ × ℕ → List (ℕ × ℕ × ℕ) → Bool
rises last [] = true
rises last (p ∷ ps) = is_below last p && rises p ps

-- no step has this place, and each has one above it
abbrev pub bottom : ℕ × ℕ × ℕ
bottom = (0, 0, 0)

pub record IsPlan (p : Plan) : Type 0 where
  pub run : p.run < 2 ^ 64
  pub far : IsPlanSide p.far
  pub near : IsPlanSide p.near
  pub steps : All IsStep p.steps
  pub notes : All IsNote p.notes
  pub steps_rise : rises bottom (map step_place p.steps) ≡ true
  pub notes_rise : rises bottom (map note_place p.notes) ≡ true
  pub keywords : IsMap p.keywords

-- what mailboxes list, and what a state has: UIDVALIDITYs and UIDNEXTs from 1 on, and highest UIDs that are UIDs, or 0
pub record AreInRange (far near : Listing) (state : SyncState) : Type 0 where
  pub far_validity : 0 < far.validity
  pub far_next : 0 < far.next
  pub near_validity : 0 < near.validity
  pub near_next : 0 < near.next
  pub max_pulled : IsHighest state.max_pulled
  pub max_pushed : IsHighest state.max_pushed
