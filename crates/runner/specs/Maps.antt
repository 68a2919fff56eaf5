-- The map of keywords that a plan was made by.
use Rattle.std.specs.Prelude.{◌≡◌, ◌≢◌, ℕ, Bool, List, Option, None, Some}
use Rattle.mailcore.specs.declared.keywords.Keyword.{Keyword}
use Rattle.book.specs.declared.book.Pending.{Pending}
use Rattle.book.specs.declared.book.Pending.TheVariants.{Missing, Useless, Planned}
use Rattle.outside.specs.Opened.{Opened}
use Rattle.run_states.specs.Openings.{Opening}

-- ---- whether a plan has it

-- the plan that is pending was made by this map, if one is
abbrev pub HasMap : List Keyword → Pending → Type 0
HasMap keywords Missing = Unit {0}
HasMap keywords Useless = Unit {0}
HasMap keywords (Planned written) = written.journal.plan.keywords ≡ keywords

-- one is, and was made by another
abbrev pub HasOtherMap : List Keyword → Pending → Type 0
HasOtherMap keywords Missing = ⊥
HasOtherMap keywords Useless = ⊥
HasOtherMap keywords (Planned written) = written.journal.plan.keywords ≢ keywords

abbrev pub HasMapIn : List Keyword → Option Opened → Type 0
HasMapIn keywords None = ⊥
HasMapIn keywords (Some o) = HasMap keywords o.pending

abbrev pub HasOtherMapIn : List Keyword → Option Opened → Type 0
HasOtherMapIn keywords None = ⊥
HasOtherMapIn keywords (Some o) = HasOtherMap keywords o.pending

-- the same opening, with a plan by this map
abbrev pub by_map : {ours : List ℕ → Bool} {alone : Bool} → List Keyword → Opening ours alone → Opening ours alone
by_map keywords opening = record opening { options = record opening.options { keywords = keywords } }
