-- When it is reported that the map of keywords has changed.
use Rattle.std.specs.Prelude.{Bool, List, Option}
use Rattle.mailcore.specs.declared.keywords.Keyword.{Keyword}
use Rattle.mailcore.specs.declared.side.Side.{Side}
use Rattle.rules.specs.declared.state.SyncState.{SyncState}
use Rattle.book.specs.declared.book.Pending.{Pending}
use Rattle.book.specs.Books.{Holds}
use Rattle.outside.specs.Devices.{Device, box}
use Rattle.outside.specs.Opened.{Opened}
use Rattle.runner.specs.Maps.{HasOtherMap, HasOtherMapIn}
use Rattle.runner.specs.Validities.{BothSame, IsKept, IsSame, recorded}

-- the files hold a plan that was made by another map, and both mailboxes have the UIDVALIDITY that it names
pub record HoldsOtherMap (keywords : List Keyword) (d : Device) : Type 0 where
  pub state : SyncState
  pub pending : Pending
  pub held : Holds d.files state pending
  pub other : HasOtherMap keywords pending
  pub same : (side : Side) → IsSame (recorded state pending side) (box d side).validity

-- Only of such a plan, which was read. Where the outside behaves as specified, the files hold it, and nothing has changed.
abbrev pub ReportsOtherMap : (now : Option Opened) → (honest : Type 0) → (alone : Bool) → List Keyword → (d d' : Device) → Type 0
ReportsOtherMap now honest alone keywords d d' = HasOtherMapIn keywords now × (honest → HoldsOtherMap keywords d' × IsKept alone d d')

-- the same by what had been read before
abbrev pub ReportsMap : (honest : Type 0) → (alone : Bool) → (opened now : Option Opened) → List Keyword → (d d' : Device) → Type 0
ReportsMap honest alone opened now keywords d d' = HasOtherMapIn keywords opened × (HasOtherMapIn keywords now × (honest → BothSame opened d' × IsKept alone d d'))
