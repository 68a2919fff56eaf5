-- What a world that is found is not alike to: an outcome that has other files without UIDs or another UIDVALIDITY, and one of whose mailboxes
-- would give a UID a second time.
use Rattle.std.specs.Prelude.{◌≡◌, ◌≤◌}
use Rattle.mailcore.specs.declared.side.Side.{Side}
use Rattle.rules.specs.World.{World, store}
use Rattle.rules.specs.Alike.{Alike}

-- no file that waits is lost, none comes, and each stands as it did
abbrev pub FilesStay : Type 0
FilesStay = (opening outcome found : World) → Alike opening outcome found → found.waiting ≡ outcome.waiting

-- the UIDVALIDITY of each mailbox
abbrev pub ValiditiesStay : Type 0
ValiditiesStay = (opening outcome found : World) → Alike opening outcome found → (side : Side) → (store found side).validity ≡ (store outcome side).validity

-- and those that the state records
abbrev pub RecordedValiditiesStay : Type 0
RecordedValiditiesStay = (opening outcome found : World) → Alike opening outcome found →
    (found.state.far_validity ≡ outcome.state.far_validity) × (found.state.near_validity ≡ outcome.state.near_validity)

-- no UID is given a second time
abbrev pub NextUidsStay : Type 0
NextUidsStay = (opening outcome found : World) → Alike opening outcome found → (side : Side) → (store opening side).next ≤ (store found side).next
