use Rattle.std.proofs.Common.{rules, refl, subst, ◌≡◌, ◌++◌, [], true, List, ℕ, None, IfOk, OnOk, ◌+◌, ◌-◌, ◌*◌, ◌<◌, ◌≤◌, length, ◌/◌, ◌%◌, Bool, false, nat_eq, nat_lt, ◌∷◌, slice_index_or, slice_set, bit_and, bit_or, Fits, w8, w32, w64, Bor, MutBor}
use Rattle.link_face.specs.declared.row.ItemName.{ItemName}
use Rattle.link_face.specs.Faces.{IsHeard}
use Rattle.link_face.specs.Rows.{Holds, IsRowOf, Item}
use Rattle.link_face.specs.GatheredRows.{AddsWhole, EndsWhole, Gathers, HoldsHalf, IsComplete, IsHalfOf, JoinsRow, Keeps, NotesText, held, items_of}
use Rattle.link_face.proofs.GatheredRowsLemmas.{half_new}
use Rattle.link_face.proofs.listed_rows.Half.new.Goals as goal

-- src/listed_rows.rt:48:5
pub returns : goal.returns
returns c = half_new c.args.row.now c.in_ok-copied.field-0 c.in_ok-copied-2.field-0 c.in_ok-copied.ensures c.in_ok-copied-2.ensures
