use Rattle.std.proofs.Common.{rules, refl, subst, ◌≡◌, ◌++◌, [], true, List, ℕ, None, IfOk, OnOk, ◌+◌, ◌-◌, ◌*◌, ◌<◌, ◌≤◌, length, ◌/◌, ◌%◌, Bool, false, nat_eq, nat_lt, ◌∷◌, slice_index_or, slice_set, bit_and, bit_or, Fits, w8, w32, w64, Bor, MutBor}
use Rattle.link_face.specs.declared.row.ItemName.{ItemName}
use Rattle.link_face.specs.Faces.{IsHeard}
use Rattle.link_face.specs.Rows.{Holds, IsRowOf, Item}
use Rattle.link_face.specs.GatheredRows.{AddsWhole, EndsWhole, Gathers, HoldsHalf, IsComplete, IsHalfOf, JoinsRow, Keeps, NotesText, held, items_of}
use Rattle.link_face.proofs.GatheredRowsLemmas.{kept_half}
use Rattle.link_face.proofs.listed_rows.ListedRows.keep_half.Goals as goal

-- src/listed_rows.rt:277:5
pub returns-clause-kept : goal.returns-clause-kept
returns-clause-kept c = λ _ items r. kept_half c.args.self.now _ items c.args.uid c.in_ok-half.half (c.in_ok-half.ensures items r) c.in_ok-insert.ensures.updates refl refl
