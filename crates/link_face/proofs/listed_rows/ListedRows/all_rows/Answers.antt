use Rattle.std.proofs.Common.{rules, refl, subst, ◌≡◌, ◌++◌, [], true, List, ℕ, None, IfOk, OnOk, ◌+◌, ◌-◌, ◌*◌, ◌<◌, ◌≤◌, length, ◌/◌, ◌%◌, Bool, false, nat_eq, nat_lt, ◌∷◌, slice_index_or, slice_set, bit_and, bit_or, Fits, w8, w32, w64, Bor, MutBor}
use Rattle.link_face.specs.declared.row.ItemName.{ItemName}
use Rattle.link_face.specs.Faces.{IsHeard}
use Rattle.link_face.specs.Rows.{Holds, IsRowOf, Item}
use Rattle.link_face.specs.GatheredRows.{AddsWhole, EndsWhole, Gathers, HoldsHalf, IsComplete, IsHalfOf, JoinsRow, Keeps, NotesText, held, items_of}
use Rattle.link_face.proofs.GatheredRowsLemmas.{gathered_if}
use Rattle.link_face.proofs.listed_rows.ListedRows.all_rows.Goals as goal

-- src/listed_rows.rt:260:5
pub returns-in_ok-note_whole-clause-row : goal.returns-in_ok-note_whole-clause-row
returns-in_ok-note_whole-clause-row c = λ items r. gathered_if c.args.self.now c.note_whole.new.self c.args.number.now items c.args.uid c.in-Some.place c.whole_row.result (c.in-Some.ensures.1) (c.whole_row.ensures.row items r) c.in_ok-note_whole.ensures

-- src/listed_rows.rt:260:5
pub returns-else-has_listing-clause-row : goal.returns-else-has_listing-clause-row
returns-else-has_listing-clause-row c = λ items r. c.keep_half.ensures.kept c.args.number.now items r
