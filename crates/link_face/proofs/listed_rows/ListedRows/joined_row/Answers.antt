use Rattle.std.proofs.Common.{rules, refl, subst, ◌≡◌, ◌++◌, [], true, List, ℕ, None, IfOk, OnOk, ◌+◌, ◌-◌, ◌*◌, ◌<◌, ◌≤◌, length, ◌/◌, ◌%◌, Bool, false, nat_eq, nat_lt, ◌∷◌, slice_index_or, slice_set, bit_and, bit_or, Fits, w8, w32, w64, Bor, MutBor}
use Rattle.link_face.specs.declared.row.ItemName.{ItemName}
use Rattle.link_face.specs.Faces.{IsHeard}
use Rattle.link_face.specs.Rows.{Holds, IsRowOf, Item}
use Rattle.link_face.specs.GatheredRows.{AddsWhole, EndsWhole, Gathers, HoldsHalf, IsComplete, IsHalfOf, JoinsRow, Keeps, NotesText, held, items_of}
use Rattle.link_face.proofs.GatheredRowsLemmas.{joins_gathered, joins_whole}
use Rattle.link_face.proofs.listed_rows.ListedRows.joined_row.Goals as goal

-- src/listed_rows.rt:253:13
pub returns-then-contains-clause-row : goal.returns-then-contains-clause-row
returns-then-contains-clause-row c = λ items r. joins_whole c.args.self.now c.args.number.now items c.in-Some-uid_number.uid true (c.in-Some-uid_number.ensures items r) c.if-contains.ensures refl

-- src/listed_rows.rt:241:5
pub returns-clause-row : goal.returns-clause-row
returns-clause-row c = λ items r.
    let before = items_of c.take_half-half.result in
    let gathers = subst (λ (l : List Item). IfOk c.all_rows.result (Gathers c.take_half-half.new.self c.all_rows.new.self c.args.number.now (l ++ items) c.in-Some-uid_number.uid))
    c.take_half-half.ensures.items (c.all_rows.ensures.row (before ++ items) (c.after.ensures before items c.row.ensures r)) in
    joins_gathered c.args.self.now c.take_half-half.new.self c.all_rows.new.self c.args.number.now items c.in-Some-uid_number.uid false c.all_rows.result
    (c.in-Some-uid_number.ensures items r) c.if-contains.ensures refl c.take_half-half.ensures.halves c.take_half-half.ensures.whole c.take_half-half.ensures.standing gathers
