use Rattle.std.proofs.Common.{refl, sym, ◌∙◌}
use Rattle.link_face.proofs.RowLemmas.{row_begins, row_ends, row_goes_on}
use Rattle.link_face.proofs.row.FetchRow.read.Goals as goal

pub loop-init : goal.loop-init
loop-init c = row_begins c.args.bytes.now _ c.in_ok-items.items c.in_ok-items.ensures.cases (record { uid = refl; flags = refl; size = refl; body = refl; head = refl })

pub loop-preserved : goal.loop-preserved
loop-preserved c =
    row_goes_on c.args.bytes.now c.loop.row c.take.new.self c.loop.rest.now c.after_space.result.now c.in_ok-name.name.now c.in_ok-name.after.now c.in_ok-value.value.now c.in_ok-value.following.now c.loop.invariant
    (sym c.starts_with.ensures.value ∙ c.if-starts_with.false) c.after_space.ensures c.in_ok-name.ensures.parts c.in_ok-name.ensures.name c.in_ok-value.ensures c.take.ensures

pub returns-then-starts_with : goal.returns-then-starts_with
returns-then-starts_with c = row_ends c.args.bytes.now c.loop.row c.loop.rest.now c.loop.invariant (sym c.starts_with.ensures.value ∙ c.if-starts_with.true)
