use Rattle.std.proofs.Common.{sym, ◌∙◌, arith}
use Rattle.std.proofs.lemmas.Bool.{ltb-true, ltb-false}
use Rattle.wire_reader.specs.declared.lexical.Phase.TheVariants.{Plain}
use Rattle.wire_reader.proofs.Limits.{room_for_all}
use Rattle.wire_reader.proofs.LimitScan.{passing, none_passing}
use Rattle.wire_reader.proofs.limit.limit_end.Goals as goal

pub returns-then-bytes : goal.returns-then-bytes
returns-then-bytes c = sym (room_for_all c.args.bytes.now Plain 65536 0 c.if-bytes.true)

pub overflow_add-done : goal.overflow_add-done
overflow_add-done c =
    let i = c.loop-count.invariant in
    let p = passing c.args.bytes.now c.loop-count.done c.in-Some.count c.loop-count.scanner c.advance.new.self i.within i.fits c.in-Some.ensures.place c.in-Some.ensures.moves in
    let within = p.within in
    omega (arith, within)

pub returns-then-is_over : goal.returns-then-is_over
returns-then-is_over c =
    let i = c.loop-count.invariant in
    let p = passing c.args.bytes.now c.loop-count.done c.in-Some.count c.loop-count.scanner c.advance.new.self i.within i.fits c.in-Some.ensures.place c.in-Some.ensures.moves in
    sym (p.over (ltb-true 65536 _ (sym c.is_over.ensures ∙ c.if-is_over.true))) ∙ i.same

pub loop-count-smaller : goal.loop-count-smaller
loop-count-smaller c =
    let i = c.loop-count.invariant in
    let p = passing c.args.bytes.now c.loop-count.done c.in-Some.count c.loop-count.scanner c.advance.new.self i.within i.fits c.in-Some.ensures.place c.in-Some.ensures.moves in
    let some = p.some in
    let within = p.within in
    omega (arith, some, within)

pub loop-count-preserved : goal.loop-count-preserved
loop-count-preserved c =
    let i = c.loop-count.invariant in
    let p = passing c.args.bytes.now c.loop-count.done c.in-Some.count c.loop-count.scanner c.advance.new.self i.within i.fits c.in-Some.ensures.place c.in-Some.ensures.moves in
    let fits = ltb-false 65536 c.advance.new.self.outside (sym c.is_over.ensures ∙ c.if-is_over.false) in
    record { within = p.within; fits = fits; same = sym (p.under fits) ∙ i.same }

pub returns : goal.returns
returns c = sym (none_passing c.args.bytes.now c.loop-count.done c.loop-count.scanner c.loop-count.invariant.fits c.in_default.ensures.place) ∙ c.loop-count.invariant.same
