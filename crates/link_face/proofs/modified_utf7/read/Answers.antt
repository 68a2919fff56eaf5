use Rattle.std.proofs.Common.{◌<◌, suc, drop, length, sym, ap, ◌∙◌, arith, rules}
use Rattle.std.proofs.Math.Seq.{drop-cons}
use Rattle.link_face.specs.Reading.{name_with}
use Rattle.link_face.proofs.modified_utf7.read.Goals as goal

pub returns-then-not-branch : goal.returns-then-not-branch
returns-then-not-branch c =
    let near = c.args.near.now in
    let i = c.loop-b.b-index in
    let lt : i < length near = omega (arith, c.loop-b-test.true) in
    let refused = c.in_ok-take.ensures.refused (search rules) (drop (suc i) near) in
    sym c.loop-b.invariant ∙ (ap (name_with c.loop-b.reader) (drop-cons near i 0 lt) ∙ refused)
