use Rattle.std.proofs.Common.{◌∙◌, arith}
use Rattle.std.proofs.lemmas.List.{length-drop}
use Rattle.wire_reader.proofs.Scanned.{moved, following, goes_on}
use Rattle.wire_reader.proofs.scanner.Scanner.advance.Goals as goal

pub returns-then-is_place-clause-moves : goal.returns-then-is_place-clause-moves
returns-then-is_place-clause-moves c =
    let found = c.advance_some-count.result in
    let part = following c.args.bytes.now c.loop-done.done c.loop-done.self found c.advance_some-count.new.self c.advance_some-count.ensures in
    moved c.args.self.now c.loop-done.self c.advance_some-count.new.self c.args.bytes.now c.loop-done.done found.0 c.loop-done.invariant.moves part.moves

pub loop-done-preserved : goal.loop-done-preserved
loop-done-preserved c =
    let found = c.advance_some-count.result in
    let part = following c.args.bytes.now c.loop-done.done c.loop-done.self found c.advance_some-count.new.self c.advance_some-count.ensures in
    record {
      within = (let w = part.within in omega (arith, c.loop-done.invariant.within, w, length-drop c.loop-done.done c.args.bytes.now));
      moves = moved c.args.self.now c.loop-done.self c.advance_some-count.new.self c.args.bytes.now c.loop-done.done found.0 c.loop-done.invariant.moves part.moves;
      place = goes_on c.args.bytes.now c.loop-done.done c.loop-done.self found c.advance_some-count.new.self part c.if-is_place.false ∙ c.loop-done.invariant.place;
    }
