use Rattle.std.proofs.Common.{[], ◌∷◌, refl, arith}
use Rattle.std.proofs.lemmas.Result.{err_from_is_err_and}
use Rattle.wire_tokens.specs.Writing.{Extended}
use Rattle.wire_tokens.specs.Sets.{ItemText}
use Rattle.wire_tokens.proofs.WritingLemmas.{extended_twice}
use Rattle.wire_tokens.proofs.SetWriting.{written_extends, written_first, written_next}
use Rattle.wire_tokens.proofs.uid_set.write_items.Goals as goal
use Rattle.wire_tokens.proofs.uid_set.write_items.Goals.{then-i-gt0+in_ok-extend_from_slice, else-i-gt0}

pub returns-in_err-extend_from_slice-clause-err : goal.returns-in_err-extend_from_slice-clause-err
returns-in_err-extend_from_slice-clause-err c =
    let p = err_from_is_err_and c.from_residual.result c.from_residual.ensures.1 in
    let kept = written_extends 44 ItemText _ c.args.out.now.items c.loop-i.out.items c.loop-i.invariant in
    rw (p.1, c.in_err-extend_from_slice.ensures.items) kept

pub returns-in_err-write-clause-err : goal.returns-in_err-write-clause-err
returns-in_err-write-clause-err c =
    let p = err_from_is_err_and c.from_residual-in_err-write.result c.from_residual-in_err-write.ensures.1 in
    let kept = written_extends 44 ItemText _ c.args.out.now.items c.loop-i.out.items c.loop-i.invariant in
    let before : Extended c.args.out.now.items c.if-i-gt0.out.items =
    elim c.if-i-gt0.branch [
      | then-i-gt0+in_ok-extend_from_slice w ↦ rw (w.out-is, w.in_ok-extend_from_slice.ensures.items) (extended_twice _ _ _ kept (record { text = 44 ∷ []; parts = refl; spelled = tt }))
      | else-i-gt0 w ↦ rw w.out-is kept
    ] in
    rw p.1 (extended_twice _ _ _ before c.in_err-write.ensures.err)

pub loop-i-preserved : goal.loop-i-preserved
loop-i-preserved c =
    elim c.if-i-gt0.branch [
      | then-i-gt0+in_ok-extend_from_slice w ↦
          let k = w.in_ok-extend_from_slice.ensures.items in
          let h = rw (w.out-is, k) at c.in_ok-write.ensures.ok in
          written_next 44 ItemText _ c.loop-i.i _ _ _ _ w.if-i-gt0.true c.loop-i-test.true c.index-items-i.is c.loop-i.invariant h
      | else-i-gt0 w ↦
          let h = rw w.out-is at c.in_ok-write.ensures.ok in
          written_first 44 ItemText _ c.loop-i.i _ _ _ _ (omega (arith, w.if-i-gt0.false)) c.loop-i-test.true c.index-items-i.is c.loop-i.invariant h
    ]
