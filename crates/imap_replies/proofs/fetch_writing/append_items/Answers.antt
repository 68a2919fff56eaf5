use Rattle.std.proofs.Common.{[], ◌∷◌, refl, arith}
use Rattle.std.proofs.lemmas.Result.{err_from_is_err_and}
use Rattle.wire_tokens.specs.Writing.{Extended}
use Rattle.imap_replies.specs.Forms.{AsWritten}
use Rattle.imap_replies.specs.Fetches.{ItemIn}
use Rattle.wire_tokens.proofs.WritingLemmas.{extended_twice}
use Rattle.wire_tokens.proofs.SetWriting.{written_extends, written_first, written_next}
use Rattle.wire_tokens.proofs.AppendLemmas.{extended_kept, kept_extends}
use Rattle.imap_replies.proofs.fetch_writing.append_items.Goals as goal
use Rattle.imap_replies.proofs.fetch_writing.append_items.Goals.{then-i-gt0+in_ok-extend_from_slice, else-i-gt0}

pub returns-in_err-extend_from_slice-clause-kept : goal.returns-in_err-extend_from_slice-clause-kept
returns-in_err-extend_from_slice-clause-kept c =
    let p = err_from_is_err_and c.from_residual.result c.from_residual.ensures.1 in
    let kept = written_extends 32 (ItemIn AsWritten) _ c.args.out.now.items c.loop-i.out.items c.loop-i.invariant in
    rw (p.1, c.in_err-extend_from_slice.ensures.items) (extended_kept _ _ kept)

pub returns-in_err-append_item-clause-kept : goal.returns-in_err-append_item-clause-kept
returns-in_err-append_item-clause-kept c =
    let p = err_from_is_err_and c.from_residual-in_err-append_item.result c.from_residual-in_err-append_item.ensures.1 in
    let kept = written_extends 32 (ItemIn AsWritten) _ c.args.out.now.items c.loop-i.out.items c.loop-i.invariant in
    let before : Extended c.args.out.now.items c.if-i-gt0.out.items =
    elim c.if-i-gt0.branch [
      | then-i-gt0+in_ok-extend_from_slice w ↦ rw (w.out-is, w.in_ok-extend_from_slice.ensures.items) (extended_twice _ _ _ kept (record { text = 32 ∷ []; parts = refl; spelled = tt }))
      | else-i-gt0 w ↦ rw w.out-is kept
    ] in
    rw p.1 (extended_kept _ _ (extended_twice _ _ _ before (kept_extends _ _ c.in_err-append_item.ensures.kept)))

pub loop-i-preserved : goal.loop-i-preserved
loop-i-preserved c =
    elim c.if-i-gt0.branch [
      | then-i-gt0+in_ok-extend_from_slice w ↦
          let k = w.in_ok-extend_from_slice.ensures.items in
          let h = rw (w.out-is, k) at c.in_ok-append_item.ensures.ok in
          written_next 32 (ItemIn AsWritten) _ c.loop-i.i _ _ _ _ w.if-i-gt0.true c.loop-i-test.true c.index-items-i.is c.loop-i.invariant h
      | else-i-gt0 w ↦
          let h = rw w.out-is at c.in_ok-append_item.ensures.ok in
          written_first 32 (ItemIn AsWritten) _ c.loop-i.i _ _ _ _ (omega (arith, w.if-i-gt0.false)) c.loop-i-test.true c.index-items-i.is c.loop-i.invariant h
    ]
