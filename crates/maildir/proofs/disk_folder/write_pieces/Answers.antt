use Rattle.std.proofs.Common.{◌≡◌, ◌∙◌, ◌++◌, [], ap, refl, subst}
use Rattle.mailcore.specs.declared.copy_pieces.CopyPieces.{CopyPieces}
use Rattle.mailcore.specs.CopyPieces.{join, text_left}
use Rattle.maildir.specs.DiskFolders.{FolderParts, KeptWord, standing}
use Rattle.maildir.proofs.DiskCopying.{copy_goes_on, copy_grew, copy_is_all, copy_tore, on_err}
use Rattle.maildir.proofs.disk_folder.write_pieces.Goals as goal

pub loop-piece-init : goal.loop-piece-init
loop-piece-init g c = record {
  can_next = tt;
  is_finite = tt;
  disk = refl;
  was_honest = λ k. k;
  grew = ([], (ap (λ (p : CopyPieces). text_left p) c.into_iter-piece-iterator.ensures.into_iter_gives, λ s e. e));
}

pub loop-piece-preserved : goal.loop-piece-preserved
loop-piece-preserved g c =
    let i = c.loop-piece.invariant.grew in
    let piece = c.in-Some.piece.now in
    let left = text_left c.next.new.self in
    let here : text_left c.loop-piece.piece-iterator ≡ piece ++ left = ap join c.in-Some.ensures.steps in
    record {
      can_next = tt;
      is_finite = tt;
      disk = ap (λ (f : FolderParts). f.disk) c.in_ok-grow_copy.ensures ∙ c.loop-piece.invariant.disk;
      was_honest = λ k. c.loop-piece.invariant.was_honest (subst KeptWord c.in_ok-grow_copy.ensures k).0;
      grew = (
        i.0 ++ piece,
        (
          copy_goes_on i.0 piece left (text_left c.loop-piece.piece-iterator) (text_left c.args.copy) here i.1.0,
          λ s e. copy_grew i.0 piece s (standing c.loop-piece.disk) (standing c.grow_copy.new.self) (i.1.1 s e) (ap standing c.in_ok-grow_copy.ensures),
        ),
      );
    }

pub returns-in_err-grow_copy-clause-err : goal.returns-in_err-grow_copy-clause-err
returns-in_err-grow_copy-clause-err g c =
    let i = c.loop-piece.invariant.grew in
    let piece = c.in-Some.piece.now in
    let left = text_left c.next.new.self in
    let here : text_left c.loop-piece.piece-iterator ≡ piece ++ left = ap join c.in-Some.ensures.steps in
    on_err c.from_residual.result (λ s e. copy_tore _ i.0 piece left (text_left c.args.copy) s (standing c.loop-piece.disk) (standing c.grow_copy.new.self)
    (copy_goes_on i.0 piece left (text_left c.loop-piece.piece-iterator) (text_left c.args.copy) here i.1.0) (i.1.1 s e) (ap standing c.in_err-grow_copy.ensures))

pub returns-clause-ok : goal.returns-clause-ok
returns-clause-ok g c =
    let i = c.loop-piece.invariant.grew in
    λ s e. copy_is_all i.0 (text_left c.loop-piece.piece-iterator) (text_left c.args.copy) s (standing c.loop-piece.disk) (ap join c.in-None.ensures.steps.0) i.1.0 (i.1.1 s e)
