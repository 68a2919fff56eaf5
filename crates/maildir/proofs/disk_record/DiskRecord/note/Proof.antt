-- `note` has an empty body: the borrow is opened, and closed at a record with one call more. Assumes `Logic`.
use Rattle.std.proofs.Common.{List, [], ◌∷◌, refl}
use Rattle.std.proofs.raw_atomic.Walks.{proved}
use base.Fml.{ftrue, flft}
use base.Logic.{id⊢}
use mir.Val.{Val, vunit, vptr}
use types.Kit.{‵, raw, ◌⊛◌, ◌$◌, ◌∵◌, !, qed, move, keep, drop, use1, split, join, fsplit, fsplit3, fjoin, fjoin3, feq_i, suffices, frame, done}
use types.Run.{enter, returns, unit_lit, of_opd}
use types.ByLocal.{alloc_all, pass_all, free_all, look_at, sets}
use denote.Builtin.{u8}
use denote.Exit.{yes}
use denote.RattleType.{owns}
use denote.Ref.{mut_vals, mut_Tells, shr_vals, shr_Tells}
use denote.Signature.{plain, types_at}
use denote.Slice.{shr_slice_vals, shr_slice_Tells}
use denote.Steps.{opens, closes}
use denote.Triple.Clauses.{Ended}
use denote.Triple.Entry.{Vals}
use denote.Triple.Walked.{says, Stays, stay_ref, stay_none_ref, stay_none_slice, walk_of, ends_at, Goes-ref, Goes-none_ref, Goes-none_slice}
use mir.Syntax.{named}
use Rattle.maildir.specs.contracts.disk_call.DiskCall as Call
use Rattle.maildir.specs.contracts.disk_record.DiskRecord as Record
use Rattle.maildir.specs.contracts.folder.FileName as Name
use Rattle.maildir.specs.contracts.disk_record.DiskRecord.note as f
use Rattle.maildir.proofs.disk_record.DiskRecord.note.Statement.{statement}
use Rattle.maildir.proofs.disk_record.DiskRecord.note.Code as code

pub note_spec : {M : Type 1} → statement M
note_spec 𝓤 𝓛 𝓜 𝓡 wired =
    let ended : Ended = f.ended in
    let c = f.clauses 𝓛 𝓜.mem 𝓡.returns in
    let stayed : Stays ended.signature.params ended.kept = (
      stay_ref (0 ∷ []) tt (plain (λ _. Record.the_row)),
      (
        stay_none_ref (1 ∷ []) tt (plain (λ _. Call.the_row)) yes,
        (
          stay_none_slice (2 ∷ []) tt (plain (λ _. u8)) yes,
          (stay_none_slice (3 ∷ []) tt (plain (λ _. u8)) yes, (stay_none_slice (4 ∷ []) tt (plain (λ _. Name.the_row)) yes, tt)),
        ),
      ),
    ) in
    let W = walk_of 𝓛 ended stayed c in
    proved 𝓛 ended stayed c 𝓜 𝓡 (
      Goes-ref 𝓛 5 0 tt (plain (λ _. Record.the_row)),
      (
        Goes-none_ref 𝓛 5 (1 ∷ []) tt (plain (λ _. Call.the_row)) yes,
        (
          Goes-none_slice 𝓛 5 (2 ∷ []) tt (plain (λ _. u8)) yes,
          (Goes-none_slice 𝓛 5 (3 ∷ []) tt (plain (λ _. u8)) yes, (Goes-none_slice 𝓛 5 (4 ∷ []) tt (plain (λ _. Name.the_row)) yes, tt)),
        ),
      ),
    )
    f.Key.name code.function (code.unfolded 𝓤 𝓛.H 𝓜 𝓡 wired)
    (λ κs. (mut_vals, (shr_vals, (shr_slice_vals, (shr_slice_vals, (shr_slice_vals, tt))))))
    (λ κs. (
      mut_Tells (named 0) κs.0 Record.the_row,
      (
        shr_Tells (named 1) κs.1.0 Call.the_row,
        (
          shr_slice_Tells (named 2) κs.1.1.0 u8,
          (shr_slice_Tells (named 3) κs.1.1.1.0 u8, (shr_slice_Tells (named 4) κs.1.1.1.1.0 Name.the_row, tt)),
        ),
      ),
    )) (λ κs qs bounds a none are.
    let vss : Vals ended.signature κs = (mut_vals a.0, (shr_vals a.1.0, (shr_slice_vals a.1.1.0, (shr_slice_vals a.1.1.1.0, (shr_slice_vals a.1.1.1.1.0, tt))))) in
    let y : W.Ghost = ((κs, qs, bounds, a, vss), none) in
    let made : (Record.the_row).Denot = record a.0.now { events = record { call = a.1.0.now; name = a.1.1.0.now; bytes = a.1.1.1.0.now; names = a.1.1.1.1.0.now } ∷ a.0.now.events } in
    let b = a.0.ref_ptr.0 in let o = a.0.ref_ptr.1 in
    let itself : List Val = vptr b o ∷ [] in
    let unit : List Val = vunit ∷ [] in
    qed 𝓛 (((‵ (flft κs.0 qs.0) ⊛ (‵ (flft κs.1.0 qs.1.0) ⊛ (‵ (flft κs.1.1.0 qs.1.1.0) ⊛ (‵ (flft κs.1.1.1.0 qs.1.1.1.0) ⊛ (‵ (flft κs.1.1.1.1.0 qs.1.1.1.1.0) ⊛ ‵ ftrue)))))
    ⊛ ‵ (owns (types_at ended.signature.params κs) a vss)) ∷ raw ((c κs a).requires none) ∷ []) ∵
    keep ! (0 ∷ []) $ split ! $ split ! $ move ! (2 ∷ []) $ fsplit ! $ fsplit3 ! $ drop ! $ move ! (0 ∷ 1 ∷ 3 ∷ []) $
    enter ! _ _ _ _ _ $ alloc_all ! (λ l. pass_all ! refl
    ((tt, tt), ((tt, tt), ((tt, (tt, (record { fits = are.1.1.0.0.1.0 }, tt))), ((tt, (tt, (record { fits = are.1.1.1.0.0.1.0 }, tt))), ((tt, (tt, (record { fits = are.1.1.1.1.0.0.1.0 }, tt))), tt))))) $
    move ! (0 ∷ 1 ∷ 2 ∷ []) $ opens ! tt Record.the_row {h = a.0.now} b o (λ vs.
    sets ! (of_opd ! (unit_lit !)) refl (tt, tt) $
    move ! (1 ∷ []) $ use1 𝓛 (‵ ((Record.the_row).own_val made vs)) (id⊢ 𝓤 _) $ move ! (1 ∷ 0 ∷ []) $ closes ! tt Record.the_row made vs b o $
    returns ! (look_at ! 0 refl) $ free_all ! refl $ keep ! (0 ∷ 1 ∷ 2 ∷ 3 ∷ 4 ∷ []) $
    suffices ! _ (ends_at 𝓛 ended stayed c y vunit tt (made, (tt, (tt, (tt, (tt, tt))))) (tt, (tt, (tt, (tt, (tt, tt)))))) $ says ! refl $
    move ! (2 ∷ 4 ∷ []) $ join ! $ frame ! $ feq_i ! (List Val) itself itself refl $ fjoin3 ! $ fjoin ! $
    feq_i ! (List Val) unit unit refl $ move ! (1 ∷ 0 ∷ []) $ done !)))
