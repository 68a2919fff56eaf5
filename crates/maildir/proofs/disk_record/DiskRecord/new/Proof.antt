-- `new` makes a value without bytes. It calls the list of calls empty, and says of the folder that it is missing: which no clause says.
-- Assumes `Logic`.
use Rattle.std.proofs.Common.{[], ◌∷◌, None, false, refl}
use Rattle.std.proofs.raw_atomic.Walks.{proved}
use types.Kit.{‵, raw, ◌⊛◌, ◌$◌, ◌∵◌, !, qed, move, keep, split, fjoin, suffices, done}
use types.Part.{agg}
use types.Run.{enter, returns, and_then, no_more}
use types.ByLocal.{alloc_all, pass_all, free_all, look_at, get, sets}
use denote.RattleType.{owns}
use denote.Laws.{Is}
use denote.Builtin.{u8}
use denote.Signature.{types_at}
use denote.Steps.{nothing, owned}
use denote.Struct.Laws.{makes}
use denote.Triple.Clauses.{Ended}
use denote.Triple.Entry.{alive}
use denote.Triple.Walked.{says, walk_of, ends_at}
use Rattle.std.specs.contracts.marker.PhantomData as mark
use Rattle.device.proofs.Walks.{bare, wrapped, wraps}
use Rattle.maildir.specs.contracts.disk_record.DiskRecord as Record
use Rattle.maildir.specs.contracts.disk_record.DiskRecord.new as f
use Rattle.maildir.proofs.disk_record.DiskRecord.new.Statement.{statement}
use Rattle.maildir.proofs.disk_record.DiskRecord.new.Code as code

pub new_spec : {M : Type 1} → statement M
new_spec 𝓤 𝓛 𝓜 𝓡 wired =
    let ended : Ended = f.ended in
    let c = f.clauses 𝓛 𝓜.mem 𝓡.returns in
    let W = walk_of 𝓛 ended tt c in
    proved 𝓛 ended tt c 𝓜 𝓡 tt f.Key.name code.function (code.unfolded 𝓤 𝓛.H 𝓜 𝓡 wired)
    (λ κs. tt) (λ κs. tt) (λ κs qs bounds a none are.
    let y : W.Ghost = ((κs, qs, bounds, a, tt), none) in
    let made : (Record.the_row).Denot = record { of = record {}; world = record { start = record { stored = record { is_there = false; files = []; copy = None; meta = None }; next = None }; arrivals = []; shares = [] }; events = [] } in
    qed 𝓛 ((raw (alive 𝓛 ended.signature κs qs) ⊛ ‵ (owns (types_at ended.signature.params κs) a tt)) ∷ raw ((c κs a).requires none) ∷ []) ∵
    keep ! (0 ∷ []) $ split ! $ keep ! (0 ∷ []) $
    enter ! _ _ _ _ _ $ alloc_all ! (λ l. pass_all ! refl tt $
    sets ! (agg ! (no_more !)) refl (tt, tt) $
    sets ! (agg ! (and_then ! (get ! refl) (no_more !))) refl (tt, (tt, tt)) $
    nothing ! $ owned ! (mark.the_row u8) (Is (mark.the_row u8)) (makes (mark.the_type u8) tt 𝓛) (record {}) (bare ∷ []) (tt, (refl, tt)) $
    wraps ! (mark.the_row u8) (record {}) $ fjoin ! $
    returns ! (look_at ! 0 refl) $ free_all ! refl $
    suffices ! _ (ends_at 𝓛 ended tt c y wrapped made tt tt) $ says ! refl $
    nothing ! $ move ! (2 ∷ 0 ∷ 1 ∷ []) $ done !))
