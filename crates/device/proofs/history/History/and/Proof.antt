-- `and` makes a value without bytes, and calls its list that of the other with the item before it. Assumes `Logic`.
use Rattle.std.proofs.Common.{List, [], ◌∷◌, ◌++◌, refl}
use Rattle.std.proofs.raw_atomic.Walks.{proved_at}
use mir.Syntax.{Args, a_type}
use mir.MapTy.{inst_fn}
use mir.Val.{Val, vptr}
use prog.Wp.{WpFn}
use contract.Running.{tables}
use types.Kit.{‵, raw, ◌⊛◌, prop, ◌$◌, ◌∵◌, !, qed, move, keep, drop, split, fsplit, fjoin, feq_l, regoal, suffices, done}
use types.Part.{agg}
use types.Run.{enter, returns, and_then, no_more}
use types.ByLocal.{alloc_all, pass_all, free_all, look_at, get, sets}
use denote.Builtin.{RefOf}
use denote.Exit.{yes}
use denote.Laws.{Is}
use denote.Param.{param, layouts}
use denote.RattleType.{owns}
use denote.Signature.{plain, types_at}
use denote.Steps.{nothing, owned}
use denote.Struct.Laws.{makes}
use denote.Triple.Clauses.{Ended}
use denote.Triple.Entry.{alive}
use denote.Triple.Walked.{says, Stays, stay_dropped, walk_of, ends_at, Goes-dropped}
use Rattle.std.specs.contracts.marker.PhantomData as mark
use Rattle.device.proofs.Walks.{bare, wrapped, wraps}
use Rattle.device.specs.contracts.history.History as History
use Rattle.device.specs.contracts.history.History.and as f
use Rattle.device.proofs.history.History.and.Statement.{statement}
use Rattle.device.proofs.history.History.and.Code as code

pub and_spec : {M : Type 1} → statement M
and_spec 𝓤 𝓛 𝓜 𝓡 wired A LA =
    let args : Args = layouts (a_type ∷ []) (A, tt) in
    let ended : Ended = f.ended A in
    let c = f.clauses A 𝓛 𝓜.mem 𝓡.returns in
    let list = RefOf (0 ∷ []) tt (plain (λ _. History.the_row (param 0 A))) (λ _. tt) in
    let item = RefOf (1 ∷ []) tt (plain (λ _. param 0 A)) (λ _. tt) in
    let stayed : Stays ended.signature.params ended.kept = (stay_dropped list yes, (stay_dropped item yes, tt)) in
    let W = walk_of 𝓛 ended stayed c in
    let 𝓣 = tables 𝓤 𝓛.H 𝓜 𝓡 𝓡.env in
    let e = inst_fn args code.function in
    proved_at 𝓛 ended stayed c 𝓜 𝓡 (Goes-dropped 𝓛 3 list yes (λ κs x w. refl), (Goes-dropped 𝓛 3 item yes (λ κs x w. refl), tt))
    (f.Key.name args) e (code.unfolded 𝓤 𝓛.H 𝓜 𝓡 wired (A, tt)) (λ y are.
    let a = y.0.3 in let vss = y.0.4 in
    let made : (History.the_row (param 0 A)).Denot = record { of = record {}; items = a.1.0.now ∷ a.0.now.items } in
    let p = vptr a.0.ref_ptr.0 a.0.ref_ptr.1 in
    let q = vptr a.1.0.ref_ptr.0 a.1.0.ref_ptr.1 in
    qed 𝓛 ((raw (alive 𝓛 ended.signature y.0.0 y.0.1) ⊛ ‵ (owns (types_at ended.signature.params y.0.0) a vss)) ∷ raw ((c y.0.0 a).requires y.1) ∷ []) ∵
    keep ! (0 ∷ []) $ split ! $ move ! (1 ∷ []) $
    fsplit ! $ fsplit ! $ feq_l ! (λ is₀. drop ! $ fsplit ! $ fsplit ! $ feq_l ! (λ is₁. drop ! $ drop ! $
    regoal ! (λ (us : List Val). prop (WpFn 𝓤 𝓛.H 𝓣.C 𝓣.Λ e (us ++ (vss.1.0 ++ [])) (W.post y))) is₀ refl $
    regoal ! (λ (us : List Val). prop (WpFn 𝓤 𝓛.H 𝓣.C 𝓣.Λ e ((p ∷ []) ++ (us ++ [])) (W.post y))) is₁ refl $
    enter ! _ _ _ _ _ $ alloc_all ! (λ l. pass_all ! refl ((tt, tt), ((tt, tt), tt)) $
    sets ! (agg ! (no_more !)) refl (tt, tt) $
    sets ! (agg ! (and_then ! (get ! refl) (no_more !))) refl (tt, (tt, tt)) $
    nothing ! $ owned ! (mark.the_row (param 0 A)) (Is (mark.the_row (param 0 A))) (makes (mark.the_type (param 0 A)) tt 𝓛) (record {}) (bare ∷ []) (tt, (refl, tt)) $
    wraps ! (mark.the_row (param 0 A)) (record {}) $ fjoin ! $
    returns ! (look_at ! 0 refl) $ free_all ! refl $
    suffices ! _ (ends_at 𝓛 ended stayed c y wrapped made (tt, (tt, tt)) (tt, (tt, tt))) $ says ! refl $
    nothing ! $ nothing ! $ fjoin ! $ nothing ! $ fjoin ! $ move ! (2 ∷ 0 ∷ 1 ∷ []) $ done !))))
