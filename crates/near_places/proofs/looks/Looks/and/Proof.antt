-- `and` makes a value without bytes, and calls its list that of the other with this before it. Assumes `Logic`.
use Rattle.std.proofs.Common.{List, [], ◌∷◌, ◌++◌, refl}
use Rattle.std.proofs.raw_atomic.Walks.{proved_at}
use mir.Val.{Val}
use prog.Wp.{WpFn}
use contract.Running.{tables}
use types.Kit.{‵, raw, ◌⊛◌, prop, ◌$◌, ◌∵◌, !, qed, move, keep, drop, split, fsplit, fjoin, feq_l, regoal, suffices, done}
use types.Part.{agg}
use types.Run.{enter, returns, no_more}
use types.ByLocal.{alloc_all, pass_all, free_all, look_at, sets}
use denote.Builtin.{RefOf}
use denote.Exit.{yes}
use denote.RattleType.{owns}
use denote.Signature.{plain, types_at}
use denote.Steps.{nothing}
use denote.Triple.Clauses.{Ended}
use denote.Triple.Entry.{alive}
use denote.Triple.Walked.{says, Stays, stay_dropped, walk_of, ends_at, Goes-dropped}
use Rattle.near_places.proofs.Walks.{bare, owns_none}
use Rattle.near_places.specs.contracts.looks.Looks as Looks
use Rattle.near_places.specs.contracts.looks.Looks.and as f
use Rattle.near_places.proofs.looks.Looks.and.Statement.{statement}
use Rattle.near_places.proofs.looks.Looks.and.Code as code

pub and_spec : {M : Type 1} → statement M
and_spec 𝓤 𝓛 𝓜 𝓡 wired =
    let ended : Ended = f.ended in
    let c = f.clauses 𝓛 𝓜.mem 𝓡.returns in
    let list = RefOf (0 ∷ []) tt (plain (λ _. Looks.the_row)) (λ _. tt) in
    let stayed : Stays ended.signature.params ended.kept = (stay_dropped list yes, tt) in
    let W = walk_of 𝓛 ended stayed c in
    let 𝓣 = tables 𝓤 𝓛.H 𝓜 𝓡 𝓡.env in
    let e = code.function in
    proved_at 𝓛 ended stayed c 𝓜 𝓡 (Goes-dropped 𝓛 1 list yes (λ κs x w. refl), tt)
    f.Key.name e (code.unfolded 𝓤 𝓛.H 𝓜 𝓡 wired) (λ y are.
    let a = y.0.3 in let vss = y.0.4 in
    let made : Looks.the_row.Denot = record { looks = y.1 ∷ a.0.now.looks } in
    qed 𝓛 ((raw (alive 𝓛 ended.signature y.0.0 y.0.1) ⊛ ‵ (owns (types_at ended.signature.params y.0.0) a vss)) ∷ raw ((c y.0.0 a).requires y.1) ∷ []) ∵
    keep ! (0 ∷ []) $ split ! $ move ! (1 ∷ []) $
    fsplit ! $ fsplit ! $ feq_l ! (λ is₀. drop ! $ drop ! $
    regoal ! (λ (us : List Val). prop (WpFn 𝓤 𝓛.H 𝓣.C 𝓣.Λ e (us ++ []) (W.post y))) is₀ refl $
    enter ! _ _ _ _ _ $ alloc_all ! (λ l. pass_all ! refl ((tt, tt), tt) $
    sets ! (agg ! (no_more !)) refl (tt, tt) $
    nothing ! $ owns_none ! $ fjoin ! $
    returns ! (look_at ! 0 refl) $ free_all ! refl $
    suffices ! _ (ends_at 𝓛 ended stayed c y bare made (tt, tt) (tt, tt)) $ says ! refl $
    nothing ! $ nothing ! $ fjoin ! $ move ! (2 ∷ 0 ∷ 1 ∷ []) $ done !)))
