use Rattle.std.proofs.Common.{◌≡◌, ◌∙◌, ◌++◌, [], ◌∷◌, List, ℕ, subst, sym}
use Rattle.std.proofs.lemmas.List.{map-id}
use Rattle.std.proofs.lemmas.Iterator.Adapters.{YieldsList-from_vec}
use Rattle.std.proofs.lemmas.Iterator.Consumers.{YieldsList-end}
use Rattle.mail_stores.specs.Names.{AreServable}
use Rattle.mail_stores.proofs.ListedLemmas.{servable_more, servable_same}
use Rattle.mail_stores.proofs.names.NearNames.of.Goals as goal

-- one more is servable
pub loop-name-preserved-in-Continue-branch-2 : goal.loop-name-preserved-in-Continue-branch-2
loop-name-preserved-in-Continue-branch-2 c =
    subst (λ (servable : List (List ℕ)). AreServable (c.loop-name.yielded ++ c.in-Some.name ∷ []) servable) (sym c.in_ok-push.ensures.items)
    (servable_more c.loop-name.yielded c.loop-name.servable.items c.in-Some.name c.loop-name.invariant (c.in_ok-is_servable.ensures.0 c.if-branch.true))

-- one more is not
pub loop-name-preserved : goal.loop-name-preserved
loop-name-preserved c =
    servable_same c.loop-name.yielded c.loop-name.servable.items c.in-Some.name c.loop-name.invariant
    (λ can. let is = c.in_ok-is_servable.ensures.1 can in let not = c.if-branch.false in cc)

-- all were looked at
pub returns : goal.returns
returns c =
    let gives = c.into_iter-name-iterator.ensures.into_iter_gives in
    let ends = YieldsList-end (YieldsList-from_vec {s = c.into_iter-name-iterator.result} c.args.names.items gives.0 (gives.1 ∙ c.args.names.ok.0))
    c.loop-name.yielded c.loop-name.name-iterator c.loop-name.yielded_by c.next.result c.next.new.self c.in-None.is c.next.ensures.steps in
    let all : c.loop-name.yielded ≡ c.args.names.items = sym (map-id c.loop-name.yielded) ∙ ends.0 in
    subst (λ (names : List (List ℕ)). AreServable names c.loop-name.servable.items) all c.loop-name.invariant
