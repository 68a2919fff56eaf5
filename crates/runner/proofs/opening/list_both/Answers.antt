use Rattle.std.proofs.Common.{◌≡◌, ◌∙◌, ℕ, Bool, Some, ap, rules, subst, sym}
use Rattle.rules.specs.declared.state.SyncState.{SyncState}
use Rattle.runner.specs.Before.{AreOld}
use Rattle.std.proofs.lemmas.Result.{err_from_is_err_and}
use Rattle.outside.specs.Opened.{shown_far, with_listing}
use Rattle.mailcore.specs.declared.side.Side.TheVariants.{Far, Near}
use Rattle.runner.proofs.Listings.{listed_open, listed_read}
use Rattle.runner.proofs.PartCalls.{left_after, passed_after}
use Rattle.runner.proofs.Validities.{both_validities}
use Rattle.runner.proofs.opening.list_both.Goals as goal

pub returns-in_err-near-clause-part : goal.returns-in_err-near-clause-part
returns-in_err-near-clause-part g c =
    let e = err_from_is_err_and c.from_residual-in_err-near.result c.from_residual-in_err-near.ensures.1 in
    let s1 = g.O.Outside.seen c.list_far.new.outside in
    rw (e.1, e.2) (left_after _ _ _ _ _ _ _ _ s1 _ c.in_err-near.ensures.was_honest c.in_ok-far.ensures.part c.in_err-near.ensures.part)

same_old : (s t : SyncState) (spared : ℕ → Bool) → Some s ≡ Some t → AreOld s.max_pushed s.entries spared → AreOld t.max_pushed t.entries spared
same_old s t spared e = let k : s ≡ t = cc in subst (λ (x : SyncState). AreOld x.max_pushed x.entries spared) k

pub list_near-requires : goal.list_near-requires
list_near-requires g c κs within = (
  search rules,
  (
    (λ s is. same_old c.state.result.now s _ (sym c.state.ensures.state ∙ is) c.in-Ok.ensures),
    (rw c.in_ok-far.ensures.opened (listed_open Far c.in_ok-far.far.validity (shown_far c.in_ok-far.far.next (g.O.Outside.seen c.list_far.new.outside).device) _ c.requires.1.1.0), c.requires.1.1.1 ∙ sym c.list_far.ensures.keywords),
  ),
)

pub returns-clause-validities : goal.returns-clause-validities
returns-clause-validities g c = λ honest. let before = c.in_ok-near.ensures.was_honest honest in both_validities _ _ _ _ _ (c.in_ok-far.ensures.validities before) (c.in_ok-far.ensures.validity before) (c.in_ok-near.ensures.validities honest) (c.in_ok-near.ensures.validity honest)

pub returns-clause-part : goal.returns-clause-part
returns-clause-part g c =
    let s1 = g.O.Outside.seen c.list_far.new.outside in
    passed_after _ _ _ _ _ 0 0 _ s1 _ c.in_ok-near.ensures.was_honest c.in_ok-far.ensures.part c.in_ok-near.ensures.part

pub returns-clause-opened : goal.returns-clause-opened
returns-clause-opened g c =
    let d1 = (g.O.Outside.seen c.list_far.new.outside).device in
    let d2 = (g.O.Outside.seen c.list_near.new.outside).device in (
      shown_far c.in_ok-far.far.next d1,
      d2,
      c.in_ok-near.ensures.opened ∙ ap (with_listing Near c.in_ok-near.near.validity d2) c.in_ok-far.ensures.opened,
    )

pub state-requires : goal.state-requires
state-requires g c = record { read = rw c.in_ok-far.ensures.opened (listed_read Far c.in_ok-far.far.validity (shown_far c.in_ok-far.far.next (g.O.Outside.seen c.list_far.new.outside).device) _ c.requires.1.0) }
