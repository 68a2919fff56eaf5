use Rattle.std.proofs.Common.{sym, arith, ◌≡◌, ◌∙◌, ap, ℕ, drop, rules, get_or, subst}
use Rattle.std.specs.Prelude.{◌==◌, find}
use Rattle.std.proofs.lemmas.Grind.{common_steps}
use Rattle.mailcore.specs.declared.listing.Item.{Item}
use Rattle.planner.specs.declared.places.EntryPlace.{EntryPlace}
use Rattle.planner.proofs.Passing.{pass_on, items_rise, same_default}
use Rattle.planner.proofs.met.meet.Goals as goal

pub holder_here-requires-clause-passed : goal.holder_here-requires-clause-passed
holder_here-requires-clause-passed c =
    let u = c.get-uid.result in
    let is = c.args.items.now in
    let at : u ≡ (get_or is c.loop-item.item-index c.item-item.result).uid = c.get-uid.ensures.number ∙ ap (λ (i : Item). i.uid) c.item-item.is in
    let before = c.loop-item.invariant.3 c.loop-item.item-index c.item-item.result (omega arith) c.loop-item-test.true in
    c.first_place_from-at.ensures.passed u (omega arith) ∙ subst (λ (v : ℕ). find (λ (p : EntryPlace). p.uid == v) (drop c.loop-item.at c.args.places.now) ≡ find (λ (p : EntryPlace). p.uid == v) c.args.places.now) (sym at) before

pub loop-item-preserved : goal.loop-item-preserved
loop-item-preserved c =
    let is = c.args.items.now in
    let ps = c.args.places.now in (
      c.first_place_from-at.ensures.within,
      search rules,
      grind (arith, common_steps),
      pass_on (λ (i : Item). i.uid) is (λ u. find (λ (p : EntryPlace). p.uid == u) (drop c.first_place_from-at.result ps)) (λ u. find (λ (p : EntryPlace). p.uid == u) (drop c.loop-item.at ps)) (λ u. find (λ (p : EntryPlace). p.uid == u) ps)
          c.loop-item.item-index c.get-uid.result (items_rise is c.requires.rising)
          (λ d. ap (λ (i : Item). i.uid) (same_default is c.loop-item.item-index d c.item-item.result c.loop-item-test.true ∙ sym c.item-item.is) ∙ sym c.get-uid.ensures.number)
          c.first_place_from-at.ensures.passed c.loop-item.invariant.3,
    )
