use Rattle.std.proofs.Common.{arith, ◌≡◌, ◌∙◌, ap, drop, rules, get_or, Option}
use Rattle.std.specs.Prelude.{◌==◌, find}
use Rattle.std.specs.Option.{option_map}
use Rattle.mailcore.specs.declared.listing.Item.{Item}
use Rattle.planner.specs.declared.places.EntryPlace.{EntryPlace}
use Rattle.planner.proofs.Passing.{pass_on, same_default}
use Rattle.planner.proofs.Noted.{noted_more, all_noted}
use Rattle.planner.proofs.listed.listed_flags.Goals as goal

pub loop-place-preserved : goal.loop-place-preserved
loop-place-preserved c =
    let is = c.args.items.now in
    let ps = c.args.places.now in
    let i = c.loop-place.place-index in
    let d0 : EntryPlace = record { uid = 0; at = 0 } in
    let p : EntryPlace = get_or ps i d0 in
    let here : (d : EntryPlace) → get_or ps i d ≡ p = λ d. same_default ps i d d0 c.loop-place-test.true in
    let before = c.loop-place.invariant.3 i d0 (omega arith) c.loop-place-test.true in
    let found = c.first_item_from-at.ensures.passed p.uid (omega arith) ∙ before in (
      c.first_item_from-at.ensures.within,
      search rules,
      search rules,
      pass_on (λ (q : EntryPlace). q.uid) ps (λ u. find (λ (x : Item). x.uid == u) (drop c.first_item_from-at.result is)) (λ u. find (λ (x : Item). x.uid == u) (drop c.loop-place.at is)) (λ u. find (λ (x : Item). x.uid == u) is)
          i p.uid c.requires.index.rising (λ d. ap (λ (q : EntryPlace). q.uid) (here d)) c.first_item_from-at.ensures.passed c.loop-place.invariant.3,
      noted_more c.args.side c.args.entries.now ps is c.requires.index c.loop-place.flags.items i p c.flags_here.result c.loop-place.invariant.2 c.loop-place-test.true here
          (c.flags_here.ensures ∙ ap (λ (o : Option Item). option_map (λ (x : Item). x.flags) o) found) c.loop-place.invariant.4,
    )

pub returns-clause-flags : goal.returns-clause-flags
returns-clause-flags c =
    all_noted c.args.side c.args.entries.now c.args.places.now c.args.items.now c.requires.index c.loop-place.flags.items c.loop-place.invariant.2
    (λ j d o less. c.loop-place.invariant.4 j d o (let past = c.loop-place-test.false in omega arith))
