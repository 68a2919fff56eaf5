use Rattle.std.proofs.Common.{◌≡◌, ◌∙◌, ℕ, [], ◌∷◌, List, ap, arith, length, refl, rules, subst, sym, tests}
use Rattle.std.specs.List.Sorted.{IsNonDecreasingBy}
use Rattle.std.specs.Option.{option_map}
use Rattle.std.proofs.lemmas.Bool.Decides.{nat_tests}
use Rattle.std.proofs.lemmas.Grind.{common_steps}
use Rattle.maildir.specs.declared.folder.Place.TheVariants.{Cur, New}
use Rattle.maildir.specs.declared.standing.NameReading.{NameReading}
use Rattle.maildir.specs.Standings.{HasBegun, HasLooked}
use Rattle.maildir.proofs.DiskCopying.{on_err}
use Rattle.guarded.specs.Watches.{objection_to, uids_due}
use Rattle.guarded.proofs.Looking.{finds_none, finds_some}
use Rattle.guarded.proofs.Rising.{due_rise}
use Rattle.guarded.proofs.near_look.NearLook.stale.Goals as goal

pub invariant_of-sought : goal.invariant_of-sought
invariant_of-sought g c =
    let w = c.args.self.now.watch in
    record {
      gone_rise = subst (λ (us : List ℕ). IsNonDecreasingBy (λ (uid : ℕ). uid) us) (sym (c.as_slice-gone.ensures.value ∙ c.in_ok-removed.ensures.due)) (due_rise w.logged w.removals.gone c.in_ok-removed.ensures.rises);
      marked_rise = subst (λ (us : List ℕ). IsNonDecreasingBy (λ (uid : ℕ). uid) us) (sym (c.as_slice-marked.ensures.value ∙ c.in_ok-kept.ensures.due)) (due_rise w.logged w.removals.marked c.in_ok-kept.ensures.rises);
    }

pub returns-then-is_empty-2-clause-found : goal.returns-then-is_empty-2-clause-found
returns-then-is_empty-2-clause-found g c =
    let w = c.args.self.now.watch in
    let none : length c.as_slice-gone.result.now ≡ 0 = first_of (search (rules, tests), grind (arith, nat_tests)) in
    let none_marked : length c.as_slice-marked.result.now ≡ 0 = first_of (search (rules, tests), grind (arith, nat_tests)) in
    finds_none (uids_due w.logged w.removals.gone) (uids_due w.logged w.removals.marked) _
    (ap (λ (us : List ℕ). length us) (sym (c.as_slice-gone.ensures.value ∙ c.in_ok-removed.ensures.due)) ∙ none)
    (ap (λ (us : List ℕ). length us) (sym (c.as_slice-marked.ensures.value ∙ c.in_ok-kept.ensures.due)) ∙ none_marked)

pub returns-clause-found : goal.returns-clause-found
returns-clause-found g c =
    let w = c.args.self.now.watch in
    let same : c.as_slice-gone.result.now ≡ uids_due w.logged w.removals.gone = c.as_slice-gone.ensures.value ∙ c.in_ok-removed.ensures.due in
    let same_marked : c.as_slice-marked.result.now ≡ uids_due w.logged w.removals.marked = c.as_slice-marked.ensures.value ∙ c.in_ok-kept.ensures.due in
    let looked = subst (λ (us : List ℕ). HasLooked us c.as_slice-marked.result.now c.in_ok-found.found c.args.self.now.readings.items c.first_stale.new.readings.items) same c.in_ok-found.ensures.ok in
    let mapped : c.map.result ≡ option_map objection_to c.in_ok-found.found = first_of (search rules, grind (arith, common_steps)) in
    finds_some (uids_due w.logged w.removals.gone) (uids_due w.logged w.removals.marked) c.in_ok-found.found c.map.result _ _
    (λ none none_marked.
    let a : length c.as_slice-gone.result.now ≡ 0 = ap (λ (us : List ℕ). length us) same ∙ none in
    let b : length c.as_slice-marked.result.now ≡ 0 = ap (λ (us : List ℕ). length us) same_marked ∙ none_marked in
    first_of (search (rules, tests), grind (arith, nat_tests)))
    (subst (λ (us : List ℕ). HasLooked (uids_due w.logged w.removals.gone) us c.in_ok-found.found c.args.self.now.readings.items c.first_stale.new.readings.items) same_marked looked) mapped

-- nothing was read
unread : (readings : List NameReading) → HasBegun readings readings
unread readings = record { readings = []; unread = Cur ∷ New ∷ []; noted = refl; places = refl }

pub returns-in_err-removed-clause-err : goal.returns-in_err-removed-clause-err
returns-in_err-removed-clause-err g c = on_err _ (unread c.args.self.now.readings.items)

pub returns-in_err-kept-clause-err : goal.returns-in_err-kept-clause-err
returns-in_err-kept-clause-err g c = on_err _ (unread c.args.self.now.readings.items)
