use Rattle.std.proofs.Common.{◌≡◌, ◌∙◌, ap, subst, ℕ, List, Some, slice_get, get_or, arith}
use Rattle.std.proofs.lemmas.Grind.{common_steps}
use Rattle.std.proofs.lemmas.Option.{gets}
use Rattle.rules.specs.declared.entry.Entry.{Entry}
use Rattle.book.specs.GivingUp.{flags_after}
use Rattle.book.specs.GivenUpParts.{HasNoPair, HasPairAt}
use Rattle.book.proofs.GivenUpSteps.{get_is, step_gone, step_none, step_set}
use Rattle.book.proofs.given_up.note_step.Goals as goal

pub returns-in_default : goal.returns-in_default
returns-in_default c = step_none c.args.list.now.items c.args.step.now c.in_default.ensures

pub returns-in_default-place_in : goal.returns-in_default-place_in
returns-in_default-place_in c = step_gone c.args.list.now.items c.args.step.now c.in-Some.pair.0 c.in-Some.pair.1 c.in-Some.ensures
    (subst (λ (l : List Entry). HasNoPair l c.in-Some.pair.0 c.in-Some.pair.1) c.deref.ensures.value c.in_default-place_in.ensures)

pub returns : goal.returns
returns c =
    let es = c.args.list.now.items in
    let s = c.args.step.now in
    let at = c.in-Some-place_in.at in
    let entry = c.index_mut.result.now in
    let here : HasPairAt es c.in-Some.pair.0 c.in-Some.pair.1 at = subst (λ (l : List Entry). HasPairAt l c.in-Some.pair.0 c.in-Some.pair.1 at) c.deref.ensures.value c.in-Some-place_in.ensures in
    let there : slice_get es at ≡ Some entry = grind (arith, common_steps, gets, here.0, c.index_mut.ensures.value) in
    let first : slice_get es at ≡ Some c.index.result.now = grind (arith, common_steps, gets, here.0, c.index.ensures) in
    step_set es s c.in-Some.pair.0 c.in-Some.pair.1 at (record entry { flags = c.flags_after-flags.result }) c.requires.pairs c.in-Some.ensures here
    (λ d. ap (λ (n : ℕ). record entry { flags = n }) c.flags_after-flags.ensures
    ∙ ap (λ (x : Entry). record entry { flags = flags_after s x }) (get_is es at c.index.result.now d first)
    ∙ ap (λ (x : Entry). record x { flags = flags_after s (get_or es at d) }) (get_is es at entry d there))
