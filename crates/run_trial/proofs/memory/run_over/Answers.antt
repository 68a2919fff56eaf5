-- Link, folder and shelf in memory always keep their word, and nobody else writes a mark.
use Rattle.std.proofs.Common.{◌∙◌, true, refl, sym, ap, subst}
use Rattle.std.specs.Prelude.{IfErr}
use Rattle.outside.specs.Calls.{Seen}
use Rattle.run_pair.specs.Pairs.{seen_of}
use Rattle.run_states.specs.Conditions.{Underway}
use Rattle.runner.specs.Faults.{LeavesRun}
use Rattle.run_trial.specs.Openings.{StandsAt}
use Rattle.run_trial.specs.Settings.{device_in}
use Rattle.runner.specs.Attempts.{MetStops}
use Rattle.run_trial.proofs.MemoryLemmas.{ends_run, over_device, setting_seen, stops_met}
use Rattle.run_trial.proofs.memory.run_over.Goals as goal

pub returns-clause-ends : goal.returns-clause-ends
returns-clause-ends g c = λ at.
    let same = setting_seen c.args.setting _ _ c.new-link.ensures.server c.in_ok-outside.ensures.seen in
    let there = subst (λ (s : Seen). StandsAt g.opening c.args.setting.options s.device) (sym same) at in
    ends_run g.opening (seen_of c.settle_from.result.0).device c.settle_from.result.1 (c.settle_from.ensures.over (tt, tt, tt) (λ mark. refl) there)
    (c.settle_from.ensures.done (tt, tt, tt) refl (λ mark. refl) there)

pub returns-clause-left : goal.returns-clause-left
returns-clause-left g c = λ at.
    let same = setting_seen c.args.setting _ _ c.new-link.ensures.server c.in_ok-outside.ensures.seen in
    subst (λ (s : Seen). IfErr c.settle_from.result.1 (λ fault. LeavesRun (Underway g.opening) fault s (seen_of c.settle_from.result.0))) same
    (c.settle_from.ensures.left (tt, tt, tt) (λ mark. refl) (subst (λ (s : Seen). StandsAt g.opening c.args.setting.options s.device) (sym same) at))

pub returns-clause-greatest : goal.returns-clause-greatest
returns-clause-greatest g c =
    let same = setting_seen c.args.setting _ _ c.new-link.ensures.server c.in_ok-outside.ensures.seen in
    over_device _ true (seen_of c.in_ok-outside.outside).device (device_in c.args.setting) (seen_of c.settle_from.result.0).device c.settle_from.result.1 (ap (λ (s : Seen). s.device) same) (tt, tt, tt) c.settle_from.ensures.greatest

pub returns-clause-stopped : goal.returns-clause-stopped
returns-clause-stopped g c = λ stopped.
    let same = setting_seen c.args.setting _ _ c.new-link.ensures.server c.in_ok-outside.ensures.seen in
    stops_met c.args.tries (seen_of c.settle_from.result.0).stops
    (subst (λ (s : Seen). MetStops c.args.tries s (seen_of c.settle_from.result.0)) same (c.settle_from.ensures.stopped stopped))

pub returns-clause-map : goal.returns-clause-map
returns-clause-map g c = c.settle_from.ensures.keywords ∙ c.in_ok-outside.ensures.keywords
