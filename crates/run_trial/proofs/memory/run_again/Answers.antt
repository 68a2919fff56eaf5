-- Link, folder and shelf in memory always keep their word, and nobody else writes a mark.
use Rattle.std.proofs.Common.{◌∙◌, true, ap, inl, inr, refl, sym, subst, ⊎_elim}
use Rattle.std.specs.Prelude.{IfErr}
use Rattle.outside.specs.Calls.{Seen}
use Rattle.run_pair.specs.Pairs.{seen_of}
use Rattle.run_states.specs.Conditions.{Underway}
use Rattle.runner.specs.Attempts.{MetStops}
use Rattle.runner.specs.Faults.{LeavesRun}
use Rattle.run_trial.specs.Openings.{StandsAt}
use Rattle.run_trial.proofs.AgainLemmas.{stands_interrupted}
use Rattle.run_trial.proofs.MemoryLemmas.{ends_run, over_device, stops_met}
use Rattle.run_trial.proofs.memory.run_again.Goals as goal

pub returns-clause-resumed : goal.returns-clause-resumed
returns-clause-resumed g c = λ left interrupted.
    let same = c.in_ok-outside.ensures.seen in
    ⊎_elim (λ at.
    let there = subst (λ (s : Seen). StandsAt g.opening c.args.options s.device) (sym same) at in
    inr (ends_run g.opening (seen_of c.settle_from.result.0).device c.settle_from.result.1 (c.settle_from.ensures.over (tt, tt, tt) (λ mark. refl) there)
    (c.settle_from.ensures.done (tt, tt, tt) refl (λ mark. refl) there)))
    (λ over. inl over) (stands_interrupted g.opening c.args.options left _ interrupted)

pub returns-clause-pending : goal.returns-clause-pending
returns-clause-pending g c = λ left interrupted.
    let same = c.in_ok-outside.ensures.seen in
    ⊎_elim (λ at.
    inr (subst (λ (s : Seen). IfErr c.settle_from.result.1 (λ fault. LeavesRun (Underway g.opening) fault s (seen_of c.settle_from.result.0))) same
    (c.settle_from.ensures.left (tt, tt, tt) (λ mark. refl) (subst (λ (s : Seen). StandsAt g.opening c.args.options s.device) (sym same) at))))
    (λ over. inl over) (stands_interrupted g.opening c.args.options left _ interrupted)

pub returns-clause-greatest : goal.returns-clause-greatest
returns-clause-greatest g c =
    let same = c.in_ok-outside.ensures.seen in
    over_device _ true (seen_of c.in_ok-outside.outside).device _ (seen_of c.settle_from.result.0).device c.settle_from.result.1 (ap (λ (s : Seen). s.device) same) (tt, tt, tt) c.settle_from.ensures.greatest

pub returns-clause-stopped : goal.returns-clause-stopped
returns-clause-stopped g c = λ stopped.
    stops_met c.args.tries (seen_of c.settle_from.result.0).stops
    (subst (λ (s : Seen). MetStops c.args.tries s (seen_of c.settle_from.result.0)) c.in_ok-outside.ensures.seen (c.settle_from.ensures.stopped stopped))

pub returns-clause-map : goal.returns-clause-map
returns-clause-map g c = c.settle_from.ensures.keywords ∙ c.in_ok-outside.ensures.keywords
