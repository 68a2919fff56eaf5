-- A link that has behaved as specified; folder and shelf in memory always do.
use Rattle.std.proofs.Common.{◌∙◌, false, sym, ap, subst}
use Rattle.std.specs.Prelude.{IfErr}
use Rattle.outside.specs.Calls.{Seen}
use Rattle.run_pair.specs.Pairs.{seen_of}
use Rattle.run_states.specs.Beginnings.{Begins, opening_of}
use Rattle.run_states.specs.Conditions.{Underway}
use Rattle.runner.specs.Attempts.{MetStops}
use Rattle.runner.specs.Faults.{LeavesRun}
use Rattle.run_trial.proofs.LinkedLemmas.{are_linked, greatest_linked, left_linked, others_linked, over_linked}
use Rattle.run_trial.proofs.MemoryLemmas.{stops_met}
use Rattle.run_trial.proofs.linked.run_linked.Goals as goal

pub returns-clause-over : goal.returns-clause-over
returns-clause-over g c = λ same are start named begins kept.
    over_linked g.O.Others.ours g.L.Link.visitors same start c.args.options.now (seen_of c.settle_all.result.0).device c.settle_all.result.1
    (c.settle_all.ensures.over start named (kept, tt, tt) (are_linked g.O.Others.ours g.L.Link.visitors same are)
    (subst (λ (s : Seen). Begins start s.device) (sym c.in_ok-outside.ensures.seen) begins))

pub returns-clause-others : goal.returns-clause-others
returns-clause-others g c = λ same are start named begins kept.
    others_linked g.O.Others.ours g.L.Link.visitors same start c.args.options.now (seen_of c.settle_all.result.0).device c.settle_all.result.1
    (c.settle_all.ensures.others start named (kept, tt, tt) (are_linked g.O.Others.ours g.L.Link.visitors same are)
    (subst (λ (s : Seen). Begins start s.device) (sym c.in_ok-outside.ensures.seen) begins))

pub returns-clause-left : goal.returns-clause-left
returns-clause-left g c = λ same are start named begins kept.
    subst (λ (s : Seen). IfErr c.settle_all.result.1 (λ fault. LeavesRun (Underway (opening_of g.O.Others.ours false start c.args.options.now)) fault s (seen_of c.settle_all.result.0))) c.in_ok-outside.ensures.seen
    (left_linked g.O.Others.ours g.L.Link.visitors same start c.args.options.now (seen_of c.in_ok-outside.outside) (seen_of c.settle_all.result.0) c.settle_all.result.1
    (c.settle_all.ensures.left start named (kept, tt, tt) (are_linked g.O.Others.ours g.L.Link.visitors same are)
    (subst (λ (s : Seen). Begins start s.device) (sym c.in_ok-outside.ensures.seen) begins)))

pub returns-clause-greatest : goal.returns-clause-greatest
returns-clause-greatest g c = λ same kept.
    greatest_linked g.O.Others.ours g.L.Link.visitors same _ (seen_of c.in_ok-outside.outside).device _ (seen_of c.settle_all.result.0).device c.settle_all.result.1
    (ap (λ (s : Seen). s.device) c.in_ok-outside.ensures.seen) (kept, tt, tt) c.settle_all.ensures.greatest

pub returns-clause-stopped : goal.returns-clause-stopped
returns-clause-stopped g c = λ stopped.
    stops_met c.args.tries (seen_of c.settle_all.result.0).stops
    (subst (λ (s : Seen). MetStops c.args.tries s (seen_of c.settle_all.result.0)) c.in_ok-outside.ensures.seen (c.settle_all.ensures.stopped stopped))

pub returns-clause-map : goal.returns-clause-map
returns-clause-map g c = c.settle_all.ensures.keywords ∙ c.in_ok-outside.ensures.keywords
