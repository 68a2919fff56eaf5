use Rattle.std.proofs.Common.{◌∙◌, refl}
use Rattle.imap_session.proofs.Visiting.{nobody_visits, visits_follow}
use Rattle.mailcore.specs.Visitors.{others_but}
use Rattle.mem_link.specs.MemLinks.{line_of}
use Rattle.mem_link.proofs.Visiting.{as_said, line_after}
use Rattle.mem_link.proofs.arrivals.bring.Goals as goal
use Rattle.mem_link.proofs.arrivals.bring.Goals.{then-eq+in_ok-arrive, else-eq}

pub loop-arrival-init : goal.loop-arrival-init
loop-arrival-init c = (refl, refl, λ ours _. nobody_visits (others_but ours) c.args.link.now.server.server, refl)

pub returns-in_err-arrive-clause-visits : goal.returns-in_err-arrive-clause-visits
returns-in_err-arrive-clause-visits c = λ ours all.
    visits_follow (others_but ours) _ _ _ (c.loop-arrival.invariant.2 ours all)
    (c.arrive.ensures.visits ours (as_said ours c.args.arrivals.now c.loop-arrival.arrival-index c.arrival-item.result c.as_slice.result.now c.loop-arrival-test.true c.arrival-item.is c.as_slice.ensures all))

pub loop-arrival-preserved : goal.loop-arrival-preserved
loop-arrival-preserved c = elim c.if-eq.branch [
  | then-eq+in_ok-arrive w ↦
      let i = c.loop-arrival.invariant in
      rw w.link-is (
        refl,
        line_after (line_of c.args.link.now) (line_of c.loop-arrival.link) (line_of w.arrive.new.self) i.1 w.in_ok-arrive.ensures.line,
        (λ ours all. visits_follow (others_but ours) _ _ _ (i.2 ours all)
            (w.arrive.ensures.visits ours (as_said ours c.args.arrivals.now c.loop-arrival.arrival-index c.arrival-item.result w.as_slice.result.now c.loop-arrival-test.true c.arrival-item.is w.as_slice.ensures all))),
        w.in_ok-arrive.ensures.steady ∙ i.3,
      )
  | else-eq w ↦ let i = c.loop-arrival.invariant in rw w.link-is (refl, i.1, i.2, i.3)
]
