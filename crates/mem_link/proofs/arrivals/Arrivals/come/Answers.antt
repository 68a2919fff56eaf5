use Rattle.std.proofs.Common.{List, subst, sym}
use Rattle.imap_session.proofs.Visiting.{nobody_visits}
use Rattle.mailcore.specs.Visitors.{others_but}
use Rattle.mem_link.specs.declared.arrivals.Arrival.{Arrival}
use Rattle.mem_link.specs.Others.{AreForeign}
use Rattle.mem_link.proofs.arrivals.Arrivals.come.Goals as goal

pub returns-in-None-clause-visits : goal.returns-in-None-clause-visits
returns-in-None-clause-visits c = λ ours all. nobody_visits (others_but ours) c.args.link.now.server.server

pub returns-in-Some-clause-visits : goal.returns-in-Some-clause-visits
returns-in-Some-clause-visits c = λ ours all.
    c.bring.ensures.visits ours (subst (λ (list : List Arrival). AreForeign ours list) (sym c.deref.ensures.value) all)
