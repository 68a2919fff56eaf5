use Rattle.std.proofs.Common.{◌∙◌, ℕ, List, Bor, ap}
use Rattle.imap_session.specs.NameOrder.{in_order}
use Rattle.imap_server.proofs.OrderLemmas.{sorted_is}
use Rattle.imap_server.proofs.list_command.names_matched.Goals as goal

pub returns : goal.returns
returns c =
    sorted_is (λ (n : Bor (List ℕ)). n.now) c.in_ok-names.names.items c.sort_unstable.new.self.items c.sort_unstable.ensures.permutation c.sort_unstable.ensures.sorted
    ∙ ap in_order c.in_ok-names.ensures
