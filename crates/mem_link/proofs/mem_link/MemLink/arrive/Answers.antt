use Rattle.std.proofs.Common.{◌∙◌, ◌<◌, ℕ, Option, Err, ap, subst, sym}
use Rattle.std.specs.Prelude.{IfSome}
use Rattle.imap_server.specs.Taking.{Host}
use Rattle.mem_link.proofs.Visiting.{comes, none_comes}
use Rattle.mem_link.proofs.mem_link.MemLink.arrive.Goals as goal

pub returns-in-Ok-None-clause-visits : goal.returns-in-Ok-None-clause-visits
returns-in-Ok-None-clause-visits c = λ ours foreign.
    comes c.in-Ok-None.field-0 c.args.mailbox.now c.args.flags c.args.message.now c.args.self.now.server.server c.arrive.new.self.server
    (subst (λ (uid : Option ℕ). IfSome uid (λ u. 0 < u)) (sym c.in-Ok-None.field-0-is) tt)
    c.known_octets.ensures c.in-Ok-None.ensures.ok.1 ours foreign

pub returns-in-Ok-Some-clause-visits : goal.returns-in-Ok-Some-clause-visits
returns-in-Ok-Some-clause-visits c = λ ours foreign.
    comes c.in-Ok-Some.field-0 c.args.mailbox.now c.args.flags c.args.message.now c.args.self.now.server.server c.arrive.new.self.server
    (subst (λ (uid : Option ℕ). IfSome uid (λ u. 0 < u)) (sym c.in-Ok-Some.field-0-is) (subst (λ (n : ℕ). 0 < n) c.get-number.ensures.number c.get-number.ensures.positive))
    c.known_octets.ensures c.in-Ok-Some.ensures.ok.1 ours foreign

pub returns-in-Err-NoMemory-clause-visits : goal.returns-in-Err-NoMemory-clause-visits
returns-in-Err-NoMemory-clause-visits c = λ ours _. none_comes ours _ _ (c.lack.ensures.server ∙ ap (λ (h : Host). h.server) (c.arrive.ensures.no_memory (c.in-Err-NoMemory.is ∙ ap Err c.in-Err-NoMemory.field-0-is)).1)

pub returns-in-Err-Closed-clause-visits : goal.returns-in-Err-Closed-clause-visits
returns-in-Err-Closed-clause-visits c = λ ours _. none_comes ours _ _ (c.stop.ensures.server ∙ ap (λ (h : Host). h.server) (c.arrive.ensures.closed (c.in-Err-Closed.is ∙ ap Err c.in-Err-Closed.field-0-is)).1)
