use Rattle.std.proofs.Common.{◌∙◌, ap, length, arith}
use Rattle.std.proofs.lemmas.List.{length-map}
use Rattle.std.proofs.lemmas.Result.{err_from_is_err_and}
use Rattle.std.specs.Prelude.{true}
use Rattle.outside.specs.MailboxOperations.{NoRoom, is_full}
use Rattle.outside.proofs.Admitted.{admits_all}
use Rattle.mem_mailbox.specs.Views.{near_of, waiting_of}
use Rattle.mem_mailbox.proofs.MemCalls.{ends, fails, full, lacks}
use Rattle.mem_mailbox.proofs.Within.{admitted_within, stays_within}
use Rattle.mem_mailbox.proofs.mem_mailbox.MemMailboxMailbox.admit.Goals as goal

pub returns-in_err-stops-clause-call : goal.returns-in_err-stops-clause-call
returns-in_err-stops-clause-call g c =
    let p = err_from_is_err_and c.from_residual.result c.from_residual.ensures.1 in
    let m = c.args.self.now in
    rw (p.1, p.2) (fails _ (NoRoom g.K.BoxKind.of (λ n. length n.waiting)) _ _ (near_of m.store m.waiting.items) m.condition _ c.begin.new.self c.in_err-stops.ensures.fails)

pub returns-in_default-clause-call : goal.returns-in_default-clause-call
returns-in_default-clause-call g c =
    let m = c.args.self.now in
    let b = near_of m.store m.waiting.items in
    full g.K.BoxKind.of (λ n. length n.waiting) _ _ b m.condition c.begin.new.self c.is_full.result (c.is_full.ensures ∙ ap is_full c.side.ensures)
    (omega (arith, c.in_default.ensures, c.next.ensures, c.len.ensures, length-map m.waiting.items waiting_of)) c.in_ok-stops.ensures.same

pub returns-in_default-admit-clause-call : goal.returns-in_default-admit-clause-call
returns-in_default-admit-clause-call g c =
    let m = c.args.self.now in
    let b = near_of m.store m.waiting.items in
    rw c.lack.ensures.fault (lacks _ (NoRoom g.K.BoxKind.of (λ n. length n.waiting)) _ _ b m.condition (near_of c.admit.new.store c.admit.new.waiting.items) c.begin.new.self c.lack.new.self c.in_default-admit.ensures.err c.in_ok-stops.ensures.same c.lack.ensures.now)

pub returns-clause-call : goal.returns-clause-call
returns-clause-call g c =
    let m = c.args.self.now in
    let b = near_of m.store m.waiting.items in
    ends _ (NoRoom g.K.BoxKind.of (λ n. length n.waiting)) _ _ b m.condition tt (near_of c.admit.new.store c.admit.new.waiting.items) c.begin.new.self c.end.new.self c.end.result
    c.requires.whole c.in_ok-stops.ensures.same (admits_all true b _ c.in-Ok.ensures.ok) c.end.ensures.ends

pub invariant_of-self-in_default-admit : goal.invariant_of-self-in_default-admit
invariant_of-self-in_default-admit g c =
    let m = c.args.self.now in
    let both = stays_within m.keywords m.store c.admit.new.store m.waiting.items c.admit.new.waiting.items c.in_default-admit.ensures.err m.within m.waiting_within in
    record { within = both.0; waiting_within = both.1 }

pub invariant_of-self-2 : goal.invariant_of-self-2
invariant_of-self-2 g c =
    let m = c.args.self.now in
    let both = admitted_within m.keywords m.store c.admit.new.store m.waiting.items c.admit.new.waiting.items c.in-Ok.ensures.ok m.within m.waiting_within in
    record { within = both.0; waiting_within = both.1 }
