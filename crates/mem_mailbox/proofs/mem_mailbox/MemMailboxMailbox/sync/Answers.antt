use Rattle.std.proofs.Common.{◌≡◌, refl}
use Rattle.std.proofs.lemmas.Result.{err_from_is_err_and}
use Rattle.device.specs.Calls.{Nothing}
use Rattle.outside.specs.MailboxCalls.{Never}
use Rattle.mem_mailbox.specs.Views.{near_of}
use Rattle.mem_mailbox.proofs.MemCalls.{answers, ends, stays, stops}
use Rattle.mem_mailbox.proofs.mem_mailbox.MemMailboxMailbox.sync.Goals as goal

pub returns-then-not-self-clause-call : goal.returns-then-not-self-clause-call
returns-then-not-self-clause-call g c =
    let m = c.args.self.now in
    let done : Unit {0} = tt in
    answers _ Never (λ _ b b'. b' ≡ b) Nothing (near_of m.store m.waiting.items) m.condition done (near_of m.store m.waiting.items) c.requires.whole refl

pub returns-in_err-stops-clause-call : goal.returns-in_err-stops-clause-call
returns-in_err-stops-clause-call g c =
    let p = err_from_is_err_and c.from_residual.result c.from_residual.ensures.1 in
    let m = c.args.self.now in
    rw (p.1, p.2) (stops _ Never _ _ (near_of m.store m.waiting.items) m.condition _ c.begin_sync.new.self c.in_err-stops.ensures.stops)

pub returns-clause-call : goal.returns-clause-call
returns-clause-call g c =
    let m = c.args.self.now in
    let new = c.sync.new.self in
    ends _ Never _ _ (near_of m.store m.waiting.items) m.condition tt (near_of new m.waiting.items) c.begin_sync.new.self c.end.new.self c.end.result
    c.requires.whole c.in_ok-stops.ensures.same (stays m.store new m.waiting.items c.sync.ensures.same) c.end.ensures.ends
