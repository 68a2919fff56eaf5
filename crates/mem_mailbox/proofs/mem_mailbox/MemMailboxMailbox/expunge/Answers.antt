use Rattle.std.proofs.lemmas.Result.{err_from_is_err_and}
use Rattle.outside.specs.MailboxOperations.{removed}
use Rattle.outside.specs.MailboxCalls.{Never}
use Rattle.mem_mailbox.specs.Views.{near_of, store_of}
use Rattle.mem_mailbox.proofs.MemCalls.{ends, fails, turned}
use Rattle.mem_mailbox.proofs.Within.{left_within, same_within}
use Rattle.mem_mailbox.proofs.mem_mailbox.MemMailboxMailbox.expunge.Goals as goal

pub returns-in_err-stops-clause-call : goal.returns-in_err-stops-clause-call
returns-in_err-stops-clause-call g c =
    let p = err_from_is_err_and c.from_residual.result c.from_residual.ensures.1 in
    let m = c.args.self.now in
    rw (p.1, p.2) (fails _ Never _ _ (near_of m.store m.waiting.items) m.condition _ c.begin.new.self c.in_err-stops.ensures.fails)

pub returns-clause-call : goal.returns-clause-call
returns-clause-call g c =
    let m = c.args.self.now in
    let new = c.expunge.new.self in
    ends _ Never _ _ (near_of m.store m.waiting.items) m.condition tt (near_of new m.waiting.items) c.begin.new.self c.end.new.self c.end.result
    c.requires.whole c.in_ok-stops.ensures.same (turned m.store new m.waiting.items (removed c.args.uid) c.expunge.ensures.now) c.end.ensures.ends

pub invariant_of-self-2-clause-within : goal.invariant_of-self-2-clause-within
invariant_of-self-2-clause-within g c =
    let m = c.args.self.now in
    same_within m.keywords _ (store_of c.expunge.new.self) c.expunge.ensures.now (left_within m.keywords c.args.uid (store_of m.store) m.within)
