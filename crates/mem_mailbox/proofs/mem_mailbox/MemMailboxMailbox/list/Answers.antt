use Rattle.std.proofs.Common.{refl}
use Rattle.std.proofs.lemmas.Result.{err_from_is_err_and}
use Rattle.mailcore.specs.Spared.{spares}
use Rattle.outside.specs.MailboxCalls.{Never}
use Rattle.mem_mailbox.specs.Views.{near_of, store_of}
use Rattle.mem_mailbox.proofs.MemCalls.{ends, fails, lacks, lists}
use Rattle.mem_mailbox.proofs.Within.{ends_within, listed_within}
use Rattle.mem_mailbox.proofs.mem_mailbox.MemMailboxMailbox.list.Goals as goal

pub returns-in_err-stops-clause-call : goal.returns-in_err-stops-clause-call
returns-in_err-stops-clause-call g c =
    let p = err_from_is_err_and c.from_residual.result c.from_residual.ensures.1 in
    let m = c.args.self.now in
    rw (p.1, p.2) (fails _ Never _ _ (near_of m.store m.waiting.items) m.condition _ c.begin.new.self c.in_err-stops.ensures.fails)

pub returns-in_default-clause-call : goal.returns-in_default-clause-call
returns-in_default-clause-call g c =
    let m = c.args.self.now in
    let b = near_of m.store m.waiting.items in
    rw c.lack.ensures.fault (lacks _ Never _ _ b m.condition b c.begin.new.self c.lack.new.self refl c.in_ok-stops.ensures.same c.lack.ensures.now)

pub returns-clause-call : goal.returns-clause-call
returns-clause-call g c =
    let m = c.args.self.now in
    let b = near_of m.store m.waiting.items in
    ends _ Never _ _ b m.condition c.in-Ok.listing b c.begin.new.self c.end.new.self c.end.result
    c.requires.whole c.in_ok-stops.ensures.same (refl, lists g.K.BoxKind.of b.store.next (spares c.args.spared.now) b c.in-Ok.listing (rw c.side.ensures at c.in-Ok.ensures.shows)) c.end.ensures.ends

pub returns-clause-within : goal.returns-clause-within
returns-clause-within g c = λ honest.
    let m = c.args.self.now in
    ends_within m.keywords c.in-Ok.listing c.end.result _ _ c.end.ensures.ends (listed_within m.keywords c.side.result (spares c.args.spared.now) (store_of m.store) c.in-Ok.listing m.within c.in-Ok.ensures.shows)
