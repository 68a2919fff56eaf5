use Rattle.std.proofs.Common.{◌∙◌, ap, Some}
use Rattle.std.proofs.lemmas.Result.{err_from_is_err_and}
use Rattle.mailcore.specs.CopyPieces.{text_left}
use Rattle.mailcore.specs.KeywordNames.{kept}
use Rattle.outside.specs.MailboxOperations.{NoRoom, is_full}
use Rattle.mem_mailbox.specs.Views.{near_of, store_of}
use Rattle.mem_mailbox.proofs.MemCalls.{added_next, ends, fails, full, lacks, stays}
use Rattle.mem_mailbox.proofs.Within.{copy_within, same_within}
use Rattle.mem_mailbox.proofs.mem_mailbox.MemMailboxMailbox.append_copy.Goals as goal

pub returns-in_err-stops-clause-call : goal.returns-in_err-stops-clause-call
returns-in_err-stops-clause-call g c =
    let p = err_from_is_err_and c.from_residual.result c.from_residual.ensures.1 in
    let m = c.args.self.now in
    rw (p.1, p.2) (fails _ (NoRoom g.K.BoxKind.of (λ _. 1)) _ _ (near_of m.store m.waiting.items) m.condition _ c.begin.new.self c.in_err-stops.ensures.fails)

pub returns-in_default-clause-call : goal.returns-in_default-clause-call
returns-in_default-clause-call g c =
    let m = c.args.self.now in
    let b = near_of m.store m.waiting.items in
    full g.K.BoxKind.of (λ _. 1) _ _ b m.condition c.begin.new.self c.is_full.result (c.is_full.ensures ∙ ap is_full c.side.ensures) c.in_default.ensures c.in_ok-stops.ensures.same

pub returns-in_default-add-clause-call : goal.returns-in_default-add-clause-call
returns-in_default-add-clause-call g c =
    let m = c.args.self.now in
    let b = near_of m.store m.waiting.items in
    rw c.lack.ensures.fault (lacks _ (NoRoom g.K.BoxKind.of (λ _. 1)) _ _ b m.condition (near_of c.add.new.self m.waiting.items) c.begin.new.self c.lack.new.self (stays m.store c.add.new.self m.waiting.items c.in_default-add.ensures.err) c.in_ok-stops.ensures.same c.lack.ensures.now)

pub returns-clause-call : goal.returns-clause-call
returns-clause-call g c =
    let m = c.args.self.now in
    let b = near_of m.store m.waiting.items in
    ends _ (NoRoom g.K.BoxKind.of (λ _. 1)) _ _ b m.condition (Some c.in-Some.uid) (near_of c.add.new.self m.waiting.items) c.begin.new.self c.end.new.self c.end.result
    c.requires.whole c.in_ok-stops.ensures.same (added_next g.K.BoxKind.of m.store c.add.new.self m.waiting.items c.in-Some.uid (kept m.keywords c.args.flags) (text_left c.args.copy) c.in-Some.ensures (rw c.kept-flags.ensures at c.in-Ok.ensures.ok)) c.end.ensures.ends

pub invariant_of-self-2-clause-within : goal.invariant_of-self-2-clause-within
invariant_of-self-2-clause-within g c =
    let m = c.args.self.now in
    same_within m.keywords _ (store_of c.add.new.self) (rw c.kept-flags.ensures at c.in-Ok.ensures.ok) (copy_within m.keywords c.in-Some.uid c.args.flags (text_left c.args.copy) (store_of m.store) m.within)
