use Rattle.std.proofs.Common.{inl, inr}
use Rattle.mailcore.specs.CopyPieces.{text_left}
use Rattle.mailcore.specs.KeywordNames.{kept}
use Rattle.mailcore.specs.Sides.{source, target}
use Rattle.device.specs.Calls.{Nothing}
use Rattle.outside.specs.BoxArrivals as box
use Rattle.outside.specs.MailboxCalls.{HasCause, Never}
use Rattle.outside.specs.MailboxOperations as ops
use Rattle.outside.specs.BoxCalls.{Carry, SetsAside}
use Rattle.run_pair.proofs.BoxCalls.{is_reported}
use Rattle.run_pair.proofs.Carrying.{absent, after_both, after_load, fits_so, made, not_made, read_stays, stays_left, text_so, reported_as, unfit}
use Rattle.run_pair.proofs.copying.copy.Goals as goal

pub returns-in-Ok-false-clause-effect : goal.returns-in-Ok-false-clause-effect
returns-in-Ok-false-clause-effect g c = λ h k ours alone d la lb na nb.
    let dir = c.args.direction in
    let e = (rw c.requires.source at (rw c.in-Ok-false.field-0-test at c.in-Ok-false.ensures.call)).effect h in
    after_load g.A.Mailbox.ours g.B.Mailbox.ours ours g.A.Mailbox.alone g.B.Mailbox.alone alone la lb na nb d dir (g.B.Mailbox.seen c.args.to.now).stored e (λ x r. absent dir c.args.uid (kept (g.B.Mailbox.keywords c.args.to.now) c.args.flags) c.args.mark x (g.A.Mailbox.seen c.load.new.self).stored (g.B.Mailbox.seen c.args.to.now).stored d r.0 r.1)

pub returns-in-Err-clause-effect : goal.returns-in-Err-clause-effect
returns-in-Err-clause-effect g c = λ h k ours alone d la lb na nb.
    let dir = c.args.direction in
    let e = (rw c.requires.source at c.in-Err.ensures.call).left h in
    after_load g.A.Mailbox.ours g.B.Mailbox.ours ours g.A.Mailbox.alone g.B.Mailbox.alone alone la lb na nb d dir (g.B.Mailbox.seen c.args.to.now).stored e (λ x r. stays_left (Carry dir c.args.uid (kept (g.B.Mailbox.keywords c.args.to.now) c.args.flags) c.args.mark) (SetsAside (target dir)) dir c.reported.result x (g.A.Mailbox.seen c.load.new.self).stored (g.B.Mailbox.seen c.args.to.now).stored d (read_stays Never (ops.Loads c.args.uid (g.A.Mailbox.body c.load.new.self)) c.in-Err.fault x (g.A.Mailbox.seen c.load.new.self).stored r))

pub returns-in-Err-clause-why : goal.returns-in-Err-clause-why
returns-in-Err-clause-why g c =
    let dir = c.args.direction in
    let s = g.A.Mailbox.seen c.args.from.now in
    let s' = g.A.Mailbox.seen c.load.new.self in
    let ended = g.A.Mailbox.ended c.args.from.now c.load.new.self in
    let reported_is = reported_as c.in-Err.fault c.reported.ensures c.source.ensures in
    rw reported_is (inl (is_reported (source dir) (g.A.Mailbox.honest c.load.new.self) ended (HasCause ended s s') (box.Arrives (source dir) g.A.Mailbox.ours g.A.Mailbox.alone) Never (ops.Answers (ops.Loads c.args.uid (g.A.Mailbox.body c.load.new.self))) Nothing s s' c.in-Err.fault (λ k. k) (rw c.requires.source at c.in-Err.ensures.call)))

pub returns-then-not-fit-clause-effect : goal.returns-then-not-fit-clause-effect
returns-then-not-fit-clause-effect g c = λ h k ours alone d la lb na nb.
    let dir = c.args.direction in
    let e = (rw c.requires.source at (rw c.in-Ok-true.field-0-test at c.in-Ok-true.ensures.call)).effect h in
    let is_fit = fits_so c.fit.ensures c.source-2.ensures c.body-message.ensures c.if-not-fit.true in
    after_load g.A.Mailbox.ours g.B.Mailbox.ours ours g.A.Mailbox.alone g.B.Mailbox.alone alone la lb na nb d dir (g.B.Mailbox.seen c.args.to.now).stored e (λ x r. unfit dir c.args.uid (kept (g.B.Mailbox.keywords c.args.to.now) c.args.flags) c.args.mark (g.A.Mailbox.body c.load.new.self) x (g.A.Mailbox.seen c.load.new.self).stored (g.B.Mailbox.seen c.args.to.now).stored d r.0 r.1 is_fit)

pub returns-in-Ok-clause-effect : goal.returns-in-Ok-clause-effect
returns-in-Ok-clause-effect g c = λ h k ours alone d la lb na nb.
    let dir = c.args.direction in
    let e = (rw c.requires.source at (rw c.in-Ok-true.field-0-test at c.in-Ok-true.ensures.call)).effect h in
    let a = (rw c.requires.target at c.in-Ok.ensures.call).effect k in
    let is_fit = fits_so c.fit.ensures c.source-2.ensures c.body-message.ensures c.if-not-fit.false in
    let text_is = text_so c.args.mark c.new.ensures c.new-head.ensures.mark c.new-head.ensures.end c.body-message.ensures c.line_end.ensures c.target.ensures in
    after_both g.A.Mailbox.ours g.B.Mailbox.ours ours g.A.Mailbox.alone g.B.Mailbox.alone alone la lb na nb d dir e a (λ x y r w. made dir c.args.uid (kept (g.B.Mailbox.keywords c.args.to.now) c.args.flags) c.args.mark (g.A.Mailbox.body c.load.new.self) (text_left c.new.result) c.in-Ok.copy x (g.A.Mailbox.seen c.load.new.self).stored y (g.B.Mailbox.seen c.append_copy.new.self).stored d r.0 r.1 is_fit text_is w)

pub returns-in-Err-append_copy-clause-effect : goal.returns-in-Err-append_copy-clause-effect
returns-in-Err-append_copy-clause-effect g c = λ h k ours alone d la lb na nb.
    let dir = c.args.direction in
    let e = (rw c.requires.source at (rw c.in-Ok-true.field-0-test at c.in-Ok-true.ensures.call)).effect h in
    let a = (rw c.requires.target at c.in-Err-append_copy.ensures.call).left k in
    let is_fit = fits_so c.fit.ensures c.source-2.ensures c.body-message.ensures c.if-not-fit.false in
    let text_is = text_so c.args.mark c.new.ensures c.new-head.ensures.mark c.new-head.ensures.end c.body-message.ensures c.line_end.ensures c.target.ensures in
    let reported_is = reported_as c.in-Err-append_copy.fault c.reported-in-Err-append_copy.ensures c.target-in-Err-append_copy.ensures in
    rw reported_is (after_both g.A.Mailbox.ours g.B.Mailbox.ours ours g.A.Mailbox.alone g.B.Mailbox.alone alone la lb na nb d dir e a (λ x y r w. not_made dir c.args.uid (kept (g.B.Mailbox.keywords c.args.to.now) c.args.flags) c.args.mark (g.A.Mailbox.body c.load.new.self) (text_left c.new.result) (ops.NoRoom (target dir) (λ _. 1)) x (g.A.Mailbox.seen c.load.new.self).stored y (g.B.Mailbox.seen c.append_copy.new.self).stored d c.in-Err-append_copy.fault r.0 r.1 is_fit text_is w))

pub returns-in-Err-append_copy-clause-why : goal.returns-in-Err-append_copy-clause-why
returns-in-Err-append_copy-clause-why g c =
    let dir = c.args.direction in
    let s = g.B.Mailbox.seen c.args.to.now in
    let s' = g.B.Mailbox.seen c.append_copy.new.self in
    let ended = g.B.Mailbox.ended c.args.to.now c.append_copy.new.self in
    let reported_is = reported_as c.in-Err-append_copy.fault c.reported-in-Err-append_copy.ensures c.target-in-Err-append_copy.ensures in
    rw reported_is (inr (is_reported (target dir) (g.B.Mailbox.honest c.append_copy.new.self) ended (HasCause ended s s') (box.Arrives (target dir) g.B.Mailbox.ours g.B.Mailbox.alone) (ops.NoRoom (target dir) (λ _. 1)) (ops.Appends (target dir) (text_left c.new.result) (kept (g.B.Mailbox.keywords c.args.to.now) c.args.flags)) (ops.AppendsPart (target dir)) s s' c.in-Err-append_copy.fault (λ k. k) (rw c.requires.target at c.in-Err-append_copy.ensures.call)))
