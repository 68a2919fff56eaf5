use Rattle.std.proofs.Common.{◌+◌, take, get_or, refl, arith, get_or}
use Rattle.imap_server.proofs.LastBytes.{passed_none, passed_more, passed_end, next_taken}
use Rattle.imap_server.proofs.dropped.Dropped.pass.Goals as goal
use Rattle.imap_server.proofs.dropped.Dropped.pass.Goals.{else-b-eq10-via-then-b-eq10+else-self-eq13, else-b-eq10-via-else-b-eq10}

pub loop-i-init : goal.loop-i-init
loop-i-init c = (passed_none c.args.self.now.last, refl)

pub loop-i-preserved : goal.loop-i-preserved
loop-i-preserved c =
    let bytes = c.args.bytes.now in
    let i = c.loop-i.i in (
      passed_more c.args.self.now.last (take i bytes) c.loop-i.self.last (take (i + 1) bytes) (get_or bytes i 0) c.loop-i.invariant.0 (next_taken bytes i c.loop-i-test.true)
          (λ ten cr. elim c.else-b-eq10.branch [
            | else-b-eq10-via-then-b-eq10+else-self-eq13 w ↦ w.if-self-eq13.false cr
            | else-b-eq10-via-else-b-eq10 w ↦ w.if-b-eq10.false ten
          ]),
      c.loop-i.invariant.1,
    )

pub returns-then-self-eq13-clause-passes : goal.returns-then-self-eq13-clause-passes
returns-then-self-eq13-clause-passes c =
    let bytes = c.args.bytes.now in
    let i = c.loop-i.i in
    passed_end c.args.self.now.last (take i bytes) bytes c.loop-i.self.last (get_or bytes i 0) (i + 1) c.loop-i.invariant.0 (let t = c.loop-i-test.true in omega (arith, t)) (next_taken bytes i c.loop-i-test.true) c.if-b-eq10.true c.if-self-eq13.true

pub returns-then-self-eq13-clause-same : goal.returns-then-self-eq13-clause-same
returns-then-self-eq13-clause-same c = c.loop-i.invariant.1
