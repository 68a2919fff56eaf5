use Rattle.std.proofs.Common.{◌≡◌, ◌⊎◌, ◌++◌, ◌∷◌, [], inl, inr, ◌∙◌, ap, subst, length, ℕ, List}
use Rattle.std.proofs.lemmas.Result.{err_from_is_err_and}
use Rattle.imap_replies.specs.declared.reply.Reply.{Reply}
use Rattle.imap_session.specs.Ends.{Ends, ends_of}
use Rattle.imap_link.specs.Fronts.{IsFaulty}
use Rattle.imap_link.specs.declared.kind.ReplyKind.{ReplyKind}
use Rattle.imap_link.specs.declared.kind.ReplyKind.TheVariants.{Bye, Go, Mine, Stray}
use Rattle.imap_link.specs.ReplyKinds.{kind_of, passes}
use Rattle.imap_link.specs.Sinks.{reporting}
use Rattle.imap_link.specs.Buffers.{Reads, GoesOn}
use Rattle.imap_link.specs.Faults.{IsStop}
use Rattle.imap_link.proofs.Exits.{if_err, only_stop}
use Rattle.imap_link.proofs.Astray.{never_astray, strays}
use Rattle.imap_link.proofs.Passing.{front_of, came_on, passed_here, unread_same}
use Rattle.imap_link.proofs.Late.{bounded_on, bounded_still, left_short}
use Rattle.imap_link.proofs.wire.Wire.wait.Goals as goal
use Rattle.imap_link.proofs.wire.Wire.wait.Goals.{in-Hello, in-Bye+else-not-ends}

pub returns-in_err-kind-clause-fault : goal.returns-in_err-kind-clause-fault
returns-in_err-kind-clause-fault g c =
    let p = err_from_is_err_and c.from_residual.result c.from_residual.ensures.1 in
    let f = c.in_err-kind.field-0.0 in
    let first = ends_of (g.L.Link.line c.args.self.now.link) c.args.self.now.heard.unread in
    let now = ends_of (g.L.Link.line c.loop.self.link) c.loop.self.heard.unread in
    if_err _ c.from_residual.result p.0 f p.1 p.2 (λ honest expects.
    only_stop f now.coming
    (λ faulty. never_astray c.args.tag.now c.args.uses _ c.loop.self.heard.read first now (g.L.Link.honest c.loop.self.link) c.loop.invariant.passed (c.in_err-kind.ensures.was_honest honest) expects (inr faulty))
    (c.in_err-kind.ensures.fault honest))

pub returns-in_err-kind-clause-bounded : goal.returns-in_err-kind-clause-bounded
returns-in_err-kind-clause-bounded g c =
    let p = c.loop.invariant.passed in
    bounded_on c.args.uses (length c.args.self.now.heard.unread) c.loop.self.heard c.hear.new.self.heard p.replies c.loop.invariant.late p.used c.in_err-kind.ensures.late

pub returns-then-not-ends-clause-bounded : goal.returns-then-not-ends-clause-bounded
returns-then-not-ends-clause-bounded g c =
    let p = c.loop.invariant.passed in
    bounded_on c.args.uses (length c.args.self.now.heard.unread) c.loop.self.heard c.hear.new.self.heard p.replies c.loop.invariant.late p.used c.in_ok-kind.ensures.late

pub returns-then-not-ends-clause-stopped : goal.returns-then-not-ends-clause-stopped
returns-then-not-ends-clause-stopped g c stopped =
    let came =
    came_on g.S.ReplySink.took c.args.sink.now c.loop.sink c.hear.new.sink (g.L.Link.honest c.loop.self.link) (g.L.Link.honest c.hear.new.self.link) c.in_ok-kind.ensures.was_honest
    (ends_of (g.L.Link.line c.args.self.now.link) c.args.self.now.heard.unread) (ends_of (g.L.Link.line c.loop.self.link) c.loop.self.heard.unread) (ends_of (g.L.Link.line c.hear.new.self.link) c.hear.new.self.heard.unread)
    c.args.uses c.args.tag.now c.in_ok-kind.kind c.in_ok-kind.is_used c.in_ok-kind.len c.loop.self.heard.read c.hear.new.self.heard.read c.in_ok-kind.ensures.heard c.loop.invariant.passed
    (λ (r : Reply). kind_of c.args.tag.now r ≡ Bye) (c.in_ok-kind.ensures.heard.is ∙ c.in-Bye.is) in
    inr (front_of c.args.uses _ (λ r. kind_of c.args.tag.now r ≡ Bye) c.hear.new.self.heard.read _ came)

pub returns-in-Go-clause-reported : goal.returns-in-Go-clause-reported
returns-in-Go-clause-reported g c =
    let came =
    came_on g.S.ReplySink.took c.args.sink.now c.loop.sink c.hear.new.sink (g.L.Link.honest c.loop.self.link) (g.L.Link.honest c.hear.new.self.link) c.in_ok-kind.ensures.was_honest
    (ends_of (g.L.Link.line c.args.self.now.link) c.args.self.now.heard.unread) (ends_of (g.L.Link.line c.loop.self.link) c.loop.self.heard.unread) (ends_of (g.L.Link.line c.hear.new.self.link) c.hear.new.self.heard.unread)
    c.args.uses c.args.tag.now c.in_ok-kind.kind c.in_ok-kind.is_used c.in_ok-kind.len c.loop.self.heard.read c.hear.new.self.heard.read c.in_ok-kind.ensures.heard c.loop.invariant.passed
    (λ (r : Reply). kind_of c.args.tag.now r ≡ Go) (c.in_ok-kind.ensures.heard.is ∙ c.in-Go.is) in
    front_of c.args.uses _ (λ r. kind_of c.args.tag.now r ≡ Go) c.hear.new.self.heard.read _ came

pub returns-in-Go-clause-came : goal.returns-in-Go-clause-came
returns-in-Go-clause-came g c =
    came_on g.S.ReplySink.took c.args.sink.now c.loop.sink c.hear.new.sink (g.L.Link.honest c.loop.self.link) (g.L.Link.honest c.hear.new.self.link) c.in_ok-kind.ensures.was_honest
    (ends_of (g.L.Link.line c.args.self.now.link) c.args.self.now.heard.unread) (ends_of (g.L.Link.line c.loop.self.link) c.loop.self.heard.unread) (ends_of (g.L.Link.line c.hear.new.self.link) c.hear.new.self.heard.unread)
    c.args.uses c.args.tag.now c.in_ok-kind.kind c.in_ok-kind.is_used c.in_ok-kind.len c.loop.self.heard.read c.hear.new.self.heard.read c.in_ok-kind.ensures.heard c.loop.invariant.passed
    (λ (r : Reply). kind_of c.args.tag.now r ≡ Go) (c.in_ok-kind.ensures.heard.is ∙ c.in-Go.is)

pub returns-in-Go-clause-bounded : goal.returns-in-Go-clause-bounded
returns-in-Go-clause-bounded g c =
    let p = c.loop.invariant.passed in
    bounded_on c.args.uses (length c.args.self.now.heard.unread) c.loop.self.heard c.hear.new.self.heard p.replies c.loop.invariant.late p.used c.in_ok-kind.ensures.late

pub returns-in-Mine-clause-reported : goal.returns-in-Mine-clause-reported
returns-in-Mine-clause-reported g c =
    let came =
    came_on g.S.ReplySink.took c.args.sink.now c.loop.sink c.hear.new.sink (g.L.Link.honest c.loop.self.link) (g.L.Link.honest c.hear.new.self.link) c.in_ok-kind.ensures.was_honest
    (ends_of (g.L.Link.line c.args.self.now.link) c.args.self.now.heard.unread) (ends_of (g.L.Link.line c.loop.self.link) c.loop.self.heard.unread) (ends_of (g.L.Link.line c.hear.new.self.link) c.hear.new.self.heard.unread)
    c.args.uses c.args.tag.now c.in_ok-kind.kind c.in_ok-kind.is_used c.in_ok-kind.len c.loop.self.heard.read c.hear.new.self.heard.read c.in_ok-kind.ensures.heard c.loop.invariant.passed
    (λ (r : Reply). kind_of c.args.tag.now r ≡ Mine c.in-Mine.status) (c.in_ok-kind.ensures.heard.is ∙ c.in-Mine.is) in
    front_of c.args.uses _ (λ r. kind_of c.args.tag.now r ≡ Mine c.in-Mine.status) c.hear.new.self.heard.read _ came

pub returns-in-Mine-clause-came : goal.returns-in-Mine-clause-came
returns-in-Mine-clause-came g c =
    came_on g.S.ReplySink.took c.args.sink.now c.loop.sink c.hear.new.sink (g.L.Link.honest c.loop.self.link) (g.L.Link.honest c.hear.new.self.link) c.in_ok-kind.ensures.was_honest
    (ends_of (g.L.Link.line c.args.self.now.link) c.args.self.now.heard.unread) (ends_of (g.L.Link.line c.loop.self.link) c.loop.self.heard.unread) (ends_of (g.L.Link.line c.hear.new.self.link) c.hear.new.self.heard.unread)
    c.args.uses c.args.tag.now c.in_ok-kind.kind c.in_ok-kind.is_used c.in_ok-kind.len c.loop.self.heard.read c.hear.new.self.heard.read c.in_ok-kind.ensures.heard c.loop.invariant.passed
    (λ (r : Reply). kind_of c.args.tag.now r ≡ Mine c.in-Mine.status) (c.in_ok-kind.ensures.heard.is ∙ c.in-Mine.is)

pub returns-in-Mine-clause-bounded : goal.returns-in-Mine-clause-bounded
returns-in-Mine-clause-bounded g c =
    let p = c.loop.invariant.passed in
    bounded_on c.args.uses (length c.args.self.now.heard.unread) c.loop.self.heard c.hear.new.self.heard p.replies c.loop.invariant.late p.used c.in_ok-kind.ensures.late

pub returns-in-Stray-clause-fault : goal.returns-in-Stray-clause-fault
returns-in-Stray-clause-fault g c honest expects =
    let first = ends_of (g.L.Link.line c.args.self.now.link) c.args.self.now.heard.unread in
    let mid = ends_of (g.L.Link.line c.loop.self.link) c.loop.self.heard.unread in
    let now = ends_of (g.L.Link.line c.hear.new.self.link) c.hear.new.self.heard.unread in
    let stray =
    strays c.args.tag.now c.args.uses c.in_ok-kind.kind c.in_ok-kind.is_used c.in_ok-kind.len _ (g.L.Link.honest c.hear.new.self.link) mid now c.loop.self.heard.read c.hear.new.self.heard.read
    c.in_ok-kind.ensures.heard c.in-Stray.is honest in
    absurd (never_astray c.args.tag.now c.args.uses _ c.loop.self.heard.read first mid (g.L.Link.honest c.loop.self.link) c.loop.invariant.passed (c.in_ok-kind.ensures.was_honest honest) expects stray)

pub returns-in-Stray-clause-bounded : goal.returns-in-Stray-clause-bounded
returns-in-Stray-clause-bounded g c =
    let p = c.loop.invariant.passed in
    bounded_on c.args.uses (length c.args.self.now.heard.unread) c.loop.self.heard c.hear.new.self.heard p.replies c.loop.invariant.late p.used c.in_ok-kind.ensures.late

pub returns-clause-bounded : goal.returns-clause-bounded
returns-clause-bounded g c =
    let p = c.loop.invariant.passed in
    bounded_still c.args.uses (length c.args.self.now.heard.unread) c.loop.self.heard p.replies c.loop.invariant.late p.used

pub loop-preserved : goal.loop-preserved
loop-preserved g c =
    let whole = c.in_ok-kind.ensures.heard.whole in
    let most = length c.args.self.now.heard.unread in
    let heard = c.hear.new.self.heard in
    elim c.match-kind.branch [
      | in-Hello w ↦
          let now = w.keep_or_drop.new.heard in
          let same = unread_same c.in_ok-kind.is_used c.in_ok-kind.len heard now w.keep_or_drop.ensures in
          rw w.self-is (record {
            was_honest = λ h. c.loop.invariant.was_honest (c.in_ok-kind.ensures.was_honest h);
            steady = c.in_ok-kind.ensures.steady ∙ c.loop.invariant.steady;
            late = left_short most c.loop.self.heard heard now c.in_ok-kind.len _ c.loop.invariant.late whole c.in_ok-kind.ensures.late same;
            passed =
                passed_here g.S.ReplySink.took c.args.sink.now c.loop.sink c.hear.new.sink (g.L.Link.honest c.loop.self.link) (g.L.Link.honest c.hear.new.self.link) c.in_ok-kind.ensures.was_honest
                (ends_of (g.L.Link.line c.args.self.now.link) c.args.self.now.heard.unread) (ends_of (g.L.Link.line c.loop.self.link) c.loop.self.heard.unread) (g.L.Link.line c.hear.new.self.link)
                c.args.uses c.args.tag.now c.in_ok-kind.kind c.in_ok-kind.is_used c.in_ok-kind.len c.loop.self.heard.read heard now w.keep_or_drop.ensures c.in_ok-kind.ensures.heard c.loop.invariant.passed (elim w.in-Hello.is [ inl e ↦ ap passes e | inr e ↦ ap passes e ]);
          })
      | in-Bye+else-not-ends w ↦
          let now = w.keep_or_drop-in-Bye.new.heard in
          let same = unread_same c.in_ok-kind.is_used c.in_ok-kind.len heard now w.keep_or_drop-in-Bye.ensures in
          rw w.self-is (record {
            was_honest = λ h. c.loop.invariant.was_honest (c.in_ok-kind.ensures.was_honest h);
            steady = c.in_ok-kind.ensures.steady ∙ c.loop.invariant.steady;
            late = left_short most c.loop.self.heard heard now c.in_ok-kind.len _ c.loop.invariant.late whole c.in_ok-kind.ensures.late same;
            passed =
                passed_here g.S.ReplySink.took c.args.sink.now c.loop.sink c.hear.new.sink (g.L.Link.honest c.loop.self.link) (g.L.Link.honest c.hear.new.self.link) c.in_ok-kind.ensures.was_honest
                (ends_of (g.L.Link.line c.args.self.now.link) c.args.self.now.heard.unread) (ends_of (g.L.Link.line c.loop.self.link) c.loop.self.heard.unread) (g.L.Link.line c.hear.new.self.link)
                c.args.uses c.args.tag.now c.in_ok-kind.kind c.in_ok-kind.is_used c.in_ok-kind.len c.loop.self.heard.read heard now w.keep_or_drop-in-Bye.ensures c.in_ok-kind.ensures.heard c.loop.invariant.passed (ap passes w.in-Bye.is);
          })
    ]
