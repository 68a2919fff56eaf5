use Rattle.std.proofs.Common.{◌≡◌, ◌+◌, inl, inr, refl, arith}
use Rattle.outside.specs.Opened.{journal_of}
use Rattle.runner.specs.Attempts.{AtOpening}
use Rattle.runner.proofs.Attempts.{last_run, reads_last, next_read, next_unread, opening_left, reached_read, run_read}
use Rattle.runner.proofs.PartCalls.{left_call, left_here, line_of_shelf, passed_call, shelf_unrefused, stuck_call, whole_call}
use Rattle.runner.proofs.Readings.{unread_files}
use Rattle.runner.proofs.Validities.{kept_read}
use Rattle.runner.proofs.Finding.{same_read}
use Rattle.runner.specs.Asking.{nothing}
use Rattle.runner.proofs.Asking.{asks_reading}
use Rattle.runner.proofs.settle.next_run.Goals as goal

pub returns-then-last-clause-part : goal.returns-then-last-clause-part
returns-then-last-clause-part g c =
    let s1 = g.O.Outside.seen c.open_book.new.self in
    let last = c.state.result.now in
    left_here _ _ (λ d. (last.run + 1 ≡ g.opening.world.state.run + 1) × AtOpening g.opening d) _ 0 _ _ s1 (passed_call _ _ _ _ _ _ _ _ _ _ _ c.in-Ok.ensures.call (λ m at a own. run_read g.opening _ last _ m s1.device c.state.ensures.state at a own.0 own.1))
    (inr (inl (refl, (reads_last _ last c.state.ensures.state (omega (arith, c.if-last.true)), λ honest. let w = c.in-Ok.ensures.call in let acts = w.acts in let l = acts.effect honest in last_run _ last l.mid s1.device c.state.ensures.state l.following.0 l.following.1 (omega (arith, c.if-last.true))))))
    (λ k. let o = k.1 in let r = o.room in omega (arith, k.0, r, c.if-last.true))

pub returns-else-last-clause-part : goal.returns-else-last-clause-part
returns-else-last-clause-part g c =
    let s1 = g.O.Outside.seen c.open_book.new.self in
    passed_call _ _ _ _ _ _ _ _ _ _ _ c.in-Ok.ensures.call (λ m at a own. run_read g.opening _ c.state.result.now _ m s1.device c.state.ensures.state at a own.0 own.1)

pub returns-in-Err-clause-part : goal.returns-in-Err-clause-part
returns-in-Err-clause-part g c =
    let s1 = g.O.Outside.seen c.open_book.new.self in
    rw c.call_fault.ensures (left_call _ _ _ _ _ _ _ _ _ _ _ (shelf_unrefused _) c.in-Err.ensures.call
    (λ reported. line_of_shelf _ (λ honest. let w = c.in-Err.ensures.call in let acts = w.acts in let l = acts.left honest in unread_files c.in-Err.fault l.mid s1.device l.following.0 l.following.1))
    (λ m at a own reported. opening_left g.opening c.in-Err.fault _ m s1.device at a own.0 own.1 reported))

pub returns-else-last-clause-number : goal.returns-else-last-clause-number
returns-else-last-clause-number g c = λ honest.
    let w = c.in-Ok.ensures.call in
    let acts = w.acts in
    let e = acts.effect honest in
    let following = e.following in
    reached_read _ c.state.result.now e.mid _ c.state.ensures.state following.0 following.1

pub returns-else-last-clause-kept : goal.returns-else-last-clause-kept
returns-else-last-clause-kept g c = λ honest.
    let w = c.in-Ok.ensures.call in
    let acts = w.acts in
    let e = acts.effect honest in
    kept_read g.O.Outside.ours g.O.Outside.alone _ e.mid _ e.before e.following.0

pub returns-then-last-clause-greatest : goal.returns-then-last-clause-greatest
returns-then-last-clause-greatest g c = λ honest s p held is.
    let w = c.in-Ok.ensures.call in
    let acts = w.acts in
    let e = acts.effect honest in
    (refl, kept_read g.O.Outside.ours g.O.Outside.alone _ e.mid _ e.before e.following.0)

pub returns-else-last-clause-greatest : goal.returns-else-last-clause-greatest
returns-else-last-clause-greatest g c = λ honest s p held is.
    let w = c.in-Ok.ensures.call in
    let acts = w.acts in
    let e = acts.effect honest in
    let last = c.state.result.now in
    let n = (next_read g.O.Outside.ours g.O.Outside.alone _ last _ e.mid _ c.state.ensures.state e.before e.following.0 e.following.1 s p held).0 in
    absurd (omega (arith, n, is, c.if-last.false))

pub returns-in-Err-clause-greatest : goal.returns-in-Err-clause-greatest
returns-in-Err-clause-greatest g c = λ honest s p held is.
    let w = c.in-Err.ensures.call in
    let acts = w.acts in
    let counts = w.counts in
    let l = acts.left honest in
    rw c.call_fault.ensures (next_unread g.O.Outside.ours g.O.Outside.alone c.in-Err.fault _ l.mid _ l.before l.following.0 l.following.1 counts.reported s p held)

pub returns-then-last-clause-stuck : goal.returns-then-last-clause-stuck
returns-then-last-clause-stuck g c = λ b. absurd (whole_call _ _ _ _ _ _ _ _ _ c.in-Ok.ensures.call b)

pub returns-else-last-clause-stuck : goal.returns-else-last-clause-stuck
returns-else-last-clause-stuck g c = λ b. absurd (whole_call _ _ _ _ _ _ _ _ _ c.in-Ok.ensures.call b)

pub returns-in-Err-clause-stuck : goal.returns-in-Err-clause-stuck
returns-in-Err-clause-stuck g c = λ b. rw c.call_fault.ensures (stuck_call _ _ _ _ _ _ _ _ c.in-Err.fault c.in-Err.ensures.call b)

pub returns-else-last-clause-same : goal.returns-else-last-clause-same
returns-else-last-clause-same g c = λ honest.
    let w = c.in-Ok.ensures.call in
    let acts = w.acts in
    let e = acts.effect honest in
    same_read g.O.Outside.ours g.O.Outside.alone _ e.mid _ e.before (e.following).0

pub returns-then-last-clause-asked : goal.returns-then-last-clause-asked
returns-then-last-clause-asked g c = asks_reading g.O.Outside.noted nothing (journal_of (g.O.Outside.opened c.open_book.new.self)) _ _ c.open_book.ensures.asked

pub returns-else-last-clause-asked : goal.returns-else-last-clause-asked
returns-else-last-clause-asked g c = asks_reading g.O.Outside.noted nothing (journal_of (g.O.Outside.opened c.open_book.new.self)) _ _ c.open_book.ensures.asked

pub returns-in-Err-clause-asked : goal.returns-in-Err-clause-asked
returns-in-Err-clause-asked g c = asks_reading g.O.Outside.noted nothing (journal_of (g.O.Outside.opened c.open_book.new.self)) _ _ c.open_book.ensures.asked
