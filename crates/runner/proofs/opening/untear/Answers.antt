use Rattle.std.proofs.Common.{true}
use Rattle.book.specs.Books.{mended}
use Rattle.outside.specs.Opened.{turned}
use Rattle.run_states.specs.Conditions.{Underway}
use Rattle.runner.proofs.PartCalls.{book_unrefused, from_book, left_call, line_of_book, passed_call}
use Rattle.runner.proofs.Readings.{half_untorn, known_arrives, plan_read, taken_known, untorn}
use Rattle.runner.proofs.Stages.{left_by, ready_underway}
use Rattle.runner.proofs.Finding.{same_mended}
use Rattle.runner.proofs.opening.untear.Goals as goal

pub mend-requires : goal.mend-requires
mend-requires g c = record { read = plan_read (g.O.Outside.opened c.args.outside.now) c.requires.1 }

pub returns-in-Ok-clause-part : goal.returns-in-Ok-clause-part
returns-in-Ok-clause-part g c =
    let s1 = g.O.Outside.seen c.mend.new.self in
    rw c.in-Ok.ensures.opened (passed_call _ _ _ _ _ _ _ _ _ _ _ c.in-Ok.ensures.call (λ m at a own. untorn g.opening _ _ m s1.device c.requires.1 a at own))

pub returns-in-Err-clause-part : goal.returns-in-Err-clause-part
returns-in-Err-clause-part g c =
    let opened = g.O.Outside.opened c.args.outside.now in
    let s1 = g.O.Outside.seen c.mend.new.self in
    rw c.call_fault.ensures (left_call _ _ _ _ _ _ _ _ _ _ _ (book_unrefused _) c.in-Err.ensures.call (line_of_book _) (λ m at a own reported. (
      from_book c.in-Err.fault reported,
      left_by (Underway g.opening) _ _ c.in-Err.fault m s1.device own
          (let k = known_arrives g.opening opened _ m a (taken_known g.opening opened _ at) in k.underway)
          (half_untorn g.opening opened _ m s1.device c.requires.1 a at)
          (λ x t. ready_underway g.opening (turned mended opened) true s1.device (untorn g.opening opened _ m s1.device c.requires.1 a at t)),
    )))

pub returns-in-Ok-clause-same : goal.returns-in-Ok-clause-same
returns-in-Ok-clause-same g c = λ honest. let w = c.in-Ok.ensures.call in let acts = w.acts in let e = acts.effect honest in same_mended g.O.Outside.ours g.O.Outside.alone (g.O.Outside.opened c.args.outside.now) _ e.mid _ e.before e.following
