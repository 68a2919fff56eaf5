use Rattle.std.proofs.Common.{false}
use Rattle.book.specs.declared.book.Pending.TheVariants.{Missing}
use Rattle.outside.specs.Opened.{turned}
use Rattle.run_states.specs.Conditions.{Underway}
use Rattle.runner.proofs.PartCalls.{book_unrefused, from_book, left_call, line_of_book, passed_call}
use Rattle.runner.proofs.Begun.{clear_underway}
use Rattle.runner.proofs.Readings.{emptied, half_forgot, known_arrives, none_known, none_taken}
use Rattle.runner.proofs.Stages.{left_by}
use Rattle.runner.proofs.Validities.{emptied_validities}
use Rattle.runner.proofs.opening.empty.Goals as goal

pub discard-requires : goal.discard-requires
discard-requires g c = record { takes = none_taken (g.O.Outside.opened c.args.outside.now) c.requires.1 }

pub returns-in-Ok-clause-part : goal.returns-in-Ok-clause-part
returns-in-Ok-clause-part g c =
    let s1 = g.O.Outside.seen c.discard.new.self in
    rw c.in-Ok.ensures.opened (passed_call _ _ _ _ _ _ _ _ _ _ _ c.in-Ok.ensures.call (λ m at a own. emptied g.opening _ _ m s1.device c.requires.1 a at own))

pub returns-in-Err-clause-part : goal.returns-in-Err-clause-part
returns-in-Err-clause-part g c =
    let opened = g.O.Outside.opened c.args.outside.now in
    let s1 = g.O.Outside.seen c.discard.new.self in
    rw c.call_fault.ensures (left_call _ _ _ _ _ _ _ _ _ _ _ (book_unrefused _) c.in-Err.ensures.call (line_of_book _) (λ m at a own reported. (
      from_book c.in-Err.fault reported,
      left_by (Underway g.opening) _ _ c.in-Err.fault m s1.device own
          (let k = known_arrives g.opening opened _ m a (none_known g.opening opened _ at) in k.underway)
          (half_forgot g.opening opened _ m s1.device c.requires.1 a (none_known g.opening opened _ at))
          (λ x t. clear_underway g.opening (turned (λ _. Missing) opened) false s1.device (emptied g.opening opened _ m s1.device c.requires.1 a at t)),
    )))

pub returns-in-Ok-clause-validities : goal.returns-in-Ok-clause-validities
returns-in-Ok-clause-validities g c = λ honest. let w = c.in-Ok.ensures.call in let acts = w.acts in let e = acts.effect honest in emptied_validities g.O.Outside.ours g.O.Outside.alone _ _ e.mid _ c.requires.1 e.before e.following
