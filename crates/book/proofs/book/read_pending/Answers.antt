use Rattle.std.proofs.Common.{◌≡◌, ◌∙◌, ◌+◌, Some, inr, sym, rules, arith}
use Rattle.book.specs.Agreement.{Agrees, disagreement}
use Rattle.sync_state.specs.JournalReading.{IsWritten}
use Rattle.book.specs.declared.book.Pending.TheVariants.{Planned}
use Rattle.book.proofs.BookLemmas.{holding_fits}
use Rattle.book.proofs.book.read_pending.Goals as goal

pub returns-in-Some-2-clause-refused : goal.returns-in-Some-2-clause-refused
returns-in-Some-2-clause-refused c =
    let written = c.in-Some.written in
    let is : IsWritten written c.args.text.now = search rules in
    let next : written.journal.plan.run ≡ c.args.state.now.run + 1 = omega (arith, c.if-written-state.false, c.if-written-state-2.false) in
    let line : disagreement c.args.state.now.entries written.journal ≡ Some c.in-Some-2.line =
    sym c.in_ok-line.ensures.first ∙ c.in-Some-2.is in
    inr (inr (record { written = written; is_next = record { written_is = is; next = next }; disagrees = line }))

pub returns-in-None-clause-holds : goal.returns-in-None-clause-holds
returns-in-None-clause-holds c =
    let written = c.in-Some.written in
    let is : IsWritten written c.args.text.now = search rules in
    let next : written.journal.plan.run ≡ c.args.state.now.run + 1 = omega (arith, c.if-written-state.false, c.if-written-state-2.false) in
    let agrees : Agrees c.args.state.now.entries written.journal =
    sym c.in_ok-line.ensures.first ∙ c.in-None.is in
    record { is_next = record { written_is = is; next = next }; agrees = agrees }

pub returns-in-None-clause-fits : goal.returns-in-None-clause-fits
returns-in-None-clause-fits c = holding_fits c.args.state.now (Some c.args.text.now) (Planned c.in-Some.written) (returns-in-None-clause-holds c)
