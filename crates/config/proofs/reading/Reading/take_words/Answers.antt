use Rattle.std.proofs.Common.{arith, ap}
use Rattle.config.specs.declared.draft.Draft.{Draft}
use Rattle.config.specs.Drafts.{standing_of}
use Rattle.config.proofs.ReadingLemmas.{noted}
use Rattle.config.proofs.PartedLemmas.{some_first}
use Rattle.config.proofs.ViewLemmas.{drawn_words}
use Rattle.config.proofs.reading.Reading.take_words.Goals as goal

pub returns-in_default : goal.returns-in_default
returns-in_default c = record {
  read = c.note.ensures.read c.args.number (record { begun = c.requires.read.begun; first = c.requires.read.first; members = c.in-Err.ensures.lines c.args.number (c.requires.counted, omega arith) c.requires.read.members })
      (c.requires.counted, omega arith);
  outlined = λ o is.
      noted o (c.args.keyword.now, c.args.arguments.now) c.args.number c.in-Err.kind c.args.self.now c.note.new.self (standing_of c.read.new.self) is
      c.in-Err.ensures.standing c.in_default.not-NoMemory (ap (λ (d : Draft). standing_of d) c.note.ensures.draft) c.note.ensures.first;
  meant = λ p knows none. absurd (some_first c.note.ensures.first none);
  took = λ none. absurd (some_first c.note.ensures.first none);
}

pub returns-in-Ok-clause-meant : goal.returns-in-Ok-clause-meant
returns-in-Ok-clause-meant c = λ p knows none.
    drawn_words p (c.args.keyword.now, c.args.arguments.now) c.args.self.now.draft c.read.new.self (knows none).draft c.in-Ok.ensures.view c.in-Ok.ensures.titled
    c.in-Ok.ensures.unmixed

pub returns-in-Ok-clause-read : goal.returns-in-Ok-clause-read
returns-in-Ok-clause-read c = record {
  begun = c.requires.read.begun;
  first = c.requires.read.first;
  members = c.in-Ok.ensures.lines c.args.number (c.requires.counted, omega arith) c.requires.read.members;
}

pub returns-in-Ok-clause-took : goal.returns-in-Ok-clause-took
returns-in-Ok-clause-took c = λ none. (none, c.in-Ok.ensures.accepted)
