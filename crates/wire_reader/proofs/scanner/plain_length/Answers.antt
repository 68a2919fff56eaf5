use Rattle.wire_reader.proofs.Plain.{plain_before, plain_whole}
use Rattle.wire_reader.proofs.scanner.plain_length.Goals as goal

pub returns-in-Some-clause-plain : goal.returns-in-Some-clause-plain
returns-in-Some-clause-plain c = plain_before c.args.bytes.now c.in-Some.at c.in-Some.ensures

pub returns-in-None-clause-plain : goal.returns-in-None-clause-plain
returns-in-None-clause-plain c = plain_whole c.args.bytes.now c.in-None.ensures
