use Rattle.wire_reader.proofs.Scanned.{nul_before}
use Rattle.wire_reader.proofs.scanner.to_nul.Goals as goal

pub returns-in-Some : goal.returns-in-Some
returns-in-Some c = nul_before c.args.octets.now c.in-Some.at c.in-Some.ensures
