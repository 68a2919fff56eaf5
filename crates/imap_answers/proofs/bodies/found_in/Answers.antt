use Rattle.imap_answers.proofs.Placed.{in_bytes}
use Rattle.imap_answers.proofs.bodies.found_in.Goals as goal

pub returns-in-Some : goal.returns-in-Some
returns-in-Some c = in_bytes c.args.bytes.now c.args.octets.now c.args.start _ c.in-Some.place c.in-Some.ensures.0 c.in-Some.ensures.1
