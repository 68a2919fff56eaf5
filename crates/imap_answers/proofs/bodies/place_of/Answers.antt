use Rattle.imap_answers.proofs.Placed.{octets_at}
use Rattle.imap_answers.proofs.bodies.place_of.Goals as goal

pub returns-then-starts_with : goal.returns-then-starts_with
returns-then-starts_with c = (c.in_ok-done.ensures, octets_at c.args.text.now c.args.octets.now c.in_ok-done.done c.starts_with.result c.starts_with.ensures.value c.if-starts_with.true)
