use Rattle.std.proofs.Common.{rules}
use Rattle.imap_answers.proofs.Placed.{next_within}
use Rattle.imap_answers.proofs.bodies.next_place.Goals as goal

pub overflow_add-result : goal.overflow_add-result
overflow_add-result c = let within = next_within c.args.done c.args.scanner.now c.args.text.now c.in_ok-count.count c.requires c.in_ok-count.ensures.place in search rules

pub returns : goal.returns
returns c = next_within c.args.done c.args.scanner.now c.args.text.now c.in_ok-count.count c.requires c.in_ok-count.ensures.place
