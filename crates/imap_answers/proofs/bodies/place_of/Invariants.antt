use Rattle.std.proofs.Common.{◌≤◌, length}
use Rattle.imap_answers.proofs.bodies.place_of.Given as goal

abbrev pub invariant-loop : goal.invariant-loop
invariant-loop l = l.done ≤ length l.text
