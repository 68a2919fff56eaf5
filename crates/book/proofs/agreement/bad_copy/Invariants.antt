use Rattle.std.proofs.Common.{◌≡◌, [], not, take}
use Rattle.std.specs.List.{position_from}
use Rattle.book.specs.Agreement.{copies_of, log_agrees}
use Rattle.book.specs.TakenUids.{KnowsTaken}
use Rattle.book.proofs.AgreementLemmas.{left}
use Rattle.book.proofs.agreement.bad_copy.Given as goal

abbrev pub invariant-loop-i : goal.invariant-loop-i
invariant-loop-i l = record {
  first : position_from not 0 (log_agrees l.entries l.steps [] l.steps l.log) ≡ position_from not l.i (left l.entries l.steps l.log l.i);
  knows : KnowsTaken l.entries l.steps (copies_of l.steps (take l.i l.log)) l.taken;
}
