use Rattle.std.proofs.Common.{◌≡◌, ℕ, ◌<◌, false, List, get_or}
use Rattle.std.specs.HashSet.{contains}
use Rattle.std.specs.Str.{bytes_eq}
use Rattle.mailcore.proofs.passed_marks.PassedMarks.pass_all.Given as goal

abbrev pub invariant-loop-mark : goal.invariant-loop-mark
invariant-loop-mark l = record {
  from : l.self.from ≡ l.initial.self.from;
  below : l.self.below ≡ l.initial.self.below;
  noted : (other : List ℕ) → contains bytes_eq l.self.marks other ≡ false
      → (contains bytes_eq l.initial.self.marks other ≡ false) × ((k : ℕ) (d : List ℕ) → k < l.mark-index → bytes_eq (get_or l.marks k d) other ≡ false);
}
