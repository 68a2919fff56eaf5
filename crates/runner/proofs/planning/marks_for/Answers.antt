use Rattle.std.proofs.Common.{refl}
use Rattle.runner.proofs.PlanFacts.{moved_pairs, moved_same}
use Rattle.runner.proofs.planning.marks_for.Goals as goal

pub returns-in-Err-NoMemory-clause-moved : goal.returns-in-Err-NoMemory-clause-moved
returns-in-Err-NoMemory-clause-moved g c = let e = c.in-Err-NoMemory.ensures in moved_same _ _ (e.no_memory (rw c.in-Err-NoMemory.field-0-is refl))

pub returns-in-Err-MarksRepeat-clause-moved : goal.returns-in-Err-MarksRepeat-clause-moved
returns-in-Err-MarksRepeat-clause-moved g c = let e = c.in-Err-MarksRepeat.ensures in moved_pairs _ _ _ (e.repeats (rw c.in-Err-MarksRepeat.field-0-is refl))

pub returns-in-Err-MarksRepeat-clause-repeats : goal.returns-in-Err-MarksRepeat-clause-repeats
returns-in-Err-MarksRepeat-clause-repeats g c = λ is.
    let e = c.in-Err-MarksRepeat.ensures in
    let n = c.news-count.ensures in
    rw (← n.counted) (record { few = n.few; repeats = (e.repeats (rw c.in-Err-MarksRepeat.field-0-is refl)).0 })
