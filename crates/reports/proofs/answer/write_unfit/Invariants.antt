use Rattle.std.proofs.Common.{◌≡◌, ◌++◌, take, string_bytes}
use Rattle.std.specs.List.{flat_map}
use Rattle.reports.specs.Answers.{unfit_row}
use Rattle.reports.proofs.answer.write_unfit.Given as goal

-- the lines of the messages so far are there
abbrev pub invariant-loop-side : goal.invariant-loop-side
invariant-loop-side l =
    string_bytes l.text ≡ string_bytes l.initial.text ++ flat_map unfit_row (take l.side-index l.unfit)
