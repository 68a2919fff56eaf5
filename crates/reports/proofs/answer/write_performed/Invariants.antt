use Rattle.std.proofs.Common.{◌≡◌, ◌++◌, take, string_bytes}
use Rattle.std.specs.List.{flat_map}
use Rattle.reports.specs.Answers.{performed_row}
use Rattle.reports.proofs.answer.write_performed.Given as goal

-- the lines of the steps so far are there
abbrev pub invariant-loop-one : goal.invariant-loop-one
invariant-loop-one l =
    string_bytes l.text ≡ string_bytes l.initial.text ++ flat_map performed_row (take l.one-index l.performed)
