-- Whether faults were reported.
use Rattle.std.specs.Prelude.{ℕ}
use Rattle.channels.specs.declared.verdict.Verdict.{Verdict}
use Rattle.channels.specs.declared.verdict.Verdict.TheVariants.{Clean, Faulty, Over}

-- a fault that was reported stays reported
abbrev pub both : Verdict → Verdict → Verdict
both verdict Clean = verdict
both verdict Faulty = Faulty
both verdict Over = Over

abbrev pub status_of : Verdict → ℕ
status_of Clean = 0
status_of Faulty = 1
status_of Over = 1
