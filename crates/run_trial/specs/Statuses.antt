-- The exit statuses of a program that reports nothing.
use Rattle.std.specs.Prelude.{ℕ}
use Rattle.run_trial.specs.declared.failure.TrialError.{TrialError}
use Rattle.run_trial.specs.declared.failure.TrialError.TheVariants.{Usage, Input, World, NoWorld, NoMemory}

-- 2 for what the caller has given: the arguments, and the text
abbrev pub failure_status : TrialError → ℕ
failure_status Usage = 2
failure_status Input = 1
failure_status (World line) = 2
failure_status NoWorld = 1
failure_status NoMemory = 1
