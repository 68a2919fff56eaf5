-- What stores answer of the run over the mailbox that was opened last.
use Rattle.std.specs.Prelude.{List, [], ◌∷◌, ◌++◌, Option, String, option_map}
use Rattle.std.specs.Global.{Global}
use Rattle.channels.specs.declared.stop_cause.StopCause.{StopCause}

-- what stopped it, if that is known; and the paths of the near files that it left out
pub data Answered : Type 0 where
  CauseAnswered : (cause : Option StopCause) → Answered
  PathsAnswered : (paths : List (String Global)) → Answered

-- one answer more, of stores whose answers are known
abbrev pub with_answer : Option (List Answered) → Answered → Option (List Answered)
with_answer answers answer = option_map (λ earlier. earlier ++ answer ∷ []) answers
