-- Whether other clients do anything to messages in a trial, and the words of its line: when something is done, and what stands after that.
use Rattle.std.specs.Prelude.{◌≡◌, ℕ, List, [], ◌∷◌, codes}
use Rattle.mailcore.specs.Words.{side_word}
use Rattle.mem_link.specs.declared.acts.MailboxAct.{MailboxAct}
use Rattle.run_trial.specs.declared.act.Acting.{Acting}
use Rattle.run_trial.specs.declared.act.FarAct.{FarAct}
use Rattle.run_trial.specs.declared.act.TrialActs.{TrialActs}
use Rattle.run_trial.specs.Among.{name_of}
use Rattle.run_trial.specs.CourseLines.{IsCount, spaced}

-- nothing is done
pub record NobodyActs (acts : TrialActs) : Type 0 where
  pub far : acts.far.items ≡ []
  pub near : acts.near.items ≡ []

pub record IsActing (text : List ℕ) (acting : Acting) : Type 0 where
  pub number : List ℕ
  pub counts : IsCount acting.number number
  pub words : text ≡ spaced (side_word acting.side ∷ codes "before" ∷ acting.call.now ∷ number ∷ acting.target.now ∷ [])

-- what a line has another client do is done before the command that the line names
abbrev pub act_of : FarAct → MailboxAct
act_of a = record { at = record { name = name_of a.command; number = a.number }; uid = a.uid; deed = a.deed }
