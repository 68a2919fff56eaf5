-- What the lines of a trial say that stand after its world (docs/FORMATS.md, "Trial").
use Rattle.std.specs.Prelude.{◌≡◌, ◌⊎◌, ◌+◌, ◌<◌, ◌^◌, ◌++◌, ℕ, List, [], ◌∷◌, None, codes, decimal}
use Rattle.texts.specs.Lines.{IsLine}
use Rattle.worlds.specs.OptionsText.{IsHead}
use Rattle.worlds.specs.WorldText.{text_from_far}
use Rattle.worlds.specs.Worlds.{world_of}
use Rattle.run_trial.specs.declared.trial.Trial.{Trial}
use Rattle.run_trial.specs.declared.trial.TrialCourse.{TrialCourse}
use Rattle.run_trial.specs.Acting.{NobodyActs}
use Rattle.run_trial.specs.CourseLines.{AllSay, nothing, said_in}

-- whole lines, of which the last one ends in LF
abbrev pub AreLines : List ℕ → Type 0
AreLines text = (text ≡ []) ⊎ ((most : List ℕ) × (text ≡ most ++ 10 ∷ []))

-- no line of a text begins so
abbrev pub LacksLine : (start text : List ℕ) → Type 0
LacksLine start text = (before here line following : List ℕ) → AreLines before → text ≡ before ++ here → ¬ IsLine start line following here

-- a line has no such beginning
abbrev pub LacksStart : (start line : List ℕ) → Type 0
LacksStart start line = (rest : List ℕ) → ¬ (line ≡ start ++ rest)

-- the first line of a course has the number of attempts, a decimal number; the greatest of its type stands for greater ones too
pub record HasTries (tries : ℕ) (following course : List ℕ) : Type 0 where
  pub number : List ℕ
  pub line : IsLine (codes "tries ") number following course
  pub spelled : tries + 1 < 2 ^ 32 → decimal tries ≡ number

-- This is what a course says: its first line the attempts, each other line one thing. If none of these says that there is a journal, there is
-- none; if none says that something arrives, nothing does; and if none says that other clients flag or remove a message, none does.
pub record IsCourse (said : TrialCourse) (course : List ℕ) : Type 0 where
  pub following : List ℕ
  pub tries : HasTries said.tries following course
  pub lines : AllSay following nothing (said_in said)
  pub journal : LacksLine (codes "journal ") following → said.journal ≡ None
  pub far : LacksLine (codes "arrive ") following → said.arrivals.far.items ≡ []
  pub near : LacksLine (codes "arrive ") following → said.arrivals.near.items ≡ []
  pub acts : LacksLine (codes "flag ") following → LacksLine (codes "remove ") following → NobodyActs said.acts

-- a text is that of a trial: after its world stands its course
pub record IsTextOf (trial : Trial) (text : List ℕ) : Type 0 where
  pub course : List ℕ
  pub head : IsHead trial.world.options (text_from_far (world_of trial.world) ++ course) text
  pub says : IsCourse trial.course course
