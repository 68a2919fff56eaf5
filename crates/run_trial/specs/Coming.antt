-- When something comes, and what it is: the words of its line after `arrive`.
use Rattle.std.specs.Prelude.{◌≡◌, ℕ, List, [], ◌∷◌, codes}
use Rattle.mailcore.specs.Words.{flags_word, side_word}
use Rattle.run_trial.specs.declared.arrival.Coming.{Coming}
use Rattle.run_trial.specs.CourseLines.{IsCount, spaced}

pub record IsComing (text : List ℕ) (coming : Coming) : Type 0 where
  pub number : List ℕ
  pub counts : IsCount coming.number number
  pub words : text ≡ spaced (side_word coming.side ∷ codes "before" ∷ coming.call.now ∷ number ∷ flags_word coming.flags ∷ coming.text.now ∷ [])
