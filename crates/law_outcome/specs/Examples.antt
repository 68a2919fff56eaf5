-- What the laws say of the worked examples of rules/specs/AlikeExamples.antt: their premises can be met.
use Rattle.std.specs.Prelude.{true, false, [], ◌∷◌}
use Rattle.rules.specs.Opening.{IsOpening}
use Rattle.rules.specs.Admission.{AreAdmission}
use Rattle.rules.specs.WorldAfter.{outcome}
use Rattle.rules.specs.AlikeBy.{AlikeBy}
use Rattle.rules.specs.Alike.{Alike}
use Rattle.rules.specs.AlikeExamples.{everything, mark, waits, in_turn, late, late_found, cleaned, cleaned_found}

-- a waiting file under another UID than the next one
pub record LateIsAlike : Type 0 where
  pub opening : IsOpening waits
  pub admission : AreAdmission waits (6 ∷ []) 7
  pub lists : AlikeBy late (everything false) late_found
  pub maps : Alike waits in_turn late_found

-- a copy that is deleted where Expunge covers its side
pub record CleanedIsAlike : Type 0 where
  pub opening : IsOpening cleaned
  pub lists : AlikeBy cleaned (everything true) cleaned_found
  pub maps : Alike cleaned (outcome cleaned (everything true) (mark ∷ [])) cleaned_found
