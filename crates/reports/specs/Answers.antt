-- How the answer of a run is reported (docs/FORMATS.md, "Performed lines").
use Rattle.std.specs.Prelude.{ℕ, List, [], ◌∷◌, ◌++◌, codes}
use Rattle.std.specs.Fmt.{decimal}
use Rattle.std.specs.List.{flat_map}
use Rattle.mailcore.specs.declared.side.Side.{Side}
use Rattle.mailcore.specs.Words.{direction_word}
use Rattle.rules.specs.declared.plan.Step.{Step}
use Rattle.rules.specs.declared.plan.Step.TheVariants.{Expunge, Flags, Gone, New}
use Rattle.runner.specs.declared.pass.Pass.{Pass}
use Rattle.runner.specs.declared.pass.Pass.TheVariants.{Already, Ran, Finished}
use Rattle.runner.specs.declared.performed.Performed.{Performed}
use Rattle.runner.specs.declared.performed.StepResult.{StepResult}
use Rattle.runner.specs.declared.performed.StepResult.TheVariants.{Found, Made, Plain, Void}
use Rattle.worlds.specs.PlanLines.{number_text, step_line, unfit_line}

abbrev pub answer_word : Pass → List ℕ
answer_word Already = codes "already"
answer_word (Ran performed unfit) = codes "ran"
answer_word (Finished performed) = codes "finished"

-- a word, and the direction and the source of a new message; no other step copies one
abbrev pub source_text : (word : List ℕ) → Step → List ℕ
source_text word (New direction uid flags mark) = word ++ codes " " ++ direction_word direction ++ number_text uid
source_text word (Gone direction far near) = word ++ codes " " ++ step_line (Gone direction far near)
source_text word (Flags direction far near set cleared) = word ++ codes " " ++ step_line (Flags direction far near set cleared)
source_text word (Expunge side uid) = word ++ codes " " ++ step_line (Expunge side uid)

-- with the UID of the copy
abbrev pub result_text : Step → StepResult → List ℕ
result_text step (Made copy) = step_line step ++ codes " -> " ++ decimal copy
result_text step (Found copy) = source_text (codes "found") step ++ codes " -> " ++ decimal copy
result_text step Void = source_text (codes "void") step
result_text step Plain = step_line step

abbrev pub performed_line : Performed → List ℕ
performed_line performed = result_text performed.step performed.result

-- the steps that were performed
abbrev pub performed_in : Pass → List Performed
performed_in Already = []
performed_in (Ran performed unfit) = performed.items
performed_in (Finished performed) = performed.items

-- the messages that were skipped
abbrev pub unfit_in : Pass → List (Side × ℕ)
unfit_in Already = []
unfit_in (Ran performed unfit) = unfit.items
unfit_in (Finished performed) = []

-- a line with its end
abbrev pub ended : List ℕ → List ℕ
ended line = line ++ 10 ∷ []

abbrev pub performed_row : Performed → List ℕ
performed_row performed = ended (performed_line performed)

abbrev pub unfit_row : Side × ℕ → List ℕ
unfit_row message = ended (unfit_line message.0 message.1)

-- all lines of an answer: of the steps that were performed, of the messages that are not fit to be copied, and the word of the answer
abbrev pub answer_of : Pass → List ℕ
answer_of pass = flat_map performed_row (performed_in pass) ++ flat_map unfit_row (unfit_in pass) ++ ended (answer_word pass)
