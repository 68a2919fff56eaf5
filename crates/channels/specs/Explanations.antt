-- What the lines of an answer do not say.
use Rattle.std.specs.Prelude.{ℕ, Bool, true, false, List, [], ◌∷◌, ◌++◌, codes}
use Rattle.std.specs.List.{list_any}
use Rattle.mailcore.specs.declared.side.Side.{Side}
use Rattle.mailcore.specs.declared.side.Side.TheVariants.{Far, Near}
use Rattle.runner.specs.declared.pass.Pass.{Pass}
use Rattle.runner.specs.declared.pass.Pass.TheVariants as answer
use Rattle.channels.specs.Outcomes.{has_void}
use Rattle.channels.specs.declared.explanation.Explanation.{Explanation}
use Rattle.channels.specs.declared.explanation.Explanation.TheVariants.{Unfit, Void, Finished}

abbrev pub explanation_text : Explanation → List ℕ
explanation_text (Unfit Far) = codes "mbsync: unfit far: more than 16777216 bytes, so it stays there alone"
explanation_text (Unfit Near) = codes "mbsync: unfit near: a NUL, or more than 16777216 bytes with line ends CR LF, so it stays there alone"
explanation_text Void = codes "mbsync: void: gone, or not fit, when it was fetched; it is not copied later either"
explanation_text Finished = codes "mbsync: finished the interrupted run; run again for later changes"

abbrev pub explanation_line : Explanation → List ℕ
explanation_line explanation = explanation_text explanation ++ 10 ∷ []

-- ---- which are given

abbrev pub is_of : Side → Side × ℕ → Bool
is_of Far (Far, uid) = true
is_of Far (Near, uid) = false
is_of Near (Far, uid) = false
is_of Near (Near, uid) = true

-- a message of this side was skipped since it is not fit
abbrev pub has_unfit : Side → Pass → Bool
has_unfit side answer.Already = false
has_unfit side (answer.Ran steps unfit) = list_any (is_of side) unfit.items
has_unfit side (answer.Finished steps) = false

abbrev pub is_finished : Pass → Bool
is_finished answer.Already = false
is_finished (answer.Ran steps unfit) = false
is_finished (answer.Finished steps) = true

abbrev pub given : Bool → Explanation → List Explanation
given true explanation = explanation ∷ []
given false explanation = []

-- each once, where it applies
abbrev pub explanations : Pass → List Explanation
explanations pass =
    given (has_unfit Far pass) (Unfit Far) ++ given (has_unfit Near pass) (Unfit Near) ++ given (has_void pass) Void ++ given (is_finished pass) Finished
