-- What Sync words choose.
use Rattle.std.proofs.Common.{◌≡◌, ◌==◌, ℕ, List, sym, ap, subst, ◌∙◌}
use Rattle.std.specs.Prelude.{IfSome, Option, Result, Ok, Err}
use Rattle.std.specs.List.{slice_split}
use Rattle.std.specs.Result.{result_ok}
use Rattle.rules.specs.declared.options.Cells.{Cells}
use Rattle.rules.specs.declared.sync_words.SyncFault.{SyncFault}
use Rattle.rules.specs.SyncWords.{sync_cells}
use Rattle.worlds.specs.OptionsText.{cells_in}

-- cells that these words choose
pub cells_of_words : (text : List ℕ) (words : List (List ℕ)) (answer : Result Cells SyncFault) (found : Option Cells) → words ≡ slice_split (λ b. b == 32) text → answer ≡ sync_cells words → found ≡ result_ok answer
    → IfSome found (λ cells. cells_in text ≡ Ok cells)
cells_of_words text words (Ok cells) found split is ok = subst (λ (o : Option Cells). IfSome o (λ c. cells_in text ≡ Ok c)) (sym ok) (ap sync_cells (sym split) ∙ sym is)
cells_of_words text words (Err fault) found split is ok = subst (λ (o : Option Cells). IfSome o (λ c. cells_in text ≡ Ok c)) (sym ok) tt
