-- A journal with one step more that is logged agrees as the one before it, where the copy's UID is free.
use Rattle.std.proofs.Common.{◌≡◌, ◌∙◌, ◌≤◌, ◌<◌, ◌+◌, ℕ, zero, suc, Bool, true, false, List, [], ◌∷◌, ◌++◌, map, length, get_or, Option, Some, None, refl, sym, ap, arith, append_assoc}
use Rattle.std.specs.Prelude.{not, position}
use Rattle.std.specs.List.{list_all, position_from}
use Rattle.std.specs.Option.{option_map}
use Rattle.std.proofs.lemmas.List.{append-nil}
use Rattle.std.proofs.lemmas.Iterator.Adapters.{position_from-zero}
use Rattle.rules.specs.declared.entry.Entry.{Entry}
use Rattle.rules.specs.declared.plan.Step.{Step}
use Rattle.sync_state.specs.declared.journal.Logged.{Logged}
use Rattle.sync_state.specs.declared.journal.Journal.{Journal}
use Rattle.book.specs.Agreement.{Copy, copy_of, copies_of, is_taken, log_agrees, lines_agree, first_line, step_agrees, note_agrees, Agrees}
use Rattle.sync_state.specs.JournalReading.{FitsAt}
use Rattle.book.specs.BookLogs.{with_logged, at_step, is_free}

-- ---- none is false

none_more_from : (i : ℕ) (xs : List Bool) → position_from not i xs ≡ None → position_from not i (xs ++ true ∷ []) ≡ None
none_more_from i [] h = refl
none_more_from i (true ∷ xs) h = none_more_from (i + 1) xs h
none_more_from i (false ∷ xs) h = cc

none_more : (xs : List Bool) → position not xs ≡ None → position not (xs ++ true ∷ []) ≡ None
none_more xs h = position_from-zero not (xs ++ true ∷ []) ∙ none_more_from 0 xs (sym (position_from-zero not xs) ∙ h)

none_mapped : (first : ℕ) (o : Option ℕ) → option_map (λ i. i + first) o ≡ None → o ≡ None
none_mapped first None h = refl
none_mapped first (Some i) h = cc

-- ---- one step more

abbrev free_after : List Entry → List Step → List Copy → Step → Logged → Bool
free_after entries plan copies s l = list_all (λ c. not (is_taken entries plan copies c)) (copy_of s l)

log_agrees-push : (entries : List Entry) (plan : List Step) (copies : List Copy) (steps : List Step) (log : List Logged) (l : Logged) → FitsAt steps (length log) l
    → log_agrees entries plan copies steps (log ++ l ∷ [])
    ≡ log_agrees entries plan copies steps log ++ at_step (λ s. free_after entries plan (copies ++ copies_of steps log) s l) steps (length log) ∷ []
log_agrees-push entries plan copies [] log l f = absurd f
log_agrees-push entries plan copies (s ∷ []) [] l f = ap (λ (cs : List Copy). free_after entries plan cs s l ∷ []) (sym (append-nil copies))
log_agrees-push entries plan copies (s ∷ t ∷ steps) [] l f = ap (λ (cs : List Copy). free_after entries plan cs s l ∷ []) (sym (append-nil copies))
log_agrees-push entries plan copies (s ∷ steps) (x ∷ log) l f =
    ap (λ (bs : List Bool). free_after entries plan copies s x ∷ bs)
    (log_agrees-push entries plan (copies ++ copy_of s x) steps log l f
    ∙ ap (λ (cs : List Copy). log_agrees entries plan (copies ++ copy_of s x) steps log ++ at_step (λ y. free_after entries plan cs y l) steps (length log) ∷ [])
    (append_assoc copies (copy_of s x) (copies_of steps log)))

pub agrees_more : (entries : List Entry) (j : Journal) (l : Logged) → FitsAt j.plan.steps (length j.log) l → is_free entries j l ≡ true → Agrees entries j
    → Agrees entries (with_logged j l)
agrees_more entries j l f free agrees =
    let steps : List Bool = map (step_agrees entries) j.plan.steps in
    let notes : List Bool = map (note_agrees entries) j.plan.notes in
    let log : List Bool = log_agrees entries j.plan.steps [] j.plan.steps j.log in
    let pushed : log_agrees entries j.plan.steps [] j.plan.steps (j.log ++ l ∷ []) ≡ log ++ true ∷ [] =
    log_agrees-push entries j.plan.steps [] j.plan.steps j.log l f ∙ ap (λ (b : Bool). log ++ b ∷ []) free in
    let lines : lines_agree entries (with_logged j l) ≡ lines_agree entries j ++ true ∷ [] =
    ap (λ (bs : List Bool). steps ++ (notes ++ true ∷ bs)) pushed
    ∙ ap (λ (bs : List Bool). steps ++ bs) (sym (append_assoc notes (true ∷ log) (true ∷ [])))
    ∙ sym (append_assoc steps (notes ++ true ∷ log) (true ∷ [])) in
    ap (λ (bs : List Bool). option_map (λ i. i + first_line j) (position not bs)) lines
    ∙ ap (λ (o : Option ℕ). option_map (λ i. i + first_line j) o) (none_more (lines_agree entries j) (none_mapped (first_line j) (position not (lines_agree entries j)) agrees))

-- ---- the step of a place

pub at_step_there : (passes : Step → Bool) (steps : List Step) (k : ℕ) (s : Step) → k < length steps → s ≡ get_or steps k s → at_step passes steps k ≡ passes s
at_step_there passes [] k s h e = absurd (omega arith)
at_step_there passes (x ∷ steps) zero s h e = ap passes (sym e)
at_step_there passes (x ∷ steps) (suc k) s h e = at_step_there passes steps k s (omega arith) e

pub at_step_nowhere : (passes : Step → Bool) (steps : List Step) (k : ℕ) → length steps ≤ k → at_step passes steps k ≡ true
at_step_nowhere passes [] k h = refl
at_step_nowhere passes (s ∷ steps) zero h = absurd (omega arith)
at_step_nowhere passes (s ∷ steps) (suc k) h = at_step_nowhere passes steps k (omega arith)

-- a step that makes no copy is free
pub at_step_always : (passes : Step → Bool) → ((s : Step) → passes s ≡ true) → (steps : List Step) (k : ℕ) → at_step passes steps k ≡ true
at_step_always passes all [] k = refl
at_step_always passes all (s ∷ steps) zero = all s
at_step_always passes all (s ∷ steps) (suc k) = at_step_always passes all steps k
