-- A plan whose steps and notes agree with the entries does so as a journal of which nothing is logged.
use Rattle.std.proofs.Common.{◌≡◌, ◌∙◌, ℕ, Bool, false, not, List, [], ◌∷◌, Option, Some, None, position, refl, sym, ap}
use Rattle.std.specs.Prelude.{All}
use Rattle.std.proofs.lemmas.Bool.{false≢true, not_from_true}
use Rattle.std.proofs.lemmas.List.Quantifiers.{position-Some}
use Rattle.rules.specs.declared.entry.Entry.{Entry}
use Rattle.rules.specs.declared.plan.Plan.{Plan}
use Rattle.rules.specs.PlanEntries.{step_agrees, note_agrees, PlanAgrees}
use Rattle.book.specs.Agreement.{Agrees}
use Rattle.book.specs.BookLogs.{fresh}
use Rattle.book.proofs.AgreementLemmas.{nowhere, none_logged}

never : {X : Type 0} (t : X → Bool) (xs : List X) (place : Option ℕ) → position t xs ≡ place → All (λ x. t x ≡ false) xs → position t xs ≡ None
never t [] place e none = refl
never t (x ∷ xs) None e none = e
never t (x ∷ xs) (Some i) e none =
    let found = position-Some t (x ∷ xs) i x e in
    absurd (false≢true (sym (none i x found.0) ∙ found.1))

pub begun_agrees : (entries : List Entry) (p : Plan) → PlanAgrees entries p → Agrees entries (fresh p)
begun_agrees entries p agrees =
    sym (nowhere entries (fresh p)
    (never (λ s. not (step_agrees entries s)) p.steps _ refl (λ k d within. not_from_true _ (agrees.steps k d within)))
    (never (λ n. not (note_agrees entries n)) p.notes _ refl (λ k d within. not_from_true _ (agrees.notes k d within)))
    (ap (λ (bs : List Bool). position not bs) (none_logged entries p.steps [] p.steps)))
