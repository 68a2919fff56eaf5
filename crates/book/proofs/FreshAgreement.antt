-- A plan of which nothing is logged agrees with the entries where its steps and its notes do.
use Rattle.std.proofs.Common.{◌≡◌, ◌∙◌, ℕ, Bool, true, false, List, [], Option, Some, None, refl, sym, ap}
use Rattle.std.specs.Prelude.{not, position}
use Rattle.std.specs.Option.{is_some}
use Rattle.std.proofs.lemmas.Bool.{false≢true}
use Rattle.rules.specs.declared.entry.Entry.{Entry}
use Rattle.rules.specs.declared.plan.Plan.{Plan}
use Rattle.book.specs.Agreement.{Agrees, disagreement}
use Rattle.book.specs.BookLogs.{fresh}
use Rattle.book.proofs.AgreementLemmas.{in_step, in_note, nowhere, bad_step, bad_note, none_logged}

no_line : (o : Option ℕ) (i : ℕ) → Some i ≡ o → o ≡ None → ⊥
no_line o i e n = let none : Some i ≡ None = e ∙ n in absurd (cc)

pub step_disagrees : (entries : List Entry) (plan : Plan) (r : Option ℕ) → r ≡ bad_step entries (fresh plan) → is_some r ≡ true → Agrees entries (fresh plan) → ⊥
step_disagrees entries plan None e h a = cc
step_disagrees entries plan (Some i) e h a = no_line (disagreement entries (fresh plan)) _ (in_step entries (fresh plan) i (sym e)) a

note_disagrees : (entries : List Entry) (plan : Plan) (r s : Option ℕ) → r ≡ bad_step entries (fresh plan) → is_some r ≡ false → s ≡ bad_note entries (fresh plan) → is_some s ≡ true
    → Agrees entries (fresh plan) → ⊥
note_disagrees entries plan (Some i) s e h f k a = cc
note_disagrees entries plan None None e h f k a = cc
note_disagrees entries plan None (Some i) e h f k a = no_line (disagreement entries (fresh plan)) _ (in_note entries (fresh plan) i (sym e) (sym f)) a

both_agree : (entries : List Entry) (plan : Plan) (r s : Option ℕ) → r ≡ bad_step entries (fresh plan) → is_some r ≡ false → s ≡ bad_note entries (fresh plan) → is_some s ≡ false
    → Agrees entries (fresh plan)
both_agree entries plan (Some i) s e h f k = cc
both_agree entries plan None (Some i) e h f k = cc
both_agree entries plan None None e h f k =
    sym (nowhere entries (fresh plan) (sym e) (sym f) (ap (λ (z : List Bool). position not z) (none_logged entries plan.steps [] plan.steps)))

pub agrees_by_notes : (entries : List Entry) (plan : Plan) (r s : Option ℕ) (b : Bool) → r ≡ bad_step entries (fresh plan) → is_some r ≡ false → s ≡ bad_note entries (fresh plan)
    → is_some s ≡ not b → (Agrees entries (fresh plan) → b ≡ true) × (b ≡ true → Agrees entries (fresh plan))
agrees_by_notes entries plan r s true e h f k = (λ a. refl, λ t. both_agree entries plan r s e h f k)
agrees_by_notes entries plan r s false e h f k = (λ a. absurd (note_disagrees entries plan r s e h f k a), λ t. absurd (false≢true t))
