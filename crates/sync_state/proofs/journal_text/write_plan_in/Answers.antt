use Rattle.std.proofs.Common.{◌∙◌, List, [], ◌∷◌, ◌++◌, ℕ, map, ap, append_assoc}
use Rattle.rules.specs.declared.plan.Step.{Step}
use Rattle.rules.specs.declared.plan.Note.{Note}
use Rattle.sync_state.specs.Lines.{lines_text}
use Rattle.sync_state.specs.JournalText.{step_line, note_line, plan_head_lines, go_line}
use Rattle.sync_state.proofs.LineLemmas.{line_added, lines_added}
use Rattle.sync_state.proofs.journal_text.write_plan_in.Goals as goal

pub returns-clause-spelled : goal.returns-clause-spelled
returns-clause-spelled c =
    let p = c.args.plan.now in
    let v = c.args.version in
    let steps : List (List ℕ) = map step_line p.steps in
    let notes : List (List ℕ) = map note_line p.notes in
    let s = c.in_ok-push_steps.ensures ∙ ap (λ (x : List Step). c.in_ok-text.text.items ++ lines_text (map step_line x)) c.as_slice.ensures in
    let n = c.in_ok-push_notes.ensures ∙ ap (λ (x : List Note). c.push_steps.new.text.items ++ lines_text (map note_line x)) c.as_slice-2.ensures in
    let h1 = lines_added (plan_head_lines v p) steps _ _ c.in_ok-text.ensures s in
    let h2 = lines_added (plan_head_lines v p ++ steps) notes _ _ h1 n in
    let h3 = line_added ((plan_head_lines v p ++ steps) ++ notes) go_line _ _ h2 c.in_ok-push_line.ensures in
    h3 ∙ ap (λ (x : List (List ℕ)). lines_text (x ++ go_line ∷ [])) (append_assoc (plan_head_lines v p) steps notes)
    ∙ ap lines_text (append_assoc (plan_head_lines v p) (steps ++ notes) (go_line ∷ []))
