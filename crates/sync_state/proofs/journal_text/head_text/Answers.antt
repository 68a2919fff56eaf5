use Rattle.std.proofs.Common.{List, [], ◌∷◌, ◌++◌, ◌∙◌, ℕ, map, ap}
use Rattle.mailcore.specs.declared.keywords.Keyword.{Keyword}
use Rattle.sync_state.specs.Lines.{lines_text}
use Rattle.sync_state.specs.StateText.{run_line}
use Rattle.sync_state.specs.JournalText.{journal_title, plan_far_line, plan_near_line, keyword_line}
use Rattle.sync_state.proofs.LineLemmas.{line_added, lines_added}
use Rattle.sync_state.proofs.journal_text.head_text.Goals as goal

pub returns : goal.returns
returns c =
    let p = c.args.plan.now in
    let t : List ℕ = journal_title c.args.version in
    let l1 : List (List ℕ) = t ∷ [] in
    let l2 : List (List ℕ) = t ∷ run_line p.run ∷ [] in
    let l3 : List (List ℕ) = t ∷ run_line p.run ∷ plan_far_line p.far ∷ [] in
    let l4 : List (List ℕ) = t ∷ run_line p.run ∷ plan_far_line p.far ∷ plan_near_line p.near ∷ [] in
    let h1 = line_added [] t _ _ c.new-text.ensures.items c.in_ok-push_line.ensures in
    let h2 = line_added l1 (run_line p.run) _ _ h1 c.in_ok-push_line-2.ensures in
    let h3 = line_added l2 (plan_far_line p.far) _ _ h2 c.in_ok-push_line-3.ensures in
    let h4 = line_added l3 (plan_near_line p.near) _ _ h3 c.in_ok-push_line-4.ensures in
    let keywords = c.in_ok-push_keywords.ensures ∙ ap (λ (x : List Keyword). c.push_line-4.new.text.items ++ lines_text (map keyword_line x)) c.as_slice.ensures.list in
    lines_added l4 (map keyword_line p.keywords) _ _ h4 keywords
