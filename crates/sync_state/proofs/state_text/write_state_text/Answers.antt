use Rattle.std.proofs.Common.{◌≡◌, ◌∙◌, ℕ, List, [], ◌∷◌, ◌++◌, map, take, ap}
use Rattle.rules.specs.declared.entry.Entry.{Entry}
use Rattle.sync_state.specs.declared.version.Version.TheVariants.{Two}
use Rattle.std.proofs.lemmas.List.{take_all}
use Rattle.sync_state.specs.Lines.{lines_text}
use Rattle.sync_state.specs.StateText.{state_title, run_line, far_line, near_line, entry_line, end_line}
use Rattle.sync_state.proofs.LineLemmas.{lines_added, line_added, next_written}
use Rattle.sync_state.proofs.state_text.write_state_text.Goals as goal

pub loop-entry-preserved : goal.loop-entry-preserved
loop-entry-preserved c =
    next_written entry_line c.as_slice-entry-items.result.now c.loop-entry.entry-index c.entry-item.result c.push_line-4.new.text.items c.loop-entry.text.items c.push_line-in-loop-entry.new.text.items
    c.loop-entry-test.true c.entry-item.is c.loop-entry.invariant c.in_ok-push_line-5.ensures

pub returns-clause-spelled : goal.returns-clause-spelled
returns-clause-spelled c =
    let s = c.args.state.now in
    let l1 : List (List ℕ) = state_title Two ∷ [] in
    let l2 : List (List ℕ) = state_title Two ∷ run_line s.run ∷ [] in
    let l3 : List (List ℕ) = state_title Two ∷ run_line s.run ∷ far_line s.far_validity s.max_pulled ∷ [] in
    let l4 : List (List ℕ) = state_title Two ∷ run_line s.run ∷ far_line s.far_validity s.max_pulled ∷ near_line s.near_validity s.max_pushed ∷ [] in
    let h1 = line_added [] (state_title Two) _ _ c.new-text.ensures.items c.in_ok-push_line.ensures in
    let h2 = line_added l1 (run_line s.run) _ _ h1 c.in_ok-push_line-2.ensures in
    let h3 = line_added l2 (far_line s.far_validity s.max_pulled) _ _ h2 c.in_ok-push_line-3.ensures in
    let h4 = line_added l3 (near_line s.near_validity s.max_pushed) _ _ h3 c.in_ok-push_line-4.ensures in
    let all : take c.loop-entry.entry-index c.as_slice-entry-items.result.now ≡ s.entries =
    take_all c.loop-entry.entry-index c.as_slice-entry-items.result.now c.loop-entry-test.false ∙ c.as_slice-entry-items.ensures.all in
    let body = c.loop-entry.invariant ∙ ap (λ (x : List Entry). c.push_line-4.new.text.items ++ lines_text (map entry_line x)) all in
    let h5 = lines_added l4 (map entry_line s.entries) _ _ h4 body in
    line_added (l4 ++ map entry_line s.entries) end_line _ _ h5 c.in_ok-push_line-6.ensures
