-- A beginning of a plan's text that is not all of it has no line `go`.
use Rattle.std.proofs.Common.{◌≡◌, ◌≢◌, ◌∙◌, ◌<◌, ℕ, List, [], ◌∷◌, ◌++◌, map, take, drop, length, get_or, refl, sym, ap, arith, append_assoc, length-append}
use Rattle.std.specs.Prelude.{All}
use Rattle.std.proofs.lemmas.List.{take-append-drop, length-drop}
use Rattle.std.proofs.lemmas.List.Elements.{All-cons, All-append, All-map, All-head, All-tail}
use Rattle.rules.specs.declared.plan.Plan.{Plan}
use Rattle.sync_state.specs.Cuts.{same_cut}
use Rattle.sync_state.specs.Lines.{lines_text, OneLine}
use Rattle.sync_state.specs.StateText.{run_line}
use Rattle.sync_state.specs.declared.version.Version.{Version}
use Rattle.sync_state.specs.JournalText.{HasGo, go_line, journal_title, keyword_line, plan_far_line, plan_near_line, plan_head_lines, plan_lines, step_line, note_line, IsPlan}
use Rattle.sync_state.proofs.GoLemmas.{go_is_one_line}
use Rattle.sync_state.proofs.JournalHeads.{go_is_no_step, go_is_no_note, go_is_no_keyword}
use Rattle.sync_state.proofs.LfLemmas.{before_go, before_go_is_lines, last_is_go}

abbrev IsOther : List ℕ → Type 0
IsOther line = line ≢ go_line

-- a text whose last line alone is `go` has nothing after a `go`
none_after : (ls before : List (List ℕ)) (following : List ℕ) → All OneLine ls → All IsOther ls → All OneLine before
    → lines_text (ls ++ go_line ∷ []) ≡ lines_text before ++ (go_line ++ 10 ∷ following) → [] ≡ following
none_after [] [] following one other whole e =
    let s = same_cut 10 go_line go_line [] following go_is_one_line go_is_one_line e in s.following
none_after [] (l ∷ before) following one other whole e =
    let rest : List ℕ = lines_text before ++ (go_line ++ 10 ∷ following) in
    let s = same_cut 10 go_line l [] rest go_is_one_line (All-head OneLine l before whole) (e ∙ append_assoc l (10 ∷ lines_text before) (go_line ++ 10 ∷ following)) in
    let none : 0 ≡ length rest = ap (λ (x : List ℕ). length x) s.following in
    absurd (omega (arith, length-append (lines_text before) (go_line ++ 10 ∷ following)))
none_after (a ∷ ls) [] following one other whole e =
    let s = same_cut 10 a go_line (lines_text (ls ++ go_line ∷ [])) following (All-head OneLine a ls one) go_is_one_line e in
    absurd (All-head IsOther a ls other s.front)
none_after (a ∷ ls) (l ∷ before) following one other whole e =
    let s = same_cut 10 a l (lines_text (ls ++ go_line ∷ [])) (lines_text before ++ (go_line ++ 10 ∷ following)) (All-head OneLine a ls one) (All-head OneLine l before whole)
    (e ∙ append_assoc l (10 ∷ lines_text before) (go_line ++ 10 ∷ following)) in
    none_after ls before following (All-tail OneLine a ls one) (All-tail IsOther a ls other) (All-tail OneLine l before whole) s.following

no_go_in_part : (ls : List (List ℕ)) (text : List ℕ) (count : ℕ) → All OneLine ls → All IsOther ls → text ≡ lines_text (ls ++ go_line ∷ [])
    → count < length text → HasGo (take count text) → ⊥
no_go_in_part ls text count one other e part g =
    let rest : List ℕ = drop count text in
    let parts : text ≡ lines_text g.before ++ (go_line ++ 10 ∷ (g.following ++ rest)) =
    sym (take-append-drop count text) ∙ ap (λ (x : List ℕ). x ++ rest) g.lines.parts ∙ append_assoc (lines_text g.before) (go_line ++ 10 ∷ g.following) rest in
    let none = none_after ls g.before (g.following ++ rest) one other g.lines.whole (sym e ∙ parts) in
    let size : 0 ≡ length (g.following ++ rest) = ap (λ (x : List ℕ). length x) none in
    absurd (omega (arith, length-append g.following rest, length-drop count text))

begins_otherwise : (line : List ℕ) (first : ℕ) → get_or line 0 0 ≡ first → first ≢ 103 → IsOther line
begins_otherwise line first is other e = other (sym is ∙ ap (λ (x : List ℕ). get_or x 0 0) e)

head_is_other : (v : Version) (p : Plan) → All IsOther (plan_head_lines v p)
head_is_other v p =
    let keywords : List (List ℕ) = map keyword_line p.keywords in
    All-cons IsOther (journal_title v) (run_line p.run ∷ plan_far_line p.far ∷ plan_near_line p.near ∷ keywords) (begins_otherwise (journal_title v) 106 refl (λ e. absurd (omega (arith, e))))
    (All-cons IsOther (run_line p.run) (plan_far_line p.far ∷ plan_near_line p.near ∷ keywords) (begins_otherwise (run_line p.run) 114 refl (λ e. absurd (omega (arith, e))))
    (All-cons IsOther (plan_far_line p.far) (plan_near_line p.near ∷ keywords) (begins_otherwise (plan_far_line p.far) 102 refl (λ e. absurd (omega (arith, e))))
    (All-cons IsOther (plan_near_line p.near) keywords (begins_otherwise (plan_near_line p.near) 110 refl (λ e. absurd (omega (arith, e))))
    (All-map IsOther keyword_line p.keywords (λ i d below e. go_is_no_keyword _ (sym e))))))

pub no_go_in_plan : (v : Version) (p : Plan) (text : List ℕ) (count : ℕ) → IsPlan p → text ≡ lines_text (plan_lines v p) → count < length text → HasGo (take count text) → ⊥
no_go_in_plan v p text count is e part =
    let steps : List (List ℕ) = map step_line p.steps in
    let notes : List (List ℕ) = map note_line p.notes in
    let other : All IsOther (before_go v p) = All-append IsOther (plan_head_lines v p) (steps ++ notes) (head_is_other v p)
    (All-append IsOther steps notes (All-map IsOther step_line p.steps (λ k d l e. go_is_no_step _ (sym e))) (All-map IsOther note_line p.notes (λ k d l e. go_is_no_note _ (sym e)))) in
    no_go_in_part (before_go v p) text count (before_go_is_lines v p is) other (e ∙ ap lines_text (last_is_go v p)) part
