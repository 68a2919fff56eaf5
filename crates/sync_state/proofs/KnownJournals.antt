-- A journal is known from its text.
use Rattle.std.proofs.Common.{◌≡◌, ℕ, ◌+◌, Bool, List, [], ◌∷◌, ◌++◌, drop, length, not, refl, sym, ap, ◌∙◌, subst, arith}
use Rattle.std.specs.Prelude.{decimal, ◌==◌}
use Rattle.std.proofs.lemmas.Fmt.{decimal_injective}
use Rattle.mailcore.specs.declared.keywords.Keyword.{Keyword}
use Rattle.rules.specs.declared.plan.Step.{Step}
use Rattle.rules.specs.declared.plan.Note.{Note}
use Rattle.rules.specs.declared.plan.Plan.{Plan}
use Rattle.rules.specs.declared.plan.PlanSide.{PlanSide}
use Rattle.sync_state.specs.declared.journal.Logged.{Logged}
use Rattle.sync_state.specs.declared.journal.Journal.{Journal}
use Rattle.sync_state.specs.declared.journal.WrittenJournal.{WrittenJournal}
use Rattle.sync_state.specs.Cuts.{same_cut}
use Rattle.sync_state.specs.declared.version.Version.{Version}
use Rattle.sync_state.specs.WordLaws.{decimal-lacks, version-injective}
use Rattle.sync_state.specs.JournalText.{plan_side_text, plan_head_lines, go_line, keyword_line, step_line, note_line, log_line, log_lines, journal_lines, IsPlanSide, IsStep, IsNote, IsLog, HasJournal}
use Rattle.sync_state.specs.JournalReading.{IsWritten}
use Rattle.sync_state.proofs.ItemLemmas.{head_line, tail_lines}
use Rattle.sync_state.proofs.StateLemmas.{nth}
use Rattle.sync_state.proofs.JournalHeads.{Any, shape, notes_on, steps_on, end_of_keywords, end_of_steps, end_of_notes, keyword_known}
use Rattle.sync_state.proofs.KnownLines.{step_known, note_known, logged_known}
use Rattle.sync_state.proofs.KnownTexts.{same_lines, same_items}

-- ---- the head

side_from : (a b : PlanSide) → a.validity ≡ b.validity → a.highest ≡ b.highest → a.next ≡ b.next → a ≡ b
side_from a b validity highest next =
    ap (λ (x : ℕ). let s : PlanSide = record a { validity = x } in s) validity
    ∙ ap (λ (x : ℕ). let s : PlanSide = record b { highest = x; next = a.next } in s) highest
    ∙ ap (λ (x : ℕ). let s : PlanSide = record b { next = x } in s) next

side_known : (a b : PlanSide) → IsPlanSide a → IsPlanSide b → plan_side_text a ≡ plan_side_text b → a ≡ b
side_known a b fa fb e =
    let s = same_cut 32 (decimal a.validity) (decimal b.validity) (decimal a.highest ++ 32 ∷ decimal a.next) (decimal b.highest ++ 32 ∷ decimal b.next)
    (decimal-lacks 32 (omega arith) a.validity (omega (arith, fa.validity.fits))) (decimal-lacks 32 (omega arith) b.validity (omega (arith, fb.validity.fits))) e in
    let t = same_cut 32 (decimal a.highest) (decimal b.highest) (decimal a.next) (decimal b.next)
    (decimal-lacks 32 (omega arith) a.highest (omega (arith, fa.highest))) (decimal-lacks 32 (omega arith) b.highest (omega (arith, fb.highest))) s.following in
    side_from a b
    (decimal_injective a.validity b.validity (omega (arith, fa.validity.fits)) (omega (arith, fb.validity.fits)) s.front)
    (decimal_injective a.highest b.highest (omega (arith, fa.highest)) (omega (arith, fb.highest)) t.front)
    (decimal_injective a.next b.next (omega (arith, fa.next.fits)) (omega (arith, fb.next.fits)) t.following)

-- ---- the log

log_known : (steps : List Step) (number : ℕ) (a b : List Logged) → IsLog steps a → IsLog steps b → log_lines number a ≡ log_lines number b → a ≡ b
log_known steps number [] [] fa fb e = refl
log_known steps number [] (l ∷ b) fa fb e = cc
log_known steps number (l ∷ a) [] fa fb e = cc
log_known [] number (l ∷ a) (m ∷ b) fa fb e = absurd fa
log_known (s ∷ steps) number (l ∷ a) (m ∷ b) fa fb e =
    let first = logged_known s number l m fa.0 fb.0 (head_line (log_line number l) (log_line number m) (log_lines (number + 1) a) (log_lines (number + 1) b) e) in
    let rest = log_known steps (number + 1) a b fa.1 fb.1 (tail_lines (log_line number l) (log_line number m) (log_lines (number + 1) a) (log_lines (number + 1) b) e) in
    ap (λ (x : Logged). x ∷ a) first ∙ ap (λ (x : List Logged). m ∷ x) rest

-- ---- the journal

plan_from : (a b : Plan) → a.run ≡ b.run → a.far ≡ b.far → a.near ≡ b.near → a.keywords ≡ b.keywords → a.steps ≡ b.steps → a.notes ≡ b.notes → a ≡ b
plan_from a b run far near keywords steps notes =
    ap (λ (x : ℕ). let p : Plan = record a { run = x } in p) run
    ∙ ap (λ (x : PlanSide). let p : Plan = record a { run = b.run; far = x } in p) far
    ∙ ap (λ (x : PlanSide). let p : Plan = record a { run = b.run; far = b.far; near = x } in p) near
    ∙ ap (λ (x : List Keyword). let p : Plan = record b { steps = a.steps; notes = a.notes; keywords = x } in p) keywords
    ∙ ap (λ (x : List Step). let p : Plan = record b { steps = x; notes = a.notes } in p) steps
    ∙ ap (λ (x : List Note). let p : Plan = record b { notes = x } in p) notes

journal_from : (a b : Journal) → a.plan ≡ b.plan → a.log ≡ b.log → a ≡ b
journal_from a b plan log =
    ap (λ (x : Plan). let j : Journal = record a { plan = x } in j) plan ∙ ap (λ (x : List Logged). let j : Journal = record b { log = x } in j) log

record IsSame (v w : Version) (a b : Journal) : Type 0 where
  version : v ≡ w
  journal : a ≡ b

lines_of_one : (v w : Version) (a b : Journal) → HasJournal a → HasJournal b → journal_lines v a ≡ journal_lines w b → IsSame v w a b
lines_of_one v w a b fa fb e =
    let front : List (List ℕ) = plan_head_lines v a.plan ++ steps_on a in
    let other : List (List ℕ) = plan_head_lines w b.plan ++ steps_on b in
    let shaped : front ≡ other = sym (shape v a) ∙ (e ∙ shape w b) in
    let version = version-injective v w (ap (λ (x : List ℕ). drop 8 x) (nth 0 front other shaped)) in
    let run = decimal_injective a.plan.run b.plan.run fa.plan.run fb.plan.run (ap (λ (x : List ℕ). drop 4 x) (nth 1 front other shaped)) in
    let far = side_known a.plan.far b.plan.far fa.plan.far fb.plan.far (ap (λ (x : List ℕ). drop 4 x) (nth 2 front other shaped)) in
    let near = side_known a.plan.near b.plan.near fa.plan.near fb.plan.near (ap (λ (x : List ℕ). drop 5 x) (nth 3 front other shaped)) in
    let keywords = same_items Any keyword_line (λ k l fk fl. keyword_known k l) a.plan.keywords b.plan.keywords (steps_on a) (steps_on b) (λ i d below. tt) (λ i d below. tt)
    (end_of_keywords a.plan.steps a.plan.notes (log_lines 1 a.log)) (end_of_keywords b.plan.steps b.plan.notes (log_lines 1 b.log)) (ap (λ (x : List (List ℕ)). drop 4 x) shaped) in
    let steps = same_items IsStep step_line step_known a.plan.steps b.plan.steps (notes_on a) (notes_on b) fa.plan.steps fb.plan.steps
    (end_of_steps IsStep a.plan.notes (log_lines 1 a.log)) (end_of_steps IsStep b.plan.notes (log_lines 1 b.log)) keywords.following in
    let notes = same_items IsNote note_line note_known a.plan.notes b.plan.notes (go_line ∷ log_lines 1 a.log) (go_line ∷ log_lines 1 b.log) fa.plan.notes fb.plan.notes
    (end_of_notes IsNote (log_lines 1 a.log)) (end_of_notes IsNote (log_lines 1 b.log)) steps.following in
    let log = log_known b.plan.steps 1 a.log b.log (subst (λ (x : List Step). IsLog x a.log) steps.items fa.log) fb.log
    (tail_lines go_line go_line (log_lines 1 a.log) (log_lines 1 b.log) notes.following) in
    record { version = version; journal = journal_from a b (plan_from a.plan b.plan run far near keywords.items steps.items notes.items) log }

written_from : (a b : WrittenJournal) → a.version ≡ b.version → a.journal ≡ b.journal → a.is_torn ≡ b.is_torn → a ≡ b
written_from a b version journal torn =
    ap (λ (x : Version). let w : WrittenJournal = record a { version = x } in w) version
    ∙ ap (λ (x : Journal). let w : WrittenJournal = record b { journal = x; is_torn = a.is_torn } in w) journal
    ∙ ap (λ (x : Bool). let w : WrittenJournal = record b { is_torn = x } in w) torn

pub written_known : (a b : WrittenJournal) (text : List ℕ) → IsWritten a text → IsWritten b text → a ≡ b
written_known a b text wa wb =
    let la = wa.spelled.lines in
    let lb = wb.spelled.lines in
    let lines = same_lines (journal_lines a.version a.journal) (journal_lines b.version b.journal) wa.torn wb.torn la.whole lb.whole wa.spelled.no_line wb.spelled.no_line (sym la.parts ∙ lb.parts) in
    let one = lines_of_one a.version b.version a.journal b.journal wa.spelled.fits wb.spelled.fits lines.lines in
    written_from a b one.version one.journal
    (wa.is_torn ∙ (ap (λ (x : List ℕ). not (length x == 0)) lines.following ∙ sym wb.is_torn))
