-- The lines that log steps.
use Rattle.std.proofs.Common.{◌≡◌, ◌≢◌, ℕ, zero, suc, ◌+◌, ◌<◌, ◌≤◌, List, [], ◌∷◌, ◌++◌, length, get_or, Option, Some, None, sym, ap, ◌∙◌, subst, arith, take, append_assoc, length-take-le}
use Rattle.std.specs.Prelude.{IfSome, IfNone}
use Rattle.rules.specs.declared.plan.Step.{Step}
use Rattle.sync_state.specs.declared.journal.Logged.{Logged}
use Rattle.std.proofs.lemmas.List.{take_more}
use Rattle.sync_state.specs.Lines.{lines_text, OneLine, AreLines}
use Rattle.sync_state.specs.JournalText.{FitsStep, IsLog, log_line, log_lines}
use Rattle.sync_state.specs.JournalReading.{FitsAt, AreLogged}
use Rattle.sync_state.proofs.LineLemmas.{lines_text-append, no_lines, line_more}

pub log_lines-push : (number : ℕ) (log : List Logged) (l : Logged) → log_lines number (log ++ l ∷ []) ≡ log_lines number log ++ log_line (number + length log) l ∷ []
log_lines-push number [] l = let e : number ≡ number + 0 = omega arith in ap (λ (n : ℕ). log_line n l ∷ []) e
log_lines-push number (x ∷ log) l =
    let e : number + 1 + length log ≡ number + suc (length log) = omega arith in
    ap (λ (z : List (List ℕ)). log_line number x ∷ z) (log_lines-push (number + 1) log l ∙ ap (λ (n : ℕ). log_lines (number + 1) log ++ log_line n l ∷ []) e)

pub log-push : (steps : List Step) (log : List Logged) (l : Logged) → IsLog steps log → FitsAt steps (length log) l → IsLog steps (log ++ l ∷ [])
log-push [] [] l is f = absurd f
log-push (s ∷ steps) [] l is f = (f, tt)
log-push [] (x ∷ log) l is f = absurd is
log-push (s ∷ steps) (x ∷ log) l is f = (is.0, log-push steps log l is.1 f)

pub no_log : (steps : List Step) (text : List ℕ) → AreLogged steps [] text text
no_log [] text = record { fits = tt; lines = no_lines text }
no_log (s ∷ steps) text = record { fits = tt; lines = no_lines text }

pub log_more : (steps : List Step) (log : List Logged) (l : Logged) (line text between rest : List ℕ) → AreLogged steps log text between
    → FitsAt steps (length log) l → OneLine line → between ≡ line ++ 10 ∷ rest → line ≡ log_line (length log + 1) l → AreLogged steps (log ++ l ∷ []) text rest
log_more steps log l line text between rest a f one e is = record {
  fits = log-push steps log l a.fits f;
  lines =
      let number : length log + 1 ≡ 1 + length log = omega arith in
      let same : line ≡ log_line (1 + length log) l = is ∙ ap (λ (n : ℕ). log_line n l) number in
      let all : log_lines 1 log ++ line ∷ [] ≡ log_lines 1 (log ++ l ∷ []) = ap (λ (z : List ℕ). log_lines 1 log ++ z ∷ []) same ∙ sym (log_lines-push 1 log l) in
      let P : List (List ℕ) → Type 0 = λ x. AreLines x text rest in
      subst P all (line_more (log_lines 1 log) line text between rest a.lines one e);
}

pub fits_nowhere : (steps : List Step) (k : ℕ) (l : Logged) → length steps ≤ k → FitsAt steps k l → ⊥
fits_nowhere [] k l e f = f
fits_nowhere (s ∷ steps) zero l e f = absurd (omega arith)
fits_nowhere (s ∷ steps) (suc k) l e f = fits_nowhere steps k l (omega arith) f

pub fits_there : (steps : List Step) (k : ℕ) (s : Step) (l : Logged) → k < length steps → s ≡ get_or steps k s → FitsStep s l → FitsAt steps k l
fits_there [] k s l h e f = absurd (omega arith)
fits_there (x ∷ steps) zero s l h e f = subst (λ (y : Step). FitsStep y l) e f
fits_there (x ∷ steps) (suc k) s l h e f = fits_there steps k s l (omega arith) e f

pub fits_here : (steps : List Step) (k : ℕ) (s : Step) (l : Logged) → k < length steps → s ≡ get_or steps k s → FitsAt steps k l → FitsStep s l
fits_here [] k s l h e f = absurd f
fits_here (x ∷ steps) zero s l h e f = subst (λ (y : Step). FitsStep y l) (sym e) f
fits_here (x ∷ steps) (suc k) s l h e f = fits_here steps k s l (omega arith) e f

pub logged_some : (r : Option Logged) (steps : List Step) (k number : ℕ) (s : Step) (line : List ℕ) → k < length steps → s ≡ get_or steps k s → number ≡ k + 1
    → IfSome r (λ l. FitsStep s l × (line ≡ log_line number l)) → IfSome r (λ l. FitsAt steps k l × (line ≡ log_line (k + 1) l))
logged_some None steps k number s line h e n i = tt
logged_some (Some l) steps k number s line h e n i = (fits_there steps k s l h e i.0, i.1 ∙ ap (λ (x : ℕ). log_line x l) n)

pub logged_none : (r : Option Logged) (steps : List Step) (k number : ℕ) (s : Step) (line : List ℕ) → k < length steps → s ≡ get_or steps k s → number ≡ k + 1
    → IfNone r ((l : Logged) → FitsStep s l → line ≢ log_line number l) → IfNone r ((l : Logged) → FitsAt steps k l → line ≢ log_line (k + 1) l)
logged_none None steps k number s line h e n i = λ l f x. i l (fits_here steps k s l h e f) (x ∙ ap (λ (y : ℕ). log_line y l) (sym n))
logged_none (Some l) steps k number s line h e n i = tt

-- one line more is written after those before it
pub log_written : (log : List Logged) (i : ℕ) (l : Logged) (start old new : List ℕ) → i < length log → l ≡ get_or log i l
    → old ≡ start ++ lines_text (log_lines 1 (take i log)) → new ≡ old ++ (log_line (i + 1) l ++ 10 ∷ []) → new ≡ start ++ lines_text (log_lines 1 (take (i + 1) log))
log_written log i l start old new below is e h =
    let one : take (i + 1) log ≡ take i log ++ l ∷ [] = take_more log i l below ∙ ap (λ (y : Logged). take i log ++ y ∷ []) (sym is) in
    let size : length (take i log) ≡ i = length-take-le i log (omega arith) in
    let number : 1 + length (take i log) ≡ i + 1 = omega arith in
    let lines : log_lines 1 (take (i + 1) log) ≡ log_lines 1 (take i log) ++ log_line (i + 1) l ∷ [] =
    ap (λ (y : List Logged). log_lines 1 y) one ∙ log_lines-push 1 (take i log) l ∙ ap (λ (n : ℕ). log_lines 1 (take i log) ++ log_line n l ∷ []) number in
    let texts : lines_text (log_lines 1 (take (i + 1) log)) ≡ lines_text (log_lines 1 (take i log)) ++ (log_line (i + 1) l ++ 10 ∷ []) =
    ap (λ (y : List (List ℕ)). lines_text y) lines ∙ lines_text-append (log_lines 1 (take i log)) (log_line (i + 1) l ∷ []) in
    h ∙ ap (λ (y : List ℕ). y ++ (log_line (i + 1) l ++ 10 ∷ [])) e ∙ append_assoc start (lines_text (log_lines 1 (take i log))) (log_line (i + 1) l ++ 10 ∷ [])
    ∙ ap (λ (y : List ℕ). start ++ y) (sym texts)
