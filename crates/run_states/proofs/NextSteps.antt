-- The step after as many results.
use Rattle.std.proofs.Common.{◌≡◌, ◌<◌, ◌≤◌, ◌+◌, suc, List, [], ◌∷◌, ◌++◌, length, get_or, drop, Some, None, Option, ℕ, refl, sym, subst, arith}
use Rattle.std.specs.Prelude.{Contains, is_some}
use Rattle.std.proofs.Math.Seq.{drop-nil}
use Rattle.std.proofs.lemmas.List.{length-map}
use Rattle.rules.specs.declared.plan.Step.{Step}
use Rattle.rules.proofs.Walks.{Contains-first, Contains-rest}
use Rattle.sync_state.specs.declared.journal.Logged.{Logged}
use Rattle.law_outcome.specs.Steps.{Fit, makes_copy}
use Rattle.law_outcome.specs.CommitLaws.{result_of, results_of}
use Rattle.run_states.specs.Plans.{next_of}

pub next_at_get : (steps : List Step) (log : List Logged) (d : Step) → length log < length steps → next_of steps log ≡ Some (get_or steps (length log) d)
next_at_get [] log d lt = absurd (omega arith)
next_at_get (s ∷ ss) [] d lt = refl
next_at_get (s ∷ ss) (r ∷ rs) d lt = next_at_get ss rs d (omega arith)

pub next_past : (steps : List Step) (log : List Logged) → length steps ≤ length log → next_of steps log ≡ None
next_past [] log le = refl
next_past (s ∷ ss) [] le = absurd (omega arith)
next_past (s ∷ ss) (r ∷ rs) le = next_past ss rs (omega arith)

pub next_less : (steps : List Step) (log : List Logged) (s : Step) → next_of steps log ≡ Some s → length log < length steps
next_less [] log s is = cc
next_less (t ∷ ss) [] s is = omega arith
next_less (t ∷ ss) (r ∷ rs) s is = omega (arith, next_less ss rs s is)

pub next_is : (steps : List Step) (log : List Logged) (s : Step) → next_of steps log ≡ Some s → s ≡ get_or steps (length log) s
next_is [] log s is = cc
next_is (t ∷ ss) [] s is = let same : t ≡ s = cc in sym same
next_is (t ∷ ss) (r ∷ rs) s is = next_is ss rs s is

pub next_contained : (steps : List Step) (log : List Logged) (s : Step) → next_of steps log ≡ Some s → Contains steps s
next_contained [] log s is = cc
next_contained (t ∷ ss) [] s is = let same : t ≡ s = cc in subst (λ (x : Step). Contains (x ∷ ss) s) (sym same) (Contains-first s ss)
next_contained (t ∷ ss) (r ∷ rs) s is = Contains-rest t s ss (next_contained ss rs s is)

pub drop_next : (steps : List Step) (log : List Logged) (s : Step) → next_of steps log ≡ Some s → drop (length log) steps ≡ s ∷ drop (length log + 1) steps
drop_next [] log s is = cc
drop_next (t ∷ ss) [] s is = cc
drop_next (t ∷ ss) (r ∷ rs) s is = let n : suc (length rs) + 1 ≡ suc (length rs + 1) = omega arith in rw n (drop_next ss rs s is)

pub drop_none : (steps : List Step) (log : List Logged) → next_of steps log ≡ None → drop (length log) steps ≡ []
drop_none [] log is = drop-nil (length log)
drop_none (t ∷ ss) [] is = cc
drop_none (t ∷ ss) (r ∷ rs) is = drop_none ss rs is

pub none_left : (steps : List Step) (log : List Logged) → next_of steps log ≡ None → length steps ≤ length log
none_left [] log is = omega arith
none_left (t ∷ ss) [] is = cc
none_left (t ∷ ss) (r ∷ rs) is = omega (arith, none_left ss rs is)

-- ---- the same of results

pub results_length : (log : List Logged) → length (results_of log) ≡ length log
results_length log = length-map log result_of

pub result_less : (steps : List Step) (log : List Logged) (s : Step) → next_of steps log ≡ Some s → length (results_of log) < length steps
result_less steps log s is = let k = results_length log in omega (arith, next_less steps log s is)

pub result_is : (steps : List Step) (log : List Logged) (s : Step) → next_of steps log ≡ Some s → s ≡ get_or steps (length (results_of log)) s
result_is steps log s is = rw (results_length log) (next_is steps log s is)

pub results_more : (log : List Logged) (r : Logged) → results_of (log ++ r ∷ []) ≡ results_of log ++ result_of r ∷ []
results_more [] r = refl
results_more (x ∷ log) r = rw (results_more log r) refl

-- there are no more results than steps
pub fit_few : (steps : List Step) (results : List (Option ℕ)) → Fit steps results → length results ≤ length steps
fit_few [] [] f = omega arith
fit_few [] (r ∷ rs) f = absurd f
fit_few (s ∷ ss) [] f = omega arith
fit_few (s ∷ ss) (r ∷ rs) f = omega (arith, fit_few ss rs f.1)

pub fit_last : (steps : List Step) (log : List Logged) (s : Step) (r : Logged) → Fit steps (results_of (log ++ r ∷ [])) → next_of steps log ≡ Some s → is_some (result_of r) ≡ makes_copy s
fit_last [] log s r f is = cc
fit_last (t ∷ ss) [] s r f is = let same : t ≡ s = cc in subst (λ (x : Step). is_some (result_of r) ≡ makes_copy x) same f.0
fit_last (t ∷ ss) (x ∷ rs) s r f is = fit_last ss rs s r f.1 is

-- after the last step there is no result
pub fit_past : (steps : List Step) (log : List Logged) (r : Logged) → next_of steps log ≡ None → Fit steps (results_of (log ++ r ∷ [])) → ⊥
fit_past [] [] r is f = f
fit_past [] (x ∷ rs) r is f = f
fit_past (s ∷ ss) [] r is f = cc
fit_past (s ∷ ss) (x ∷ rs) r is f = fit_past ss rs r is f.1
