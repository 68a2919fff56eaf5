-- One turn more of the loop over the steps.
use Rattle.std.proofs.Common.{◌≡◌, ◌<◌, ◌-◌, ◌+◌, List, [], ◌∷◌, ◌++◌, length, drop, Option, Some, refl, sym, ◌∙◌, ap, arith, append_assoc, length-append}
use Rattle.rules.specs.declared.plan.Step.{Step}
use Rattle.sync_state.specs.declared.journal.Logged.{Logged}
use Rattle.outside.specs.Opened.{Opened}
use Rattle.run_states.proofs.NextSteps.{next_less, drop_next}
use Rattle.runner.specs.declared.performed.Performed.{Performed}
use Rattle.runner.specs.Going.{HasLogged, log_at, logged_of, logs_of, made_by, made, next_at, plan_at, steps_of}

logs_more : (ps : List Performed) (p : Performed) → logs_of ps ++ logged_of p.result ∷ [] ≡ logs_of (ps ++ p ∷ [])
logs_more [] p = refl
logs_more (q ∷ ps) p = ap (λ (l : List Logged). logged_of q.result ∷ l) (logs_more ps p)

steps_more : (ps : List Performed) (p : Performed) (rest : List Step) → steps_of (ps ++ p ∷ []) ++ rest ≡ steps_of ps ++ p.step ∷ rest
steps_more [] p rest = refl
steps_more (q ∷ ps) p rest = ap (λ (l : List Step). q.step ∷ l) (steps_more ps p rest)

pub made_more : (ps : List Performed) (p : Performed) → made ps + made_by p.result ≡ made (ps ++ p ∷ [])
made_more [] p = omega arith
made_more (q ∷ ps) p = omega (arith, made_more ps p)

pub logged_on : (a b c : Option Opened) (ps : List Performed) (p : Performed) → HasLogged a b (logs_of ps) → HasLogged b c (logged_of p.result ∷ []) → HasLogged a c (logs_of (ps ++ p ∷ []))
logged_on a b c ps p h k = record {
  going = k.going;
  state = k.state ∙ h.state;
  version = k.version ∙ h.version;
  plan = k.plan ∙ h.plan;
  log = k.log ∙ ap (λ (l : List Logged). l ++ logged_of p.result ∷ []) h.log ∙ append_assoc (log_at a) (logs_of ps) (logged_of p.result ∷ []) ∙ ap (λ (l : List Logged). log_at a ++ l) (logs_more ps p);
  listed = k.listed ∙ h.listed;
}

pub steps_on : (b c : Option Opened) (ps : List Performed) (p : Performed) (whole : List Step) → HasLogged b c (logged_of p.result ∷ []) → next_at b ≡ Some p.step → steps_of ps ++ drop (length (log_at b)) (plan_at b).steps ≡ whole → steps_of (ps ++ p ∷ []) ++ drop (length (log_at c)) (plan_at c).steps ≡ whole
steps_on b c ps p whole k is so_far =
    rw (k.plan, k.log, length-append {A = Logged} (log_at b) (logged_of p.result ∷ [])) (steps_more ps p (drop (length (log_at b) + 1) (plan_at b).steps) ∙ ap (λ (l : List Step). steps_of ps ++ l) (sym (drop_next (plan_at b).steps (log_at b) p.step is)) ∙ so_far)

pub less_left : (b c : Option Opened) (p : Performed) → HasLogged b c (logged_of p.result ∷ []) → next_at b ≡ Some p.step → length (plan_at c).steps - length (log_at c) < length (plan_at b).steps - length (log_at b)
less_left b c p k is =
    let less = next_less (plan_at b).steps (log_at b) p.step is in
    rw (k.plan, k.log, length-append {A = Logged} (log_at b) (logged_of p.result ∷ [])) (omega (arith, less))
