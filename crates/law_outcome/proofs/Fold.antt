-- Steps one after another, with their results.
use Rattle.std.proofs.Common.{append-nil, subst, true, false, cond, ◌≡◌, ℕ, ◌+◌, ◌≤◌, ◌<◌, get_or, Bool, List, [], ◌∷◌, ◌++◌, Option, Some, None, length, drop, refl, sym, ap, ◌∙◌, arith, append_assoc}
use Rattle.std.specs.Prelude.{All}
use Rattle.std.proofs.lemmas.List.Elements.{All-head}
use Rattle.mailcore.specs.declared.side.Side.{Side}
use Rattle.mailcore.specs.Sides.{target}
use Rattle.mailcore.specs.Rise.{Rise}
use Rattle.rules.specs.declared.plan.Step.{Step}
use Rattle.rules.specs.declared.plan.Step.TheVariants.{New, Gone, Flags, Expunge}
use Rattle.law_outcome.specs.Steps.{Boxes, step_after, after, makes_copy, Fit, is_side, uid_given, given}
use Rattle.law_outcome.specs.StepLaws.{GivenMore, RisesMore, FitMore}

pub after-none : (steps : List Step) (b : Boxes) → after steps [] b ≡ b
after-none [] b = refl
after-none (s ∷ steps) b = refl

pub after-split : (steps more : List Step) (results : List (Option ℕ)) (b : Boxes) → after (steps ++ more) results b ≡ after more (drop (length steps) results) (after steps results b)
after-split [] more results b = refl
after-split (s ∷ steps) more [] b = sym (after-none more b)
after-split (s ∷ steps) more (r ∷ results) b = after-split steps more results (step_after b s r)

pub after-append : (steps more : List Step) (results others : List (Option ℕ)) (b : Boxes) →
    length results ≡ length steps → after (steps ++ more) (results ++ others) b ≡ after more others (after steps results b)
after-append [] more [] others b l = refl
after-append [] more (r ∷ results) others b l = absurd (omega arith)
after-append (s ∷ steps) more [] others b l = absurd (omega arith)
after-append (s ∷ steps) more (r ∷ results) others b l = after-append steps more results others (step_after b s r) (omega arith)

pub given-none : (side : Side) (steps : List Step) → given side steps [] ≡ []
given-none side [] = refl
given-none side (s ∷ steps) = refl

pub given-split : (side : Side) (steps more : List Step) (results : List (Option ℕ)) → given side (steps ++ more) results ≡ given side steps results ++ given side more (drop (length steps) results)
given-split side [] more results = refl
given-split side (s ∷ steps) more [] = sym (given-none side more)
given-split side (s ∷ steps) more (r ∷ results) =
    ap (λ (us : List ℕ). uid_given side s r ++ us) (given-split side steps more results)
    ∙ sym (append_assoc (uid_given side s r) (given side steps results) (given side more (drop (length steps) results)))

pub fit-drop : (steps more : List Step) (results : List (Option ℕ)) → length steps ≤ length results → Fit (steps ++ more) results → Fit more (drop (length steps) results)
fit-drop [] more results l f = f
fit-drop (s ∷ steps) more [] l f = absurd (omega arith)
fit-drop (s ∷ steps) more (r ∷ results) l f = fit-drop steps more results (omega arith) f.1

pub after-more : (steps : List Step) (results : List (Option ℕ)) (s : Step) (r : Option ℕ) (b : Boxes) → length results < length steps → s ≡ get_or steps (length results) s →
    after steps (results ++ r ∷ []) b ≡ step_after (after steps results b) s r
after-more [] results s r b below is = absurd (omega arith)
after-more (t ∷ steps) [] s r b below is = after-none steps (step_after b t r) ∙ ap (λ (x : Step). step_after b x r) (sym is)
after-more (t ∷ steps) (q ∷ results) s r b below is = after-more steps results s r (step_after b t q) (omega arith) is

-- ---- one more result

pub given-more : GivenMore
given-more side [] results s r below is = absurd (omega arith)
given-more side (t ∷ steps) [] s r below is =
    ap (λ (us : List ℕ). uid_given side t r ++ us) (given-none side steps) ∙ append-nil (uid_given side t r) ∙ ap (λ (x : Step). uid_given side x r) (sym is)
given-more side (t ∷ steps) (q ∷ results) s r below is =
    ap (λ (us : List ℕ). uid_given side t q ++ us) (given-more side steps results s r (omega arith) is)
    ∙ sym (append_assoc (uid_given side t q) (given side steps results) (uid_given side s r))

pub rise-raised : (least : ℕ) (uids : List ℕ) (bound higher : ℕ) → Rise least uids bound → bound ≤ higher → Rise least uids higher
rise-raised least [] bound higher h l = omega arith
rise-raised least (u ∷ uids) bound higher h l = (h.0, rise-raised (u + 1) uids bound higher h.1 l)

pub rise-more : (least : ℕ) (uids : List ℕ) (u bound higher : ℕ) → Rise least uids bound → bound ≤ u → u < higher → Rise least (uids ++ u ∷ []) higher
rise-more least [] u bound higher h l k = (omega arith, omega arith)
rise-more least (v ∷ uids) u bound higher h l k = (h.0, rise-more (v + 1) uids u bound higher h.1 l k)

-- at most one UID is given
at_most_one : (side : Side) (s : Step) (r : Option ℕ) (least : ℕ) (uids : List ℕ) (bound higher : ℕ) → Rise least uids bound → bound ≤ higher → All (λ u. (bound ≤ u) × (u < higher)) (uid_given side s r) → Rise least (uids ++ uid_given side s r) higher
at_most_one side (New d u flags mark) None least uids bound higher h l k = subst (λ (us : List ℕ). Rise least us higher) (sym (append-nil uids)) (rise-raised least uids bound higher h l)
at_most_one side (New d u flags mark) (Some uid) least uids bound higher h l k = by_side (is_side (target d) side) k
  where
    by_side : (b : Bool) → All (λ v. (bound ≤ v) × (v < higher)) (cond b (uid ∷ []) []) → Rise least (uids ++ cond b (uid ∷ []) []) higher
    by_side true k = let here = All-head (λ v. (bound ≤ v) × (v < higher)) uid [] k in rise-more least uids uid bound higher h here.0 here.1
    by_side false k = subst (λ (us : List ℕ). Rise least us higher) (sym (append-nil uids)) (rise-raised least uids bound higher h l)
at_most_one side (Gone d f n) r least uids bound higher h l k = subst (λ (us : List ℕ). Rise least us higher) (sym (append-nil uids)) (rise-raised least uids bound higher h l)
at_most_one side (Flags d f n set cleared) r least uids bound higher h l k = subst (λ (us : List ℕ). Rise least us higher) (sym (append-nil uids)) (rise-raised least uids bound higher h l)
at_most_one side (Expunge at u) r least uids bound higher h l k = subst (λ (us : List ℕ). Rise least us higher) (sym (append-nil uids)) (rise-raised least uids bound higher h l)

pub rises-more : RisesMore
rises-more side next steps results s r bound higher below is h l k =
    subst (λ (us : List ℕ). Rise next us higher) (sym (given-more side steps results s r below is)) (at_most_one side s r next (given side steps results) bound higher h l k)

pub fit-more : FitMore
fit-more [] results s r below is f e = absurd (omega arith)
fit-more (t ∷ []) [] s r below is f e = (e ∙ ap (λ (x : Step). makes_copy x) is, tt)
fit-more (t ∷ v ∷ steps) [] s r below is f e = (e ∙ ap (λ (x : Step). makes_copy x) is, tt)
fit-more (t ∷ steps) (q ∷ results) s r below is f e = (f.0, fit-more steps results s r (omega arith) is f.1 e)
