-- Steps that are done once more, in whole or in part.
use Rattle.std.proofs.Common.{◌≡◌, ℕ, ◌^◌, Bool, true, false, cond, List, [], ◌∷◌, refl, sym, ap, ◌∙◌}
use Rattle.std.specs.Prelude.{◌&&◌, ◌||◌, ◌==◌, not}
use Rattle.std.proofs.lemmas.Bool.{false≢true}
use Rattle.mailcore.specs.declared.side.Side.{Side}
use Rattle.mailcore.specs.declared.mailbox.Message.{Message}
use Rattle.mailcore.specs.FlagSet.{DELETED, has, union, minus}
use Rattle.mailcore.specs.Sides.{target}
use Rattle.mailcore.proofs.FlagRules.{union-lt, minus-lt, has-union, has-minus, set_from_flags}
use Rattle.rules.specs.declared.plan.Step.TheVariants.{New, Gone, Flags, Expunge}
use Rattle.rules.specs.FlagRule.{with_deleted}
use Rattle.law_outcome.specs.Steps.{Boxes, box, with_box, with_flags, reflagged, without, changed_uid}
use Rattle.law_outcome.specs.StepLaws.{StepAgain, StepFromHalf, StepInHalves}
use Rattle.law_outcome.proofs.Copying.{box-with, with-with}

-- ---- single flags

set_twice : (x s : Bool) → ((x || s) || s) ≡ (x || s)
set_twice true s = refl
set_twice false true = refl
set_twice false false = refl

changed_twice : (x s c : Bool) → ((((x || s) && not c) || s) && not c) ≡ ((x || s) && not c)
changed_twice true true true = refl
changed_twice true true false = refl
changed_twice true false true = refl
changed_twice true false false = refl
changed_twice false true true = refl
changed_twice false true false = refl
changed_twice false false true = refl
changed_twice false false false = refl

-- ---- the sets

union_again : (x s : ℕ) → union (union x s) s ≡ union x s
union_again x s =
    set_from_flags (union (union x s) s) (union x s) (union-lt (union x s) s) (union-lt x s)
    (λ k h. has-union (union x s) s k h ∙ ap (λ a. a || has s k) (has-union x s k h) ∙ set_twice (has x k) (has s k) ∙ sym (has-union x s k h))

deleted_again : (x : ℕ) → with_deleted (with_deleted x) ≡ with_deleted x
unfolding with_deleted
deleted_again x = union_again x (2 ^ DELETED)

flags_again : (s c x : ℕ) → minus (union (minus (union x s) c) s) c ≡ minus (union x s) c
flags_again s c x =
    set_from_flags _ _ (minus-lt (union (minus (union x s) c) s) c) (minus-lt (union x s) c)
    (λ k h. has-minus (union (minus (union x s) c) s) c k h
    ∙ ap (λ a. a && not (has c k)) (has-union (minus (union x s) c) s k h ∙ ap (λ a. a || has s k) (has-minus (union x s) c k h ∙ ap (λ a. a && not (has c k)) (has-union x s k h)))
    ∙ changed_twice (has x k) (has s k) (has c k)
    ∙ sym (has-minus (union x s) c k h ∙ ap (λ a. a && not (has c k)) (has-union x s k h)))

flags_from_half : (s c x : ℕ) → minus (union (union x s) s) c ≡ minus (union x s) c
flags_from_half s c x = ap (λ y. minus y c) (union_again x s)

-- ---- messages

reflagged-twice : (g h : ℕ → ℕ) (uid : ℕ) (ms : List Message) → reflagged g uid (reflagged h uid ms) ≡ reflagged (λ x. g (h x)) uid ms
reflagged-twice g h uid [] = refl
reflagged-twice g h uid (m ∷ ms) = by_test (m.uid == uid) refl (reflagged-twice g h uid ms)
  where
    by_test : (a : Bool) → (m.uid == uid) ≡ a → reflagged g uid (reflagged h uid ms) ≡ reflagged (λ x. g (h x)) uid ms →
        with_flags g uid (cond a (record m { flags = h m.flags }) m) ∷ reflagged g uid (reflagged h uid ms) ≡ cond a (record m { flags = g (h m.flags) }) m ∷ reflagged (λ x. g (h x)) uid ms
    by_test true e rest = rw e (ap (λ (xs : List Message). record m { flags = g (h m.flags) } ∷ xs) rest)
    by_test false e rest = rw e (ap (λ (xs : List Message). m ∷ xs) rest)

reflagged_agree : (g h : ℕ → ℕ) (uid : ℕ) → ((x : ℕ) → g x ≡ h x) → (ms : List Message) → reflagged g uid ms ≡ reflagged h uid ms
reflagged_agree g h uid e [] = refl
reflagged_agree g h uid e (m ∷ ms) =
    ap (λ x. cond (m.uid == uid) (record m { flags = x }) m ∷ reflagged g uid ms) (e m.flags)
    ∙ ap (λ (xs : List Message). with_flags h uid m ∷ xs) (reflagged_agree g h uid e ms)

without-twice : (uid : ℕ) (ms : List Message) → without uid (without uid ms) ≡ without uid ms
without-twice uid [] = refl
without-twice uid (m ∷ ms) = by_test (m.uid == uid) refl (without-twice uid ms)
  where
    by_test : (a : Bool) → (m.uid == uid) ≡ a → without uid (without uid ms) ≡ without uid ms → without uid (cond (not a) (m ∷ without uid ms) (without uid ms)) ≡ cond (not a) (m ∷ without uid ms) (without uid ms)
    by_test true e rest = rest
    by_test false e rest = rw e (ap (λ (xs : List Message). m ∷ xs) rest)

-- ---- boxes

-- two changes of one side are one
two_changes : (b : Boxes) (side : Side) (g h k : List Message → List Message) → g (h (box b side)) ≡ k (box b side) →
    with_box (with_box b side (h (box b side))) side (g (box (with_box b side (h (box b side))) side)) ≡ with_box b side (k (box b side))
two_changes b side g h k e =
    with-with b side (h (box b side)) _
    ∙ ap (λ (ms : List Message). with_box b side (g ms)) (box-with b side (h (box b side)))
    ∙ ap (λ (ms : List Message). with_box b side ms) e

two_flags : (b : Boxes) (side : Side) (uid : ℕ) (g h k : ℕ → ℕ) → ((x : ℕ) → g (h x) ≡ k x) →
    with_box (with_box b side (reflagged h uid (box b side))) side (reflagged g uid (box (with_box b side (reflagged h uid (box b side))) side)) ≡ with_box b side (reflagged k uid (box b side))
two_flags b side uid g h k e =
    two_changes b side (reflagged g uid) (reflagged h uid) (reflagged k uid) (reflagged-twice g h uid (box b side) ∙ reflagged_agree (λ x. g (h x)) k uid e (box b side))

pub again : StepAgain
again b (New d u flags mark) r q h = absurd (false≢true (sym h))
again b (Gone d f n) r q h = two_flags b (target d) (changed_uid d f n) with_deleted with_deleted with_deleted deleted_again
again b (Flags d f n set cleared) r q h =
    two_flags b (target d) (changed_uid d f n) (λ x. minus (union x set) cleared) (λ x. minus (union x set) cleared) (λ x. minus (union x set) cleared) (flags_again set cleared)
again b (Expunge side u) r q h = two_changes b side (without u) (without u) (without u) (without-twice u (box b side))

pub from_half : StepFromHalf
from_half b d f n set cleared r = two_flags b (target d) (changed_uid d f n) (λ x. minus (union x set) cleared) (λ x. union x set) (λ x. minus (union x set) cleared) (flags_from_half set cleared)

pub in_halves : StepInHalves
in_halves b d f n set cleared r = two_flags b (target d) (changed_uid d f n) (λ x. minus x cleared) (λ x. union x set) (λ x. minus (union x set) cleared) (λ x. refl)
