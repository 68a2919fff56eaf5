-- Calls that are a whole step.
use Rattle.std.proofs.Common.{◌≡◌, ℕ, Bool, true, false, not, ◌==◌, List, [], ◌∷◌, None, refl, ap, subst, ◌∙◌, ◌^◌}
use Rattle.std.specs.Prelude.{All, filter, ◌&&◌}
use Rattle.std.proofs.lemmas.Bool.{both_ways, eqb-true}
use Rattle.std.proofs.lemmas.List.Elements.{All-head, All-tail}
use Rattle.mailcore.specs.declared.side.Side.{Side}
use Rattle.mailcore.specs.declared.side.Direction.{Direction}
use Rattle.mailcore.specs.declared.mailbox.Message.{Message}
use Rattle.mailcore.specs.FlagSet.{DELETED, has, union}
use Rattle.mailcore.specs.Operations.{flags_added}
use Rattle.mailcore.specs.Sides.{target}
use Rattle.rules.specs.declared.plan.Step.TheVariants as step
use Rattle.rules.specs.FlagRule.{with_deleted}
use Rattle.law_outcome.specs.Steps.{Boxes, changed_uid, step_after, without, box as messages_in, with_box as with_messages_in}
use Rattle.outside.specs.MailboxOperations.{removed}
use Rattle.outside.specs.BoxCalls.{Turns}
use Rattle.outside.specs.Devices.{Device}
use Rattle.run_states.specs.Moments.{boxes_at}
use Rattle.run_states.specs.Plans.{names_of}
use Rattle.run_states.proofs.Flagged.{flagged_same}
use Rattle.run_states.proofs.Moves.{IsMoved, moved}
use Rattle.runner.specs.Going.{sets_some}

without_one : (uid : ℕ) (ms : List Message) → All (λ m. m.uid ≡ uid → has m.flags DELETED ≡ true) ms → filter (λ m. not (m.uid == uid && has m.flags DELETED)) ms ≡ without uid ms
without_one uid [] h = refl
without_one uid (m ∷ ms) h =
    by_test (m.uid == uid) (has m.flags DELETED) (λ e. All-head (λ (x : Message). x.uid ≡ uid → has x.flags DELETED ≡ true) m ms h (eqb-true m.uid uid e)) refl
    (without_one uid ms (All-tail (λ (x : Message). x.uid ≡ uid → has x.flags DELETED ≡ true) m ms h))
  where
    by_test : (a b : Bool) → ((m.uid == uid) ≡ true → has m.flags DELETED ≡ true) → (m.uid == uid) ≡ a → filter (λ x. not (x.uid == uid && has x.flags DELETED)) ms ≡ without uid ms →
        filter (λ x. not (x.uid == uid && has x.flags DELETED)) (m ∷ ms) ≡ without uid (m ∷ ms)
    by_test true b go e rest = rw (e, go e) rest
    by_test false b go e rest = rw e (ap (λ (xs : List Message). m ∷ xs) rest)

-- a message that is marked as deleted, if it is there, is removed
pub removed_is : (side : Side) (uid : ℕ) (d d' : Device) → All (λ m. m.uid ≡ uid → has m.flags DELETED ≡ true) (messages_in (boxes_at d) side) → Turns side uid (removed uid) d d' → IsMoved (names_of (step.Expunge side uid)) d d' (step_after (boxes_at d) (step.Expunge side uid) None)
removed_is side uid d d' h t =
    let ms = messages_in (boxes_at d) side in
    subst (λ (b : Boxes). IsMoved (names_of (step.Expunge side uid)) d d' b) (ap (λ (xs : List Message). with_messages_in (boxes_at d) side xs) (without_one uid ms h))
    (moved side uid (filter (λ m. not (m.uid == uid && has m.flags DELETED))) d d' t)

deleted_is : (x : ℕ) → union x (2 ^ DELETED) ≡ with_deleted x
unfolding with_deleted
deleted_is x = refl

pub marked : (direction : Direction) (far near flags : ℕ) (d d' : Device) → flags ≡ 2 ^ DELETED → Turns (target direction) (changed_uid direction far near) (flags_added (changed_uid direction far near) flags) d d' → IsMoved (names_of (step.Gone direction far near)) d d' (step_after (boxes_at d) (step.Gone direction far near) None)
marked direction far near flags d d' e t =
    subst (λ (b : Boxes). IsMoved (names_of (step.Gone direction far near)) d d' b) (flagged_same (boxes_at d) (target direction) (changed_uid direction far near) (λ x. union x flags) with_deleted (λ x. ap (λ (f : ℕ). union x f) e ∙ deleted_is x))
    (moved (target direction) (changed_uid direction far near) _ d d' t)

-- ---- which of the two calls of a flags step are made

pub sets_none : (set : ℕ) → sets_some set ≡ false → set ≡ 0
sets_none set e = by_test (set == 0) refl e
  where
    by_test : (a : Bool) → (set == 0) ≡ a → not a ≡ false → set ≡ 0
    by_test true is e = eqb-true set 0 is
    by_test false is e = absurd (both_ways true e refl)
