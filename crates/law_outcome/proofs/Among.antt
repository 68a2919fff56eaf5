-- Steps among messages that others have added.
use Rattle.std.proofs.Common.{◌≡◌, ℕ, Bool, true, false, cond, List, [], ◌∷◌, ◌++◌, Option, Some, None, refl, sym, ap, ◌∙◌, append-nil}
use Rattle.std.specs.Prelude.{All, find, not, ◌==◌, unwrap_or}
use Rattle.std.specs.Option.{option_map}
use Rattle.std.proofs.lemmas.Bool.{both_ways, eqb-true}
use Rattle.std.proofs.lemmas.List.Elements.{filter-append, All-head, All-tail}
use Rattle.mailcore.specs.declared.side.Side.{Side}
use Rattle.mailcore.specs.declared.side.Side.TheVariants.{Far, Near}
use Rattle.mailcore.specs.declared.mailbox.Message.{Message}
use Rattle.mailcore.specs.FlagSet.{union, minus}
use Rattle.mailcore.specs.Sides.{source, target}
use Rattle.rules.specs.declared.plan.Step.TheVariants.{New, Gone, Flags, Expunge}
use Rattle.rules.specs.FlagRule.{with_deleted}
use Rattle.rules.specs.Copies.{copy_of}
use Rattle.law_outcome.specs.Steps.{Boxes, box, with_box, reflagged, without, bytes_at, changed_uid, step_after, Test, own_in, own}
use Rattle.law_outcome.specs.StepLaws.{OthersUnseen, StepAmongOthers, AfterMoreAmongOthers}
use Rattle.law_outcome.proofs.Fold.{after-more}

-- what fails is left out
none_kept : (test : Test) (side : Side) (more : List Message) → All (λ m. test side m.uid m.bytes ≡ false) more → own_in test side more ≡ []
none_kept test side [] h = refl
none_kept test side (m ∷ more) h =
    let e : test side m.uid m.bytes ≡ false = All-head (λ (x : Message). test side x.uid x.bytes ≡ false) m more h in
    rw e (none_kept test side more (All-tail (λ (x : Message). test side x.uid x.bytes ≡ false) m more h))

pub unseen : OthersUnseen
unseen test side ms more h =
    filter-append (λ (m : Message). test side m.uid m.bytes) ms more
    ∙ ap (λ (xs : List Message). own_in test side ms ++ xs) (none_kept test side more h)
    ∙ append-nil (own_in test side ms)

own_reflagged : (test : Test) (side : Side) (change : ℕ → ℕ) (uid : ℕ) (ms : List Message) → own_in test side (reflagged change uid ms) ≡ reflagged change uid (own_in test side ms)
own_reflagged test side change uid [] = refl
own_reflagged test side change uid (m ∷ ms) = by_tests (m.uid == uid) (test side m.uid m.bytes) refl refl (own_reflagged test side change uid ms)
  where
    by_tests : (a b : Bool) → (m.uid == uid) ≡ a → test side m.uid m.bytes ≡ b → own_in test side (reflagged change uid ms) ≡ reflagged change uid (own_in test side ms) →
        own_in test side (cond a (record m { flags = change m.flags }) m ∷ reflagged change uid ms) ≡ reflagged change uid (cond b (m ∷ own_in test side ms) (own_in test side ms))
    by_tests true true e f rest = rw (e, f) (ap (λ (xs : List Message). record m { flags = change m.flags } ∷ xs) rest)
    by_tests true false e f rest = rw f rest
    by_tests false true e f rest = rw (e, f) (ap (λ (xs : List Message). m ∷ xs) rest)
    by_tests false false e f rest = rw f rest

own_without : (test : Test) (side : Side) (uid : ℕ) (ms : List Message) → own_in test side (without uid ms) ≡ without uid (own_in test side ms)
own_without test side uid [] = refl
own_without test side uid (m ∷ ms) = by_tests (m.uid == uid) (test side m.uid m.bytes) refl refl (own_without test side uid ms)
  where
    by_tests : (a b : Bool) → (m.uid == uid) ≡ a → test side m.uid m.bytes ≡ b → own_in test side (without uid ms) ≡ without uid (own_in test side ms) →
        own_in test side (cond (not a) (m ∷ without uid ms) (without uid ms)) ≡ without uid (cond b (m ∷ own_in test side ms) (own_in test side ms))
    by_tests true true e f rest = rw e rest
    by_tests true false e f rest = rest
    by_tests false true e f rest = rw (e, f) (ap (λ (xs : List Message). m ∷ xs) rest)
    by_tests false false e f rest = rw f rest

own_copy : (test : Test) (side : Side) (ms : List Message) (c : Message) → test side c.uid c.bytes ≡ true → own_in test side (ms ++ c ∷ []) ≡ own_in test side ms ++ c ∷ []
own_copy test side ms c h = filter-append (λ (m : Message). test side m.uid m.bytes) ms (c ∷ []) ∙ ap (λ b. own_in test side ms ++ cond b (c ∷ []) []) h

own_bytes : (test : Test) (side : Side) (u : ℕ) (ms : List Message) → All (λ m. m.uid ≡ u → test side m.uid m.bytes ≡ true) ms → bytes_at u (own_in test side ms) ≡ bytes_at u ms
own_bytes test side u [] h = refl
own_bytes test side u (m ∷ ms) h =
    by_tests (m.uid == u) (test side m.uid m.bytes) refl (λ e. All-head (λ (x : Message). x.uid ≡ u → test side x.uid x.bytes ≡ true) m ms h (eqb-true m.uid u e))
    (own_bytes test side u ms (All-tail (λ (x : Message). x.uid ≡ u → test side x.uid x.bytes ≡ true) m ms h))
  where
    by_tests : (a b : Bool) → (m.uid == u) ≡ a → (a ≡ true → b ≡ true) → bytes_at u (own_in test side ms) ≡ bytes_at u ms →
        bytes_at u (cond b (m ∷ own_in test side ms) (own_in test side ms)) ≡ option_map (λ (x : Message). x.bytes) (cond a (Some m) (find (λ (x : Message). x.uid == u) ms))
    by_tests true true e f rest = rw e refl
    by_tests true false e f rest = absurd (both_ways false refl (f refl))
    by_tests false true e f rest = rw e rest
    by_tests false false e f rest = rest

own-with : (test : Test) (b : Boxes) (side : Side) (ms : List Message) → own test (with_box b side ms) ≡ with_box (own test b) side (own_in test side ms)
own-with test b Far ms = refl
own-with test b Near ms = refl

box-own : (test : Test) (b : Boxes) (side : Side) → own_in test side (box b side) ≡ box (own test b) side
box-own test b Far = refl
box-own test b Near = refl

-- a change of one side commutes with what is seen
commutes : (test : Test) (b : Boxes) (side : Side) (change : List Message → List Message) → own_in test side (change (box b side)) ≡ change (own_in test side (box b side)) →
    own test (with_box b side (change (box b side))) ≡ with_box (own test b) side (change (box (own test b) side))
commutes test b side change h =
    own-with test b side (change (box b side))
    ∙ ap (λ (ms : List Message). with_box (own test b) side ms) h
    ∙ ap (λ (ms : List Message). with_box (own test b) side (change ms)) (box-own test b side)

pub among : StepAmongOthers
among test b (New d u flags mark) None h = refl
among test b (New d u flags mark) (Some uid) h =
    let side : Side = target d in
    let c : List ℕ → Message = λ bytes. copy_of side uid flags mark bytes in
    let bytes : List ℕ = unwrap_or (bytes_at u (box b (source d))) [] in
    commutes test b side (λ ms. ms ++ c bytes ∷ []) (own_copy test side (box b side) (c bytes) h.0)
    ∙ ap (λ (o : Option (List ℕ)). with_box (own test b) side (box (own test b) side ++ c (unwrap_or o []) ∷ []))
    (sym (own_bytes test (source d) u (box b (source d)) h.1) ∙ ap (λ (ms : List Message). bytes_at u ms) (box-own test b (source d)))
among test b (Gone d f n) r h = commutes test b (target d) (reflagged with_deleted (changed_uid d f n)) (own_reflagged test (target d) with_deleted (changed_uid d f n) (box b (target d)))
among test b (Flags d f n set cleared) r h =
    commutes test b (target d) (reflagged (λ x. minus (union x set) cleared) (changed_uid d f n)) (own_reflagged test (target d) (λ x. minus (union x set) cleared) (changed_uid d f n) (box b (target d)))
among test b (Expunge side u) r h = commutes test b side (without u) (own_without test side u (box b side))

pub more_among : AfterMoreAmongOthers
more_among test steps results s r opening b found below is e same own_step =
    among test found s r own_step
    ∙ ap (λ (x : Boxes). step_after x s r) (same ∙ e)
    ∙ sym (after-more steps results s r opening below is)
