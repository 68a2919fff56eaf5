-- Changes of the flags of one message, one after another, and among messages of others.
use Rattle.std.proofs.Common.{◌≡◌, ℕ, Bool, true, false, cond, List, [], ◌∷◌, refl, ap, ◌∙◌}
use Rattle.std.specs.Prelude.{◌==◌}
use Rattle.mailcore.specs.declared.side.Side.{Side}
use Rattle.mailcore.specs.declared.side.Side.TheVariants.{Far, Near}
use Rattle.mailcore.specs.declared.mailbox.Message.{Message}
use Rattle.law_outcome.specs.Steps.{Boxes, box, with_box, reflagged, Test, own_in, own}

-- both mailboxes with the flags of a message of a side changed
abbrev pub flagged : Boxes → Side → (uid : ℕ) → (ℕ → ℕ) → Boxes
flagged b side uid change = with_box b side (reflagged change uid (box b side))

reflagged_twice : (g h k : ℕ → ℕ) → ((x : ℕ) → g (h x) ≡ k x) → (uid : ℕ) (ms : List Message) → reflagged g uid (reflagged h uid ms) ≡ reflagged k uid ms
reflagged_twice g h k e uid [] = refl
reflagged_twice g h k e uid (m ∷ ms) = by_test (m.uid == uid) refl (reflagged_twice g h k e uid ms)
  where
    by_test : (b : Bool) → (m.uid == uid) ≡ b → reflagged g uid (reflagged h uid ms) ≡ reflagged k uid ms → reflagged g uid (cond b (record m { flags = h m.flags }) m ∷ reflagged h uid ms) ≡ cond b (record m { flags = k m.flags }) m ∷ reflagged k uid ms
    by_test true is rest = rw is (ap (λ (x : ℕ). record m { flags = x } ∷ reflagged g uid (reflagged h uid ms)) (e m.flags) ∙ ap (λ (xs : List Message). record m { flags = k m.flags } ∷ xs) rest)
    by_test false is rest = rw is (ap (λ (xs : List Message). m ∷ xs) rest)

reflagged_same : (g k : ℕ → ℕ) → ((x : ℕ) → g x ≡ k x) → (uid : ℕ) (ms : List Message) → reflagged g uid ms ≡ reflagged k uid ms
reflagged_same g k e uid [] = refl
reflagged_same g k e uid (m ∷ ms) = by_test (m.uid == uid) (reflagged_same g k e uid ms)
  where
    by_test : (b : Bool) → reflagged g uid ms ≡ reflagged k uid ms → cond b (record m { flags = g m.flags }) m ∷ reflagged g uid ms ≡ cond b (record m { flags = k m.flags }) m ∷ reflagged k uid ms
    by_test true rest = ap (λ (x : ℕ). record m { flags = x } ∷ reflagged g uid ms) (e m.flags) ∙ ap (λ (xs : List Message). record m { flags = k m.flags } ∷ xs) rest
    by_test false rest = ap (λ (xs : List Message). m ∷ xs) rest

-- two changes that are one
pub flagged_twice : (b : Boxes) (side : Side) (uid : ℕ) (g h k : ℕ → ℕ) → ((x : ℕ) → g (h x) ≡ k x) → flagged (flagged b side uid h) side uid g ≡ flagged b side uid k
flagged_twice b Far uid g h k e = ap (λ (ms : List Message). record b { far = ms }) (reflagged_twice g h k e uid b.far)
flagged_twice b Near uid g h k e = ap (λ (ms : List Message). record b { near = ms }) (reflagged_twice g h k e uid b.near)

pub flagged_same : (b : Boxes) (side : Side) (uid : ℕ) (g k : ℕ → ℕ) → ((x : ℕ) → g x ≡ k x) → flagged b side uid g ≡ flagged b side uid k
flagged_same b Far uid g k e = ap (λ (ms : List Message). record b { far = ms }) (reflagged_same g k e uid b.far)
flagged_same b Near uid g k e = ap (λ (ms : List Message). record b { near = ms }) (reflagged_same g k e uid b.near)

-- ---- among others

reflagged_own : (test : Test) (side : Side) (change : ℕ → ℕ) (uid : ℕ) (ms : List Message) → own_in test side (reflagged change uid ms) ≡ reflagged change uid (own_in test side ms)
reflagged_own test side change uid [] = refl
reflagged_own test side change uid (m ∷ ms) = by_tests (m.uid == uid) (test side m.uid m.bytes) refl refl (reflagged_own test side change uid ms)
  where
    by_tests : (a b : Bool) → (m.uid == uid) ≡ a → test side m.uid m.bytes ≡ b → own_in test side (reflagged change uid ms) ≡ reflagged change uid (own_in test side ms) →
        own_in test side (cond a (record m { flags = change m.flags }) m ∷ reflagged change uid ms) ≡ reflagged change uid (cond b (m ∷ own_in test side ms) (own_in test side ms))
    by_tests true true e f rest = rw (e, f) (ap (λ (xs : List Message). record m { flags = change m.flags } ∷ xs) rest)
    by_tests true false e f rest = rw f rest
    by_tests false true e f rest = rw (e, f) (ap (λ (xs : List Message). m ∷ xs) rest)
    by_tests false false e f rest = rw f rest

pub flagged_own : (test : Test) (b : Boxes) (side : Side) (uid : ℕ) (change : ℕ → ℕ) → own test (flagged b side uid change) ≡ flagged (own test b) side uid change
flagged_own test b Far uid change = ap (λ (ms : List Message). record { far = ms; near = own_in test Near b.near }) (reflagged_own test Far change uid b.far)
flagged_own test b Near uid change = ap (λ (ms : List Message). record { far = own_in test Far b.far; near = ms }) (reflagged_own test Near change uid b.near)
