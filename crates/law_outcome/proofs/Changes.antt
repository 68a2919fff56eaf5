-- Steps that copy nothing, one after another, leave what each message comes to by itself.
use Rattle.std.proofs.Common.{◌≡◌, ℕ, ◌≤◌, Bool, true, false, cond, List, [], ◌∷◌, ◌++◌, Option, length, map, refl, sym, ap, ◌∙◌, arith}
use Rattle.std.specs.Prelude.{filter, not, ◌&&◌, ◌==◌, All}
use Rattle.std.proofs.lemmas.Bool.{false≢true}
use Rattle.std.proofs.lemmas.List.{map-append}
use Rattle.std.proofs.lemmas.List.Elements.{filter-append, All-head, All-tail}
use Rattle.mailcore.specs.declared.side.Side.{Side}
use Rattle.mailcore.specs.declared.side.Side.TheVariants.{Far, Near}
use Rattle.mailcore.specs.declared.side.Direction.{Direction}
use Rattle.mailcore.specs.declared.side.Direction.TheVariants.{Pull, Push}
use Rattle.mailcore.specs.declared.mailbox.Message.{Message}
use Rattle.mailcore.specs.FlagSet.{union, minus}
use Rattle.mailcore.specs.Sides.{target}
use Rattle.rules.specs.declared.plan.Step.{Step}
use Rattle.rules.specs.declared.plan.Step.TheVariants.{New, Gone, Flags, Expunge}
use Rattle.rules.specs.FlagRule.{with_deleted}
use Rattle.law_outcome.specs.Steps.{Boxes, box, reflagged, without, changed_uid, step_after, after, makes_copy, is_side}

-- ---- what a step makes of one message

-- a step that changes flags changes those of this message
abbrev pub hits : Side → Direction → (far near uid : ℕ) → Bool
hits side d f n uid = is_side (target d) side && uid == changed_uid d f n

-- the flags of the message with this UID after a step
abbrev pub flags_then : Side → Step → (uid flags : ℕ) → ℕ
flags_then side (New d u given mark) uid x = x
flags_then side (Gone d f n) uid x = cond (hits side d f n uid) (with_deleted x) x
flags_then side (Flags d f n set cleared) uid x = cond (hits side d f n uid) (minus (union x set) cleared) x
flags_then side (Expunge at u) uid x = x

-- it stays
abbrev pub stays : Side → Step → (uid : ℕ) → Bool
stays side (New d u given mark) uid = true
stays side (Gone d f n) uid = true
stays side (Flags d f n set cleared) uid = true
stays side (Expunge at u) uid = not (is_side at side && uid == u)

abbrev pub flags_all : Side → List Step → (uid flags : ℕ) → ℕ
flags_all side [] uid x = x
flags_all side (s ∷ steps) uid x = flags_all side steps uid (flags_then side s uid x)

abbrev pub stays_all : Side → List Step → (uid : ℕ) → Bool
stays_all side [] uid = true
stays_all side (s ∷ steps) uid = stays side s uid && stays_all side steps uid

-- ---- what is made of messages each by itself

abbrev pub with_new : (ℕ → ℕ → ℕ) → Message → Message
with_new g m = record { uid = m.uid; flags = g m.uid m.flags; bytes = m.bytes }

abbrev pub changed : (ℕ → Bool) → (ℕ → ℕ → ℕ) → List Message → List Message
changed p g ms = map (with_new g) (filter (λ m. p m.uid) ms)

pub unchanged : (ms : List Message) → ms ≡ changed (λ u. true) (λ u x. x) ms
unchanged [] = refl
unchanged (m ∷ ms) = ap (λ (xs : List Message). m ∷ xs) (unchanged ms)

pub changed-append : (p : ℕ → Bool) (g : ℕ → ℕ → ℕ) (xs ys : List Message) → changed p g (xs ++ ys) ≡ changed p g xs ++ changed p g ys
changed-append p g xs ys = ap (λ (l : List Message). map (with_new g) l) (filter-append (λ m. p m.uid) xs ys) ∙ map-append (with_new g) (filter (λ m. p m.uid) xs) (filter (λ m. p m.uid) ys)

pub changed-twice : (p q : ℕ → Bool) (g h : ℕ → ℕ → ℕ) (ms : List Message) → changed q h (changed p g ms) ≡ changed (λ u. p u && q u) (λ u x. h u (g u x)) ms
changed-twice p q g h [] = refl
changed-twice p q g h (m ∷ ms) = by_tests (p m.uid) (q m.uid) refl (changed-twice p q g h ms)
  where
    by_tests : (a b : Bool) → q m.uid ≡ b → changed q h (changed p g ms) ≡ changed (λ u. p u && q u) (λ u x. h u (g u x)) ms →
        changed q h (map (with_new g) (cond a (m ∷ filter (λ m. p m.uid) ms) (filter (λ m. p m.uid) ms)))
        ≡ map (with_new (λ u x. h u (g u x))) (cond (a && b) (m ∷ filter (λ m. p m.uid && q m.uid) ms) (filter (λ m. p m.uid && q m.uid) ms))
    by_tests true true e rest = rw e (ap (λ (xs : List Message). with_new (λ u x. h u (g u x)) m ∷ xs) rest)
    by_tests true false e rest = rw e rest
    by_tests false b e rest = rest

reflagged-changed : (change : ℕ → ℕ) (uid : ℕ) (ms : List Message) → reflagged change uid ms ≡ changed (λ u. true) (λ u x. cond (u == uid) (change x) x) ms
reflagged-changed change uid [] = refl
reflagged-changed change uid (m ∷ ms) = by_test (m.uid == uid) (reflagged-changed change uid ms)
  where
    by_test : (b : Bool) → reflagged change uid ms ≡ changed (λ u. true) (λ u x. cond (u == uid) (change x) x) ms →
        cond b (record m { flags = change m.flags }) m ∷ reflagged change uid ms
        ≡ record { uid = m.uid; flags = cond b (change m.flags) m.flags; bytes = m.bytes } ∷ changed (λ u. true) (λ u x. cond (u == uid) (change x) x) ms
    by_test true rest = ap (λ (xs : List Message). record m { flags = change m.flags } ∷ xs) rest
    by_test false rest = ap (λ (xs : List Message). m ∷ xs) rest

without-changed : (uid : ℕ) (ms : List Message) → without uid ms ≡ changed (λ u. not (u == uid)) (λ u x. x) ms
without-changed uid [] = refl
without-changed uid (m ∷ ms) = by_test (m.uid == uid) (without-changed uid ms)
  where
    by_test : (b : Bool) → without uid ms ≡ changed (λ u. not (u == uid)) (λ u x. x) ms →
        cond (not b) (m ∷ without uid ms) (without uid ms) ≡ map (with_new (λ u x. x)) (cond (not b) (m ∷ filter (λ m. not (m.uid == uid)) ms) (filter (λ m. not (m.uid == uid)) ms))
    by_test true rest = rest
    by_test false rest = ap (λ (xs : List Message). m ∷ xs) rest

-- ---- steps

pub step-changed : (side : Side) (s : Step) (r : Option ℕ) (b : Boxes) → makes_copy s ≡ false → box (step_after b s r) side ≡ changed (stays side s) (flags_then side s) (box b side)
step-changed side (New d u given mark) r b h = absurd (false≢true (sym h))
step-changed Near (Gone Pull f n) r b h = reflagged-changed with_deleted n b.near
step-changed Far (Gone Push f n) r b h = reflagged-changed with_deleted f b.far
step-changed Far (Gone Pull f n) r b h = unchanged b.far
step-changed Near (Gone Push f n) r b h = unchanged b.near
step-changed Near (Flags Pull f n set cleared) r b h = reflagged-changed (λ x. minus (union x set) cleared) n b.near
step-changed Far (Flags Push f n set cleared) r b h = reflagged-changed (λ x. minus (union x set) cleared) f b.far
step-changed Far (Flags Pull f n set cleared) r b h = unchanged b.far
step-changed Near (Flags Push f n set cleared) r b h = unchanged b.near
step-changed Far (Expunge Far u) r b h = without-changed u b.far
step-changed Near (Expunge Near u) r b h = without-changed u b.near
step-changed Far (Expunge Near u) r b h = unchanged b.far
step-changed Near (Expunge Far u) r b h = unchanged b.near

-- the steps one after another are each message's fate at once
pub all-changed : (side : Side) (steps : List Step) (results : List (Option ℕ)) (b : Boxes) → All (λ s. makes_copy s ≡ false) steps → length steps ≤ length results →
    box (after steps results b) side ≡ changed (stays_all side steps) (flags_all side steps) (box b side)
all-changed side [] results b h l = unchanged (box b side)
all-changed side (s ∷ steps) [] b h l = absurd (omega arith)
all-changed side (s ∷ steps) (r ∷ results) b h l =
    all-changed side steps results (step_after b s r) (All-tail (λ t. makes_copy t ≡ false) s steps h) (omega arith)
    ∙ ap (λ (ms : List Message). changed (stays_all side steps) (flags_all side steps) ms) (step-changed side s r b (All-head (λ t. makes_copy t ≡ false) s steps h))
    ∙ changed-twice (stays side s) (stays_all side steps) (flags_then side s) (flags_all side steps) (box b side)

-- ---- kinds of steps one after another

pub flags_all-append : (side : Side) (steps more : List Step) (u x : ℕ) → flags_all side (steps ++ more) u x ≡ flags_all side more u (flags_all side steps u x)
flags_all-append side [] more u x = refl
flags_all-append side (s ∷ steps) more u x = flags_all-append side steps more u (flags_then side s u x)

pub stays_all-append : (side : Side) (steps more : List Step) (u : ℕ) → stays_all side (steps ++ more) u ≡ (stays_all side steps u && stays_all side more u)
stays_all-append side [] more u = refl
stays_all-append side (s ∷ steps) more u = by_test (stays side s u) (stays_all-append side steps more u)
  where
    by_test : (a : Bool) → stays_all side (steps ++ more) u ≡ (stays_all side steps u && stays_all side more u) → (a && stays_all side (steps ++ more) u) ≡ ((a && stays_all side steps u) && stays_all side more u)
    by_test true e = e
    by_test false e = refl

-- steps that leave the flags of a message, and steps that leave the message
abbrev pub Leaves : Side → (uid : ℕ) → Step → Type 0
Leaves side uid s = (x : ℕ) → flags_then side s uid x ≡ x

abbrev pub Spares : Side → (uid : ℕ) → Step → Type 0
Spares side uid s = stays side s uid ≡ true

pub flags_all-left : (side : Side) (u : ℕ) (steps : List Step) → All (Leaves side u) steps → (x : ℕ) → flags_all side steps u x ≡ x
flags_all-left side u [] h x = refl
flags_all-left side u (s ∷ steps) h x =
    ap (λ y. flags_all side steps u y) (All-head (Leaves side u) s steps h x) ∙ flags_all-left side u steps (All-tail (Leaves side u) s steps h) x

pub stays_all-spared : (side : Side) (u : ℕ) (steps : List Step) → All (Spares side u) steps → stays_all side steps u ≡ true
stays_all-spared side u [] h = refl
stays_all-spared side u (s ∷ steps) h =
    ap (λ a. a && stays_all side steps u) (All-head (Spares side u) s steps h) ∙ stays_all-spared side u steps (All-tail (Spares side u) s steps h)
