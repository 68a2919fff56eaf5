-- Which steps of a plan leave a message alone, and walks of which one element alone does something to it.
use Rattle.std.proofs.Common.{◌≡◌, ℕ, true, false, cond, List, [], ◌∷◌, Option, Some, None, refl, sym, ap, ◌∙◌, subst, inl, inr, ◌⊎◌}
use Rattle.std.specs.Prelude.{AllPairs, Contains, ◌&&◌, ◌==◌, not, is_some}
use Rattle.std.specs.List.{filter_map, cons_option}
use Rattle.std.proofs.lemmas.Bool.{cases_Bool, both_ways, and_left, and_right, ne_eqb, not_from_false, eq-eqb, and_from, cases_eq, not_from_true}
use Rattle.mailcore.specs.declared.side.Side.{Side}
use Rattle.mailcore.specs.declared.side.Side.TheVariants.{Far, Near}
use Rattle.mailcore.specs.declared.side.Direction.{Direction}
use Rattle.mailcore.specs.declared.side.Direction.TheVariants.{Pull, Push}
use Rattle.mailcore.specs.declared.listing.Item.{Item}
use Rattle.mailcore.specs.Sides.{target}
use Rattle.rules.specs.declared.entry.Entry.{Entry}
use Rattle.rules.specs.declared.entry.ListedPair.{ListedPair}
use Rattle.rules.specs.declared.plan.Step.{Step}
use Rattle.rules.specs.declared.plan.Step.TheVariants.{Gone, Flags, Expunge}
use Rattle.rules.specs.Entries.{uid_of, uid_on}
use Rattle.rules.specs.Scene.{Scene, items, flags_at}
use Rattle.rules.specs.Called.{is_expunged, pair_of}
use Rattle.planner.specs.Written.{gone_step, gone_steps, flags_step, flags_steps, expunge_step, expunge_steps}
use Rattle.rules.proofs.Walks.{Contains-first, Contains-rest, Contains-cases, Contains-none, AllPairs-head, AllPairs-tail, All-filter_map, Contains-filter_map}
use Rattle.rules.proofs.LookUps.{IsPairOf, full_found}
use Rattle.planner.proofs.Following.{gone_given, flags_given, expunge_given}
use Rattle.law_outcome.specs.Steps.{changed_uid, is_side}
use Rattle.law_outcome.proofs.Changes.{hits, flags_then, stays, flags_all, stays_all, Leaves, Spares, flags_all-left, stays_all-spared}

-- ---- walks

abbrev pub then_maybe : Side → Option Step → (uid flags : ℕ) → ℕ
then_maybe side None u x = x
then_maybe side (Some s) u x = flags_then side s u x

abbrev pub Idle : Side → (uid : ℕ) → Option Step → Type 0
Idle side u o = (x : ℕ) → then_maybe side o u x ≡ x

pub idle_from : (side : Side) (u : ℕ) (o : Option Step) → ((s : Step) → o ≡ Some s → Leaves side u s) → Idle side u o
idle_from side u None h x = refl
idle_from side u (Some s) h x = h s refl x

flags_cons : (side : Side) (u x : ℕ) (o : Option Step) (steps : List Step) → flags_all side (cons_option o steps) u x ≡ flags_all side steps u (then_maybe side o u x)
flags_cons side u x None steps = refl
flags_cons side u x (Some s) steps = refl

pub walk-none : {X : Type 0} (side : Side) (u : ℕ) (f : X → Option Step) (xs : List X) → ((y : X) → Contains xs y → Idle side u (f y)) → (x : ℕ) → flags_all side (filter_map f xs) u x ≡ x
walk-none side u f [] h x = refl
walk-none side u f (y ∷ ys) h x =
    flags_cons side u x (f y) (filter_map f ys)
    ∙ ap (λ z. flags_all side (filter_map f ys) u z) (h y (Contains-first y ys) x)
    ∙ walk-none side u f ys (λ z c. h z (Contains-rest y z ys c)) x

-- one element alone changes the message
pub walk-one : {X : Type 0} (side : Side) (u : ℕ) (f : X → Option Step) (Q : X → X → Type 0) (Mine : X → Type 0) → ((a b : X) → Q a b → Mine a → Mine b → ⊥) →
    (xs : List X) → AllPairs Q xs → ((y : X) → Contains xs y → Mine y ⊎ Idle side u (f y)) → (z : X) → Contains xs z → Mine z → (x : ℕ) →
    flags_all side (filter_map f xs) u x ≡ then_maybe side (f z) u x
walk-one side u f Q Mine clash [] p h z c m x = absurd (Contains-none z c)
walk-one {X} side u f Q Mine clash (y ∷ ys) p h z c m x =
    flags_cons side u x (f y) (filter_map f ys) ∙ elim (Contains-cases y z ys c) [
      | inl here ↦ walk-none side u f ys (λ w d. others w d (subst (λ (a : X). Mine a) (sym here) m)) (then_maybe side (f y) u x) ∙ ap (λ (a : X). then_maybe side (f a) u x) here
      | inr rest ↦ ap (λ a. flags_all side (filter_map f ys) u a) (first rest x)
          ∙ walk-one side u f Q Mine clash ys (AllPairs-tail Q y ys p) (λ w d. h w (Contains-rest y w ys d)) z rest m x
    ]
  where
    others : (w : X) → Contains ys w → Mine y → Idle side u (f w)
    others w d mine = elim (h w (Contains-rest y w ys d)) [ inl too ↦ absurd (clash y w (AllPairs-head Q y ys p w d) mine too) | inr idle ↦ idle ]

    first : Contains ys z → Idle side u (f y)
    first rest = elim (h y (Contains-first y ys)) [ inl too ↦ absurd (clash y z (AllPairs-head Q y ys p z rest) too m) | inr idle ↦ idle ]

-- ---- what a step hits

pub is_side-same : (side : Side) → is_side side side ≡ true
is_side-same Far = refl
is_side-same Near = refl

pub hits_not : (side : Side) (d : Direction) (f n u : ℕ) → (u ≡ changed_uid d f n → ⊥) → hits side d f n u ≡ false
hits_not side d f n u h = and_right (is_side (target d) side) (u == changed_uid d f n) (ne_eqb u (changed_uid d f n) h)

pub hits_other : (side : Side) (d : Direction) (f n u : ℕ) → is_side (target d) side ≡ false → hits side d f n u ≡ false
hits_other side d f n u h = and_left (is_side (target d) side) (u == changed_uid d f n) h

pub hits_it : (d : Direction) (f n u : ℕ) → u ≡ changed_uid d f n → hits (target d) d f n u ≡ true
hits_it d f n u h = and_from (is_side (target d) (target d)) (u == changed_uid d f n) (is_side-same (target d)) (eq-eqb u (changed_uid d f n) h)

gone_leaves : (side : Side) (d : Direction) (f n u : ℕ) → hits side d f n u ≡ false → Leaves side u (Gone d f n)
gone_leaves side d f n u h x = rw h refl

flags_leaves : (side : Side) (d : Direction) (f n set cleared u : ℕ) → hits side d f n u ≡ false → Leaves side u (Flags d f n set cleared)
flags_leaves side d f n set cleared u h x = rw h refl

pub gone_uid : (d : Direction) (e : Entry) → changed_uid d (uid_of Far e) (uid_of Near e) ≡ uid_of (target d) e
gone_uid Pull e = refl
gone_uid Push e = refl

pub pair_uid : (s : Scene) (d : Direction) (e : Entry) (p : ListedPair) → IsPairOf s e p → uid_on (target d) e ≡ Some (changed_uid d p.far p.near)
pair_uid s Pull e p q = q.near
pair_uid s Push e p q = q.far

pub pair_flags : (s : Scene) (d : Direction) (e : Entry) (p : ListedPair) → IsPairOf s e p → is_some (flags_at (items s (target d)) (changed_uid d p.far p.near)) ≡ true
pair_flags s Pull e p q = ap (λ (o : Option ℕ). is_some o) q.near_flags
pair_flags s Push e p q = ap (λ (o : Option ℕ). is_some o) q.far_flags

-- ---- gone

-- a gone step of a message with another UID
pub gone_idle : (s : Scene) (side : Side) (d : Direction) (u : ℕ) (i : Item) → (i.uid ≡ u → ⊥) → Idle side u (gone_step s d i)
gone_idle s side d u i h =
    idle_from side u (gone_step s d i)
    (λ st e. let r = gone_given s d i st e in let f = full_found s (target d) i.uid r.0 r.1 in
    subst (Leaves side u) r.3 (gone_leaves side d (uid_of Far r.0) (uid_of Near r.0) u (hits_not side d (uid_of Far r.0) (uid_of Near r.0) u (λ same. h (sym f.2 ∙ sym (gone_uid d r.0) ∙ sym same)))))

-- gone steps of the other direction
pub gone_other : (s : Scene) (side : Side) (d : Direction) (u : ℕ) → is_side (target d) side ≡ false → (x : ℕ) → flags_all side (gone_steps s d) u x ≡ x
gone_other s side d u h =
    walk-none side u (gone_step s d) (items s (target d))
    (λ i c. idle_from side u (gone_step s d i)
    (λ st e. let r = gone_given s d i st e in subst (Leaves side u) r.3 (gone_leaves side d (uid_of Far r.0) (uid_of Near r.0) u (hits_other side d (uid_of Far r.0) (uid_of Near r.0) u h))))

-- ---- flags

-- a flags step of an entry either has the message's UID, or leaves it alone
pub flags_each : (s : Scene) (side : Side) (d : Direction) (u : ℕ) (e : Entry) → ((p : ListedPair) × (pair_of s e ≡ Some p) × (changed_uid d p.far p.near ≡ u)) ⊎ Idle side u (flags_step s d e)
flags_each s side d u e = by_step (flags_step s d e) refl
  where
    by_step : (o : Option Step) → flags_step s d e ≡ o → ((p : ListedPair) × (pair_of s e ≡ Some p) × (changed_uid d p.far p.near ≡ u)) ⊎ Idle side u o
    by_step None h = inr (λ x. refl)
    by_step (Some st) h =
        let r = flags_given s d e st h in
        let p : ListedPair = r.0 in
        elim (cases_eq (changed_uid d p.far p.near) u) [
          | inl same ↦ inl (p, r.2, same)
          | inr other ↦ inr (λ x. subst (Leaves side u) r.4 (flags_leaves side d p.far p.near _ _ u (hits_not side d p.far p.near u (λ k. other (sym k)))) x)
        ]

pub flags_other : (s : Scene) (side : Side) (d : Direction) (u : ℕ) → is_side (target d) side ≡ false → (x : ℕ) → flags_all side (flags_steps s d) u x ≡ x
flags_other s side d u h =
    walk-none side u (flags_step s d) s.entries
    (λ e c. idle_from side u (flags_step s d e)
    (λ st k. let r = flags_given s d e st k in subst (Leaves side u) r.4 (flags_leaves side d r.0.far r.0.near _ _ u (hits_other side d r.0.far r.0.near u h))))

-- ---- expunges

pub expunge_leaves : (s : Scene) (side at : Side) (u : ℕ) → (x : ℕ) → flags_all side (expunge_steps s at) u x ≡ x
expunge_leaves s side at u =
    flags_all-left side u (expunge_steps s at)
    (All-filter_map (Leaves side u) (expunge_step s at) (items s at) (λ i c st h. let r = expunge_given s at i st h in subst (Leaves side u) r.1 (λ x. refl)))

pub gone_spares : (s : Scene) (side : Side) (d : Direction) (u : ℕ) → stays_all side (gone_steps s d) u ≡ true
gone_spares s side d u =
    stays_all-spared side u (gone_steps s d)
    (All-filter_map (Spares side u) (gone_step s d) (items s (target d)) (λ i c st h. subst (Spares side u) (gone_given s d i st h).3 refl))

pub flags_spare : (s : Scene) (side : Side) (d : Direction) (u : ℕ) → stays_all side (flags_steps s d) u ≡ true
flags_spare s side d u =
    stays_all-spared side u (flags_steps s d)
    (All-filter_map (Spares side u) (flags_step s d) s.entries (λ e c st h. subst (Spares side u) (flags_given s d e st h).4 refl))

-- expunges of another side, or of none with this UID
pub expunge_spares : (s : Scene) (side at : Side) (u : ℕ) → ((i : Item) → Contains (items s at) i → is_expunged s at i.uid ≡ true → (is_side at side && u == i.uid) ≡ false) → stays_all side (expunge_steps s at) u ≡ true
expunge_spares s side at u h =
    stays_all-spared side u (expunge_steps s at)
    (All-filter_map (Spares side u) (expunge_step s at) (items s at)
    (λ i c st k. let r = expunge_given s at i st k in subst (Spares side u) r.1 (not_from_false (is_side at side && u == i.uid) (h i c r.0))))

stays_all-removed : (side : Side) (u : ℕ) (steps : List Step) (s : Step) → Contains steps s → stays side s u ≡ false → stays_all side steps u ≡ false
stays_all-removed side u [] s c h = absurd (Contains-none s c)
stays_all-removed side u (t ∷ steps) s c h = elim (Contains-cases t s steps c) [
  | inl same ↦ and_left (stays side t u) (stays_all side steps u) (ap (λ (a : Step). stays side a u) same ∙ h)
  | inr rest ↦ and_right (stays side t u) (stays_all side steps u) (stays_all-removed side u steps s rest h)
]

-- the message with this UID stays exactly if it is not called to be expunged
pub expunge_removes : (s : Scene) (side : Side) (i : Item) → Contains (items s side) i → stays_all side (expunge_steps s side) i.uid ≡ not (is_expunged s side i.uid)
expunge_removes s side i c = elim (cases_Bool (is_expunged s side i.uid)) [
  | inl goes ↦ stays_all-removed side i.uid (expunge_steps s side) (Expunge side i.uid)
      (Contains-filter_map (expunge_step s side) (items s side) i (Expunge side i.uid) c (ap (λ a. cond a (Some (Expunge side i.uid)) None) goes))
      (not_from_true _ (and_from (is_side side side) (i.uid == i.uid) (is_side-same side) (eq-eqb i.uid i.uid refl)))
      ∙ sym (not_from_true (is_expunged s side i.uid) goes)
  | inr kept ↦ expunge_spares s side side i.uid (λ j d k. and_right (is_side side side) (i.uid == j.uid) (ne_eqb i.uid j.uid (λ e. both_ways (is_expunged s side i.uid) kept (ap (λ u. is_expunged s side u) e ∙ k))))
      ∙ sym (not_from_false (is_expunged s side i.uid) kept)
]
