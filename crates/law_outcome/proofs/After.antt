-- What is so of the scene after a run where Expunge covers no side, and what follows for its entries and pairs.
use Rattle.std.proofs.Common.{◌≡◌, ℕ, ◌<◌, ◌≤◌, ◌^◌, Bool, true, false, cond, Option, Some, None, is_some, refl, sym, ap, ◌∙◌, subst, inl, inr, ◌⊎◌}
use Rattle.std.specs.Prelude.{Contains, unwrap_or}
use Rattle.std.specs.Option.{option_map}
use Rattle.std.proofs.lemmas.Bool.{and_left}
use Rattle.std.proofs.lemmas.Option.{none-some, same_Some}
use Rattle.mailcore.specs.declared.side.Side.{Side}
use Rattle.mailcore.specs.declared.side.Side.TheVariants.{Far, Near}
use Rattle.mailcore.specs.declared.side.Direction.{Direction}
use Rattle.mailcore.specs.declared.side.Direction.TheVariants.{Pull, Push}
use Rattle.mailcore.specs.declared.listing.Item.{Item}
use Rattle.mailcore.specs.FlagSet.{FLAGS}
use Rattle.mailcore.specs.Sides.{source}
use Rattle.rules.specs.declared.entry.Entry.{Entry}
use Rattle.rules.specs.declared.entry.ListedPair.{ListedPair}
use Rattle.rules.specs.Propagation.{Drop}
use Rattle.rules.specs.FlagRule.{recorded_after}
use Rattle.rules.specs.Options.{goes, covers}
use Rattle.rules.specs.Entries.{ArePairs, uid_of, is_full}
use Rattle.rules.specs.Scene.{Scene, items, highest, flags_at, is_listed, is_paired, full_entry}
use Rattle.rules.specs.Called.{called, is_gone, is_expunged, is_deleted_then, flags_by, flags_with, flags_after}
use Rattle.rules.specs.Outcome.{entry_after, recorded_or}
use Rattle.rules.proofs.LookUps.{IsPairOf, pair_from, full_far, full_near, full_from, full_only}
use Rattle.law_outcome.proofs.FlagsAfter.{AreSettled, taken_if, old_settled, alike_settled}

-- an old entry that is not dropped, as it is after
pub record IsKept (s : Scene) (e : Entry) : Type 0 where
  pub old : Entry
  pub there : Contains s.entries old
  pub stays : called s (Drop (uid_of Far old) (uid_of Near old)) ≡ false
  pub after : entry_after s old ≡ e

-- the entry of a copy and its source
pub record IsFresh (t : Scene) (e : Entry) : Type 0 where
  pub far_uid : ℕ
  pub near_uid : ℕ
  pub flags : ℕ
  pub far : e.far ≡ Some far_uid
  pub near : e.near ≡ Some near_uid
  pub positive : 0 < far_uid
  pub far_flags : flags_at t.far far_uid ≡ Some flags
  pub near_flags : flags_at t.near near_uid ≡ Some flags
  pub noted : e.flags ≡ flags
  pub small : flags < 2 ^ FLAGS

-- the flags of a side's message after, by those before
abbrev pub changed : Scene → Side → ℕ → Option ℕ
changed s side u = option_map (flags_after s side u) (flags_at (items s side) u)

pub record IsAfter (s t : Scene) : Type 0 where
  pub options : t.options ≡ s.options
  pub pairs : ArePairs s.entries
  pub uncovered : (side : Side) → covers s.options.expunge side ≡ false
  pub flags : (side : Side) (e : Entry) → Contains s.entries e → flags_at (items t side) (uid_of side e) ≡ changed s side (uid_of side e)
  pub entries : (e : Entry) → Contains t.entries e → IsKept s e ⊎ IsFresh t e
  pub items : (d : Direction) → goes s.options.cells.new d ≡ true → (i : Item) → Contains (items t (source d)) i → (i.uid ≤ highest d t) ⊎ (is_paired t (source d) i.uid ≡ true)

-- ---- nothing is expunged, and what was listed is listed

pub not_expunged : (s : Scene) (side : Side) (u : ℕ) → covers s.options.expunge side ≡ false → is_expunged s side u ≡ false
not_expunged s side u h = and_left (covers s.options.expunge side) (is_deleted_then s side u (flags_at (items s side) u)) h

pub after_uncovered : (s t : Scene) → IsAfter s t → (side : Side) → covers t.options.expunge side ≡ false
after_uncovered s t a side = ap (λ o. covers o.expunge side) a.options ∙ a.uncovered side

is_some-map : (g : ℕ → ℕ) (o : Option ℕ) → is_some (option_map g o) ≡ is_some o
is_some-map g None = refl
is_some-map g (Some x) = refl

pub listed_alike : (s t : Scene) → IsAfter s t → (side : Side) (e : Entry) → Contains s.entries e → is_listed t side (uid_of side e) ≡ is_listed s side (uid_of side e)
listed_alike s t a side e c = ap (λ (o : Option ℕ). is_some o) (a.flags side e c) ∙ is_some-map (flags_after s side (uid_of side e)) (flags_at (items s side) (uid_of side e))

-- both messages of a fresh entry are listed
pub fresh_listed : (t : Scene) (e : Entry) → IsFresh t e → (side : Side) → is_listed t side (uid_of side e) ≡ true
fresh_listed t e f Far = ap (λ (o : Option ℕ). is_listed t Far (unwrap_or o 0)) f.far ∙ ap (λ (o : Option ℕ). is_some o) f.far_flags
fresh_listed t e f Near = ap (λ (o : Option ℕ). is_listed t Near (unwrap_or o 0)) f.near ∙ ap (λ (o : Option ℕ). is_some o) f.near_flags

-- ---- old entries that are full after

still : (b : Bool) (o : Option ℕ) (u : ℕ) → cond b None o ≡ Some u → (b ≡ false) × (o ≡ Some u)
still true o u h = absurd (none-some u h)
still false o u h = (refl, h)

-- an old entry that has both its sides after
pub record IsWhole (s : Scene) (old e : Entry) : Type 0 where
  pub gone_in : (d : Direction) → is_gone s d old ≡ false
  pub far : old.far ≡ Some (uid_of Far e)
  pub near : old.near ≡ Some (uid_of Near e)

pub whole : (s : Scene) (e : Entry) (k : IsKept s e) → is_full e ≡ true → IsWhole s k.old e
whole s e k h =
    let f = still (is_gone s Pull k.old) k.old.far (uid_of Far e) (ap (λ (x : Entry). x.far) k.after ∙ full_far e h) in
    let n = still (is_gone s Push k.old) k.old.near (uid_of Near e) (ap (λ (x : Entry). x.near) k.after ∙ full_near e h) in
    record { gone_in = (λ d. at d f.0 n.0); far = f.1; near = n.1 }
  where
    at : (d : Direction) → is_gone s Pull k.old ≡ false → is_gone s Push k.old ≡ false → is_gone s d k.old ≡ false
    at Pull p q = p
    at Push p q = q

pub whole_uid : (s : Scene) (old e : Entry) → IsWhole s old e → (side : Side) → uid_of side old ≡ uid_of side e
whole_uid s old e w Far = ap (λ (o : Option ℕ). unwrap_or o 0) w.far
whole_uid s old e w Near = ap (λ (o : Option ℕ). unwrap_or o 0) w.near

-- ---- flags of a pair after the run

some_changed : (g : ℕ → ℕ) (o : Option ℕ) (y : ℕ) → option_map g o ≡ Some y → (x : ℕ) × (o ≡ Some x) × (g x ≡ y)
some_changed g None y h = absurd (none-some y h)
some_changed g (Some x) y h = (x, refl, same_Some (g x) y h)

far_after : (s : Scene) (old : Entry) (f n x y : ℕ) → ArePairs s.entries → Contains s.entries old → old.far ≡ Some f → old.near ≡ Some n → flags_at s.near n ≡ Some y → flags_after s Far f x ≡ taken_if (goes s.options.cells.flags Push) y x old.flags
far_after s old f n x y pairs c g h e =
    ap (λ u. flags_by s Far x (full_entry s Far u)) (sym (ap (λ (o : Option ℕ). unwrap_or o 0) g))
    ∙ ap (λ o. flags_by s Far x o) (full_only s Far pairs old c (full_from old f n g h))
    ∙ ap (λ o. flags_with s Far x old.flags (flags_at s.near (unwrap_or o 0))) h
    ∙ ap (λ o. flags_with s Far x old.flags o) e

near_after : (s : Scene) (old : Entry) (f n x y : ℕ) → ArePairs s.entries → Contains s.entries old → old.far ≡ Some f → old.near ≡ Some n → flags_at s.far f ≡ Some x → flags_after s Near n y ≡ taken_if (goes s.options.cells.flags Pull) x y old.flags
near_after s old f n x y pairs c g h e =
    ap (λ u. flags_by s Near y (full_entry s Near u)) (sym (ap (λ (o : Option ℕ). unwrap_or o 0) h))
    ∙ ap (λ o. flags_by s Near y o) (full_only s Near pairs old c (full_from old f n g h))
    ∙ ap (λ o. flags_with s Near y old.flags (flags_at s.far (unwrap_or o 0))) g
    ∙ ap (λ o. flags_with s Near y old.flags o) e

-- flags that are these are settled
settled_as : (pull push : Bool) (a b c x y z : ℕ) → a ≡ x → b ≡ y → c ≡ z → AreSettled pull push x y z → AreSettled pull push a b c
settled_as pull push a b c x y z e f g h =
    subst (λ k. AreSettled pull push k b c) (sym e) (subst (λ k. AreSettled pull push x k c) (sym f) (subst (λ k. AreSettled pull push x y k) (sym g) h))

abbrev pub PairIsSettled : Scene → ListedPair → Type 0
PairIsSettled s p = AreSettled (goes s.options.cells.flags Pull) (goes s.options.cells.flags Push) p.far_flags p.near_flags p.recorded

kept_settled : (s t : Scene) (e : Entry) (p : ListedPair) → IsAfter s t → IsKept s e → IsPairOf t e p → PairIsSettled s p
kept_settled s t e p a k q =
    let old : Entry = k.old in
    let w = whole s e k (full_from e p.far p.near q.far q.near) in
    let far : old.far ≡ Some p.far = w.far ∙ ap (λ (o : Option ℕ). Some (unwrap_or o 0)) q.far in
    let near : old.near ≡ Some p.near = w.near ∙ ap (λ (o : Option ℕ). Some (unwrap_or o 0)) q.near in
    let far_now : changed s Far p.far ≡ Some p.far_flags = sym (ap (λ (o : Option ℕ). changed s Far (unwrap_or o 0)) far) ∙ sym (a.flags Far old k.there) ∙ ap (λ (o : Option ℕ). flags_at t.far (unwrap_or o 0)) far ∙ q.far_flags in
    let near_now : changed s Near p.near ≡ Some p.near_flags = sym (ap (λ (o : Option ℕ). changed s Near (unwrap_or o 0)) near) ∙ sym (a.flags Near old k.there) ∙ ap (λ (o : Option ℕ). flags_at t.near (unwrap_or o 0)) near ∙ q.near_flags in
    let x = some_changed (flags_after s Far p.far) (flags_at s.far p.far) p.far_flags far_now in
    let y = some_changed (flags_after s Near p.near) (flags_at s.near p.near) p.near_flags near_now in
    let noted = q.recorded ∙ sym (ap (λ (z : Entry). z.flags) k.after) ∙ ap (λ o. recorded_or s old.flags o) (pair_from s old p.far p.near x.0 y.0 far near x.1 y.1) in
    let pull : Bool = goes s.options.cells.flags Pull in
    let push : Bool = goes s.options.cells.flags Push in
    settled_as pull push p.far_flags p.near_flags p.recorded (taken_if push y.0 x.0 old.flags) (taken_if pull x.0 y.0 old.flags) (recorded_after pull push x.0 y.0 old.flags)
    (sym x.2 ∙ far_after s old p.far p.near x.0 y.0 a.pairs k.there far near y.1)
    (sym y.2 ∙ near_after s old p.far p.near x.0 y.0 a.pairs k.there far near x.1)
    noted
    (old_settled pull push x.0 y.0 old.flags)

fresh_settled : (s t : Scene) (e : Entry) (p : ListedPair) → IsFresh t e → IsPairOf t e p → PairIsSettled s p
fresh_settled s t e p f q =
    let far : f.far_uid ≡ p.far = same_Some f.far_uid p.far (sym f.far ∙ q.far) in
    let near : f.near_uid ≡ p.near = same_Some f.near_uid p.near (sym f.near ∙ q.near) in
    settled_as (goes s.options.cells.flags Pull) (goes s.options.cells.flags Push) p.far_flags p.near_flags p.recorded f.flags f.flags f.flags
    (sym (same_Some f.flags p.far_flags (sym f.far_flags ∙ ap (λ u. flags_at t.far u) far ∙ q.far_flags)))
    (sym (same_Some f.flags p.near_flags (sym f.near_flags ∙ ap (λ u. flags_at t.near u) near ∙ q.near_flags)))
    (q.recorded ∙ f.noted)
    (alike_settled (goes s.options.cells.flags Pull) (goes s.options.cells.flags Push) f.flags f.small)

pub pair_settled : (s t : Scene) (e : Entry) (p : ListedPair) → IsAfter s t → Contains t.entries e → IsPairOf t e p → PairIsSettled s p
pair_settled s t e p a c q = elim (a.entries e c) [
  | inl kept ↦ kept_settled s t e p a kept q
  | inr fresh ↦ fresh_settled s t e p fresh q
]
