-- A message that no entry names and whose UID is above the highest one taken over is new to the plan that is made next.
use Rattle.std.proofs.Common.{◌≡◌, ◌≢◌, ◌<◌, ℕ, zero, suc, Bool, true, false, not, eqb, eq-eqb, lt-ltb, All, List, [], ◌∷◌, map, refl, ap, ◌∙◌, arith}
use Rattle.std.specs.Prelude.{◌&&◌, ◌||◌, Contains}
use Rattle.std.specs.List.{list_any}
use Rattle.std.proofs.lemmas.Bool.Decides.{nat_tests}
use Rattle.std.proofs.lemmas.List.Elements.{All-head, All-tail}
use Rattle.mailcore.specs.declared.listing.Item.{Item}
use Rattle.mailcore.specs.declared.mailbox.Message.{Message}
use Rattle.mailcore.specs.declared.side.Side.{Side}
use Rattle.mailcore.specs.declared.side.Side.TheVariants.{Far, Near}
use Rattle.mailcore.specs.declared.side.Direction.{Direction}
use Rattle.mailcore.specs.declared.side.Direction.TheVariants.{Pull, Push}
use Rattle.mailcore.specs.Content.{fit}
use Rattle.mailcore.specs.FlagSet.{DELETED, has}
use Rattle.mailcore.specs.Listed.{item_of}
use Rattle.mailcore.specs.Sides.{source}
use Rattle.rules.specs.declared.entry.Entry.{Entry}
use Rattle.rules.specs.declared.options.Options.{Options}
use Rattle.rules.specs.Called.{called, is_new}
use Rattle.rules.specs.Entries.{uid_of}
use Rattle.rules.specs.Opening.{taken_over}
use Rattle.rules.specs.Options.{covers, goes}
use Rattle.rules.specs.Propagation.{New}
use Rattle.rules.specs.World.{World, store, scene_of}

nowhere : {A : Type 0} (x : A) → Contains [] x → ⊥
nowhere x (k, below, is) = omega arith

-- a test that holds of an element is met by some
any_there : (p : Message → Bool) (q : Item → Bool) (side : Side) → ((x : Message) → q (item_of side x) ≡ p x) → (ms : List Message) (m : Message) → Contains ms m → p m ≡ true → list_any q (map (item_of side) ms) ≡ true
any_there p q side same [] m c h = absurd (nowhere m c)
any_there p q side same (x ∷ ms) m (zero, below, is) h = ap (λ (b : Bool). b || list_any q (map (item_of side) ms)) (same x ∙ ap p is ∙ h)
any_there p q side same (x ∷ ms) m (suc k, below, is) h =
    ap (λ (b : Bool). q (item_of side x) || b) (any_there p q side same ms m (k, omega (arith, below), is) h) ∙ or_true (q (item_of side x))
  where
    or_true : (b : Bool) → (b || true) ≡ true
    or_true true = refl
    or_true false = refl

differ : (a b : ℕ) → a ≢ b → eqb a b ≡ false
differ a b apart = grind (arith, nat_tests)

none_named : (side : Side) (u : ℕ) (es : List Entry) → All (λ e. uid_of side e ≢ u) es → list_any (λ e. eqb (uid_of side e) u) es ≡ false
none_named side u [] h = refl
none_named side u (e ∷ es) h =
    ap (λ (b : Bool). b || list_any (λ (e : Entry). eqb (uid_of side e) u) es) (differ (uid_of side e) u (All-head (λ (e : Entry). uid_of side e ≢ u) e es h))
    ∙ none_named side u es (All-tail (λ (e : Entry). uid_of side e ≢ u) e es h)

all_five : (a b c d e f : Bool) → a ≡ true → b ≡ true → c ≡ true → d ≡ false → e ≡ false → f ≡ true → (a && (((b && c && not d && not e)) && f)) ≡ true
all_five a b c d e f p q r s t u =
    ap (λ (x : Bool). x && ((b && c && not d && not e) && f)) p
    ∙ ap (λ (x : Bool). (x && c && not d && not e) && f) q
    ∙ ap (λ (x : Bool). (x && not d && not e) && f) r
    ∙ ap (λ (x : Bool). (not x && not e) && f) s
    ∙ ap (λ (x : Bool). not x && f) t
    ∙ u

module _ (w : World) (options : Options) (m : Message) where
  abbrev it : Side → Item
  it side = item_of side m

  pulled : Contains w.far.messages m → taken_over Far w.state < m.uid → All (λ e. uid_of Far e ≢ m.uid) w.state.entries → goes options.cells.new Pull ≡ true → fit Far m.bytes ≡ true
      → (has m.flags DELETED && covers options.expunge Far) ≡ false → called (scene_of w options) (New Pull m.uid) ≡ true
  pulled c above unnamed on is_fit stays =
      any_there (λ x. eqb x.uid m.uid && is_new (scene_of w options) Pull (item_of Far x)) (λ i. eqb i.uid m.uid && is_new (scene_of w options) Pull i) Far (λ x. refl) w.far.messages m c
      (all_five _ _ _ _ _ _ (eq-eqb m.uid m.uid refl) on (lt-ltb w.state.max_pulled m.uid above) (none_named Far m.uid w.state.entries unnamed) stays is_fit)

  pushed : Contains w.near.messages m → taken_over Near w.state < m.uid → All (λ e. uid_of Near e ≢ m.uid) w.state.entries → goes options.cells.new Push ≡ true → fit Near m.bytes ≡ true
      → (has m.flags DELETED && covers options.expunge Near) ≡ false → called (scene_of w options) (New Push m.uid) ≡ true
  pushed c above unnamed on is_fit stays =
      any_there (λ x. eqb x.uid m.uid && is_new (scene_of w options) Push (item_of Near x)) (λ i. eqb i.uid m.uid && is_new (scene_of w options) Push i) Near (λ x. refl) w.near.messages m c
      (all_five _ _ _ _ _ _ (eq-eqb m.uid m.uid refl) on (lt-ltb w.state.max_pushed m.uid above) (none_named Near m.uid w.state.entries unnamed) stays is_fit)

pub called_new : (w : World) (options : Options) (direction : Direction) (m : Message) → Contains (store w (source direction)).messages m → taken_over (source direction) w.state < m.uid
    → All (λ e. uid_of (source direction) e ≢ m.uid) w.state.entries → goes options.cells.new direction ≡ true → fit (source direction) m.bytes ≡ true
    → (has m.flags DELETED && covers options.expunge (source direction)) ≡ false → called (scene_of w options) (New direction m.uid) ≡ true
called_new w options Pull m = pulled w options m
called_new w options Push m = pushed w options m
