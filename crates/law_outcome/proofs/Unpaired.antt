-- What is called new is in no entry.
use Rattle.std.proofs.Common.{◌≡◌, ◌<◌, ℕ, Bool, true, false, not, ap, ◌∙◌, sym}
use Rattle.std.specs.Prelude.{Contains, ◌&&◌, ◌==◌, nat_lt}
use Rattle.std.proofs.lemmas.Bool.{and_parts, not-true, eqb-true, ltb-true}
use Rattle.mailcore.specs.declared.side.Direction.{Direction}
use Rattle.mailcore.specs.declared.listing.Item.{Item}
use Rattle.mailcore.specs.FlagSet.{DELETED, has}
use Rattle.mailcore.specs.Sides.{source}
use Rattle.rules.specs.Propagation.{New}
use Rattle.rules.specs.Options.{goes, covers}
use Rattle.rules.specs.Scene.{Scene, items, highest, is_paired}
use Rattle.rules.specs.Called.{would_be_new, is_new, called}
use Rattle.rules.proofs.Walks.{list_any_some}

-- what is so of a new message
pub record IsNew (s : Scene) (d : Direction) (u : ℕ) : Type 0 where
  pub goes : goes s.options.cells.new d ≡ true
  pub above : highest d s < u
  pub unpaired : is_paired s (source d) u ≡ false

pub new_says : (s : Scene) (d : Direction) (i : Item) → is_new s d i ≡ true → IsNew s d i.uid
new_says s d i h =
    let on : Bool = goes s.options.cells.new d in
    let above : Bool = nat_lt (highest d s) i.uid in
    let alone : Bool = not (is_paired s (source d) i.uid) in
    let a = and_parts (would_be_new s d i) i.fit h in
    let b = and_parts (on && above && alone) (not (has i.flags DELETED && covers s.options.expunge (source d))) a.0 in
    let e = and_parts (on && above) alone b.0 in
    let f = and_parts on above e.0 in
    record { goes = f.0; above = ltb-true (highest d s) i.uid f.1; unpaired = not-true (is_paired s (source d) i.uid) e.1 }

pub unpaired_item : (s : Scene) (d : Direction) (i : Item) → is_new s d i ≡ true → is_paired s (source d) i.uid ≡ false
unpaired_item s d i h = (new_says s d i h).unpaired

-- what is called new is a listed message that is new
pub new_called : (s : Scene) (d : Direction) (u : ℕ) → called s (New d u) ≡ true → (i : Item) × Contains (items s (source d)) i × (i.uid ≡ u) × (is_new s d i ≡ true)
new_called s d u h =
    let r = list_any_some (λ (i : Item). i.uid == u && is_new s d i) (items s (source d)) h in
    let a = and_parts (r.0.uid == u) (is_new s d r.0) r.2 in
    (r.0, r.1, eqb-true r.0.uid u a.0, a.1)

pub unpaired : (s : Scene) (d : Direction) (u : ℕ) → called s (New d u) ≡ true → is_paired s (source d) u ≡ false
unpaired s d u h = let r = new_called s d u h in ap (λ v. is_paired s (source d) v) (sym r.2) ∙ unpaired_item s d r.0 r.3
