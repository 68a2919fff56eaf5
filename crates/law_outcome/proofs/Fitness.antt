-- Whether a message is fit matters for new messages alone, which stand above the highest UID that was taken over and in no entry.
use Rattle.std.proofs.Common.{◌≡◌, ℕ, Bool, true, false, not, cond, eqb, ltb, List, [], ◌∷◌, map, Option, None, Some, refl, sym, ap, ◌∙◌, arith, inl, inr}
use Rattle.std.specs.Prelude.{◌&&◌, ◌||◌, find}
use Rattle.std.specs.List.{list_any}
use Rattle.std.specs.Option.{option_map}
use Rattle.std.proofs.lemmas.Bool.Decides.{nat_tests}
use Rattle.mailcore.specs.declared.listing.Item.{Item}
use Rattle.mailcore.specs.declared.mailbox.Message.{Message}
use Rattle.mailcore.specs.declared.side.Side.{Side}
use Rattle.mailcore.specs.declared.side.Side.TheVariants.{Far, Near}
use Rattle.mailcore.specs.declared.side.Direction.{Direction}
use Rattle.mailcore.specs.declared.side.Direction.TheVariants.{Pull, Push}
use Rattle.mailcore.specs.Content.{fit}
use Rattle.mailcore.specs.FlagSet.{DELETED, has}
use Rattle.mailcore.specs.Listed.{item_of}
use Rattle.mailcore.specs.Operations.{item_sparing}
use Rattle.mailcore.specs.Sides.{source, target, other}
use Rattle.rules.specs.declared.entry.Entry.{Entry}
use Rattle.rules.specs.declared.entry.ListedPair.{ListedPair}
use Rattle.rules.specs.Entries.{uid_of, uids_of}
use Rattle.rules.specs.Options.{goes, covers}
use Rattle.rules.specs.Propagation.{Propagation, New, Gone, Flags, Expunge, Record, Drop}
use Rattle.rules.specs.Scene.{Scene, items, highest, flags_at, is_listed, is_paired, full_entry}
use Rattle.law_outcome.specs.RuleLaws.{SparesOld}
use Rattle.rules.specs.Called.{called, is_new, is_gone, pair_of, pair_between, flags_with, flags_by, flags_after, is_deleted_then, is_expunged, vanishes, is_pair_with, differ_by, before, after, recorded}

-- ---- two lists with the same flags

any_agree : {A : Type 0} (p q : A → Bool) → ((x : A) → p x ≡ q x) → (xs : List A) → list_any p xs ≡ list_any q xs
any_agree p q same [] = refl
any_agree p q same (x ∷ xs) = rw (same x, any_agree p q same xs) refl

module _ (s : Scene) (one two : List Item) (same : (u : ℕ) → flags_at one u ≡ flags_at two u) where
  abbrev with_one : Scene
  with_one = record s { near = one }

  abbrev with_two : Scene
  with_two = record s { near = two }

  flags_same : (side : Side) (u : ℕ) → flags_at (items with_one side) u ≡ flags_at (items with_two side) u
  flags_same Far u = refl
  flags_same Near u = same u

  listed_same : (side : Side) (u : ℕ) → is_listed with_one side u ≡ is_listed with_two side u
  listed_same side u = rw (flags_same side u) refl

  gone_same : (d : Direction) (e : Entry) → is_gone with_one d e ≡ is_gone with_two d e
  gone_same d e = rw (listed_same (source d) (uid_of (source d) e), listed_same (target d) (uid_of (target d) e)) refl

  pair_same : (e : Entry) → pair_of with_one e ≡ pair_of with_two e
  pair_same e = by_uids (uids_of e)
    where
      by_uids : (uids : Option (ℕ × ℕ)) → pair_between with_one e.flags uids ≡ pair_between with_two e.flags uids
      by_uids None = refl
      by_uids (Some uids) = rw (same uids.1) refl

  after_same : (side : Side) (u flags : ℕ) → flags_after with_one side u flags ≡ flags_after with_two side u flags
  after_same side u flags = by_entry (full_entry s side u)
    where
      by_entry : (e : Option Entry) → flags_by with_one side flags e ≡ flags_by with_two side flags e
      by_entry None = refl
      by_entry (Some e) = ap (λ (o : Option ℕ). flags_with s side flags e.flags o) (flags_same (other side) (uid_of (other side) e))

  deleted_same : (side : Side) (u : ℕ) (o : Option ℕ) → is_deleted_then with_one side u o ≡ is_deleted_then with_two side u o
  deleted_same side u None = refl
  deleted_same side u (Some flags) = rw (after_same side u flags) refl

  expunged_same : (side : Side) (u : ℕ) → is_expunged with_one side u ≡ is_expunged with_two side u
  expunged_same side u = rw (flags_same side u, deleted_same side u (flags_at (items with_two side) u)) refl

  vanishes_same : (side : Side) (u : ℕ) → vanishes with_one side u ≡ vanishes with_two side u
  vanishes_same side u = rw (listed_same side u, expunged_same side u) refl

  -- all but new messages hang on the flags alone
  pub others_same : ((d : Direction) (u : ℕ) → called with_one (New d u) ≡ called with_two (New d u)) → (q : Propagation) → called with_one q ≡ called with_two q
  others_same new (New d u) = new d u
  others_same new (Gone d f n) =
      any_agree (λ e. eqb (uid_of Far e) f && eqb (uid_of Near e) n && is_gone with_one d e) (λ e. eqb (uid_of Far e) f && eqb (uid_of Near e) n && is_gone with_two d e)
      (λ e. ap (λ (b : Bool). eqb (uid_of Far e) f && eqb (uid_of Near e) n && b) (gone_same d e)) s.entries
  others_same new (Flags d f n set cleared) =
      let differs : ListedPair → Bool = λ p. differ_by set cleared (before d p) (after d p) in
      ap (λ (b : Bool). goes s.options.cells.flags d && b)
      (any_agree (λ e. is_pair_with f n differs (pair_of with_one e)) (λ e. is_pair_with f n differs (pair_of with_two e)) (λ e. ap (is_pair_with f n differs) (pair_same e)) s.entries)
  others_same new (Expunge side u) = expunged_same side u
  others_same new (Record f n w) =
      let is : ListedPair → Bool = λ p. eqb w (recorded s p) && not (eqb w p.recorded) in
      any_agree (λ e. is_pair_with f n is (pair_of with_one e)) (λ e. is_pair_with f n is (pair_of with_two e)) (λ e. ap (is_pair_with f n is) (pair_same e)) s.entries
  others_same new (Drop f n) =
      ap (λ (b : Bool). list_any (λ e. eqb (uid_of Far e) f && eqb (uid_of Near e) n && b) s.entries)
      (ap (λ (b : Bool). b && vanishes with_one Near n) (vanishes_same Far f) ∙ ap (λ (b : Bool). vanishes with_two Far f && b) (vanishes_same Near n))

-- ---- the two listings

flags_sparing : (spared : ℕ → Bool) (messages : List Message) (u : ℕ) → flags_at (map (item_sparing Near spared) messages) u ≡ flags_at (map (item_of Near) messages) u
flags_sparing spared [] u = refl
flags_sparing spared (m ∷ messages) u = by_test (eqb m.uid u) (flags_sparing spared messages u)
  where
    by_test : (b : Bool) → flags_at (map (item_sparing Near spared) messages) u ≡ flags_at (map (item_of Near) messages) u
        → option_map (λ (i : Item). i.flags) (cond b (Some (item_sparing Near spared m)) (find (λ i. eqb i.uid u) (map (item_sparing Near spared) messages)))
        ≡ option_map (λ (i : Item). i.flags) (cond b (Some (item_of Near m)) (find (λ i. eqb i.uid u) (map (item_of Near) messages)))
    by_test true more = refl
    by_test false more = more

any_mapped : (p : Item → Bool) (f g : Message → Item) → ((m : Message) → p (f m) ≡ p (g m)) → (messages : List Message) → list_any p (map f messages) ≡ list_any p (map g messages)
any_mapped p f g same [] = refl
any_mapped p f g same (m ∷ messages) = rw (same m, any_mapped p f g same messages) refl

blocked : (a c d x : Bool) → (a && false && c && d && x) ≡ false
blocked true c d x = refl
blocked false c d x = refl

blocked_paired : (a b d x : Bool) → (a && b && false && d && x) ≡ false
blocked_paired true true d x = refl
blocked_paired true false d x = refl
blocked_paired false b d x = refl

one_same : (s : Scene) (spared : ℕ → Bool) → SparesOld s spared → (m : Message) → is_new s Push (item_sparing Near spared m) ≡ is_new s Push (item_of Near m)
one_same s spared old m = by_test (spared m.uid) refl
  where
    by_test : (b : Bool) → spared m.uid ≡ b
        → (goes s.options.cells.new Push && ltb (highest Push s) m.uid && not (is_paired s Near m.uid) && not (has m.flags DELETED && covers s.options.expunge Near) && (b || fit Near m.bytes))
        ≡ (goes s.options.cells.new Push && ltb (highest Push s) m.uid && not (is_paired s Near m.uid) && not (has m.flags DELETED && covers s.options.expunge Near) && fit Near m.bytes)
    by_test true e = elim (old m.uid e) [
      | inl low_enough ↦
          let low : ltb (highest Push s) m.uid ≡ false = grind (arith, nat_tests) in
          rw low (blocked (goes s.options.cells.new Push) (not (is_paired s Near m.uid)) (not (has m.flags DELETED && covers s.options.expunge Near)) true
          ∙ sym (blocked (goes s.options.cells.new Push) (not (is_paired s Near m.uid)) (not (has m.flags DELETED && covers s.options.expunge Near)) (fit Near m.bytes)))
      | inr paired ↦
          rw paired (blocked_paired (goes s.options.cells.new Push) (ltb (highest Push s) m.uid) (not (has m.flags DELETED && covers s.options.expunge Near)) true
          ∙ sym (blocked_paired (goes s.options.cells.new Push) (ltb (highest Push s) m.uid) (not (has m.flags DELETED && covers s.options.expunge Near)) (fit Near m.bytes)))
    ]
    by_test false e = refl

pub same_calls : (s : Scene) (spared : ℕ → Bool) (messages : List Message) (q : Propagation) → SparesOld s spared
    → called (record s { near = map (item_sparing Near spared) messages }) q ≡ called (record s { near = map (item_of Near) messages }) q
same_calls s spared messages q old = others_same s (map (item_sparing Near spared) messages) (map (item_of Near) messages) (flags_sparing spared messages) new q
  where
    new : (d : Direction) (u : ℕ) → called (record s { near = map (item_sparing Near spared) messages }) (New d u) ≡ called (record s { near = map (item_of Near) messages }) (New d u)
    new Pull u = refl
    new Push u =
        any_mapped (λ i. eqb i.uid u && is_new s Push i) (item_sparing Near spared) (item_of Near)
        (λ m. ap (λ (b : Bool). eqb m.uid u && b) (one_same s spared old m)) messages
