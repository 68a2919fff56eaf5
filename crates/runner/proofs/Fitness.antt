-- A plan is the same where near messages that cannot be new are said to be fit.
use Rattle.std.proofs.Common.{◌≡◌, ◌+◌, ◌≤◌, ◌⊎◌, ◌&&◌, ◌||◌, not, ℕ, Bool, true, false, cond, eqb, leb, ltb, List, [], ◌∷◌, ◌++◌, map, length, Option, None, Some, refl, sym, ap, ◌∙◌, arith, inl, inr}
use Rattle.std.specs.Prelude.{filter, find}
use Rattle.std.specs.List.{filter_map}
use Rattle.std.specs.Option.{option_map}
use Rattle.std.proofs.lemmas.Bool.Decides.{nat_tests}
use Rattle.mailcore.specs.declared.listing.Item.{Item}
use Rattle.mailcore.specs.declared.mailbox.Message.{Message}
use Rattle.mailcore.specs.declared.side.Side.{Side}
use Rattle.mailcore.specs.declared.side.Side.TheVariants.{Far, Near}
use Rattle.mailcore.specs.declared.side.Direction.{Direction}
use Rattle.mailcore.specs.declared.side.Direction.TheVariants.{Pull, Push}
use Rattle.mailcore.specs.Content.{fit}
use Rattle.mailcore.specs.FlagSet.{DELETED, has}
use Rattle.mailcore.specs.Listed.{item_of}
use Rattle.mailcore.specs.Operations.{item_sparing}
use Rattle.mailcore.specs.Sides.{source, target, other}
use Rattle.rules.specs.declared.entry.Entry.{Entry}
use Rattle.rules.specs.declared.entry.ListedPair.{ListedPair}
use Rattle.rules.specs.Entries.{uid_of, uids_of}
use Rattle.rules.specs.Options.{goes, covers}
use Rattle.rules.specs.Scene.{Scene, items, highest, flags_at, is_listed, is_paired, full_entry}
use Rattle.rules.specs.Called.{is_new, is_unfit, is_gone, pair_of, pair_between, flags_with, flags_by, flags_after, is_deleted_then, is_expunged, vanishes}
use Rattle.rules.specs.Outcome.{count_new, greatest, highest_after, news}
use Rattle.rules.proofs.WorldLemmas.{wanted}
use Rattle.runner.specs.Before.{AreOld}
use Rattle.planner.specs.Listed.{all_unfit, unfit_uids}
use Rattle.planner.specs.Written.{all_notes, all_steps, drop_note, expunge_step, expunge_steps, flags_by_pair, flags_step, flags_steps, gone_by, gone_step, gone_steps, record_by_pair, record_note, record_notes}

-- ---- walks over two lists

agree : {X Y : Type 0} (f g : X → Option Y) → ((x : X) → f x ≡ g x) → (xs : List X) → filter_map f xs ≡ filter_map g xs
agree f g same [] = refl
agree f g same (x ∷ xs) = rw (same x, agree f g same xs) refl

agree_mapped : {Y : Type 0} (f g : Item → Option Y) (a b : Message → Item) → ((m : Message) → f (a m) ≡ g (b m)) → (ms : List Message) → filter_map f (map a ms) ≡ filter_map g (map b ms)
agree_mapped f g a b same [] = refl
agree_mapped f g a b same (m ∷ ms) = rw (same m, agree_mapped f g a b same ms) refl

pub flags_sparing : (spared : ℕ → Bool) (messages : List Message) (u : ℕ) → flags_at (map (item_sparing Near spared) messages) u ≡ flags_at (map (item_of Near) messages) u
flags_sparing spared [] u = refl
flags_sparing spared (m ∷ messages) u = by_test (eqb m.uid u) (flags_sparing spared messages u)
  where
    by_test : (b : Bool) → flags_at (map (item_sparing Near spared) messages) u ≡ flags_at (map (item_of Near) messages) u
        → option_map (λ (i : Item). i.flags) (cond b (Some (item_sparing Near spared m)) (find (λ i. eqb i.uid u) (map (item_sparing Near spared) messages)))
        ≡ option_map (λ (i : Item). i.flags) (cond b (Some (item_of Near m)) (find (λ i. eqb i.uid u) (map (item_of Near) messages)))
    by_test true more = refl
    by_test false more = more

greatest_sparing : (spared : ℕ → Bool) (messages : List Message) → greatest (map (item_sparing Near spared) messages) ≡ greatest (map (item_of Near) messages)
greatest_sparing spared [] = refl
greatest_sparing spared (m ∷ messages) = rw (greatest_sparing spared messages) refl

-- those that are spared are those that are not above the highest one that was pushed, or are in an entry
abbrev IsOld : Scene → (ℕ → Bool) → Type 0
IsOld s spared = AreOld s.max_pushed s.entries spared

either : (a b : Bool) → (a || b) ≡ true → (a ≡ true) ⊎ (b ≡ true)
either true b e = inl refl
either false b e = inr e

low_test : (m n : ℕ) → leb m n ≡ true → m ≤ n
low_test m n e = grind (arith, nat_tests)

old_of : (s : Scene) (spared : ℕ → Bool) → IsOld s spared → (uid : ℕ) → spared uid ≡ true → (uid ≤ s.max_pushed) ⊎ (is_paired s Near uid ≡ true)
old_of s spared old uid is = elim (either (leb uid s.max_pushed) (is_paired s Near uid) (sym (old uid) ∙ is)) [
  | inl low ↦ inl (low_test uid s.max_pushed low)
  | inr paired ↦ inr paired
]

blocked_paired : (a b d x : Bool) → (a && b && false && d && x) ≡ false
blocked_paired true true d x = refl
blocked_paired true false d x = refl
blocked_paired false b d x = refl

blocked : (a c d x : Bool) → (a && false && c && d && x) ≡ false
blocked true c d x = refl
blocked false c d x = refl

module _ (s : Scene) (spared : ℕ → Bool) (messages : List Message) (most : IsOld s spared) where
  abbrev pub above : Scene
  above = record s { near = map (item_sparing Near spared) messages }

  abbrev pub whole : Scene
  whole = record s { near = map (item_of Near) messages }

  -- ---- what hangs on flags alone

  flags_same : (side : Side) (u : ℕ) → flags_at (items above side) u ≡ flags_at (items whole side) u
  flags_same Far u = refl
  flags_same Near u = flags_sparing spared messages u

  listed_same : (side : Side) (u : ℕ) → is_listed above side u ≡ is_listed whole side u
  listed_same side u = rw (flags_same side u) refl

  gone_same : (d : Direction) (e : Entry) → is_gone above d e ≡ is_gone whole d e
  gone_same d e = rw (listed_same (source d) (uid_of (source d) e), listed_same (target d) (uid_of (target d) e)) refl

  pair_same : (e : Entry) → pair_of above e ≡ pair_of whole e
  pair_same e = by_uids (uids_of e)
    where
      by_uids : (uids : Option (ℕ × ℕ)) → pair_between above e.flags uids ≡ pair_between whole e.flags uids
      by_uids None = refl
      by_uids (Some uids) = rw (flags_sparing spared messages uids.1) refl

  after_same : (side : Side) (u flags : ℕ) → flags_after above side u flags ≡ flags_after whole side u flags
  after_same side u flags = by_entry (full_entry s side u)
    where
      by_entry : (e : Option Entry) → flags_by above side flags e ≡ flags_by whole side flags e
      by_entry None = refl
      by_entry (Some e) = ap (λ (o : Option ℕ). flags_with s side flags e.flags o) (flags_same (other side) (uid_of (other side) e))

  deleted_same : (side : Side) (u : ℕ) (o : Option ℕ) → is_deleted_then above side u o ≡ is_deleted_then whole side u o
  deleted_same side u None = refl
  deleted_same side u (Some flags) = rw (after_same side u flags) refl

  expunged_same : (side : Side) (u : ℕ) → is_expunged above side u ≡ is_expunged whole side u
  expunged_same side u = rw (flags_same side u, deleted_same side u (flags_at (items whole side) u)) refl

  vanishes_same : (side : Side) (u : ℕ) → vanishes above side u ≡ vanishes whole side u
  vanishes_same side u = rw (listed_same side u, expunged_same side u) refl

  -- ---- new messages

  abbrev one_new : Message → Bool → Bool
  one_new m b = goes s.options.cells.new Push && ltb (highest Push s) m.uid && not (is_paired s Near m.uid) && not (has m.flags DELETED && covers s.options.expunge Near) && b

  new_one : (m : Message) (xs ys : List Item) → xs ≡ ys → cond (is_new s Push (item_sparing Near spared m)) (item_sparing Near spared m ∷ xs) xs ≡ cond (is_new s Push (item_of Near m)) (item_of Near m ∷ ys) ys
  new_one m xs ys e = by_test (spared m.uid) refl
    where
      by_test : (b : Bool) → spared m.uid ≡ b
          → cond (one_new m (b || fit Near m.bytes)) (record { uid = m.uid; flags = m.flags; fit = b || fit Near m.bytes } ∷ xs) xs ≡ cond (one_new m (fit Near m.bytes)) (item_of Near m ∷ ys) ys
      by_test true is = elim (old_of s spared most m.uid is) [
        | inl low_enough ↦
            let low : ltb (highest Push s) m.uid ≡ false = grind (arith, nat_tests) in
            rw (low, blocked (goes s.options.cells.new Push) (not (is_paired s Near m.uid)) (not (has m.flags DELETED && covers s.options.expunge Near)) true, blocked (goes s.options.cells.new Push) (not (is_paired s Near m.uid)) (not (has m.flags DELETED && covers s.options.expunge Near)) (fit Near m.bytes)) e
        | inr paired ↦
            rw (paired, blocked_paired (goes s.options.cells.new Push) (ltb (highest Push s) m.uid) (not (has m.flags DELETED && covers s.options.expunge Near)) true, blocked_paired (goes s.options.cells.new Push) (ltb (highest Push s) m.uid) (not (has m.flags DELETED && covers s.options.expunge Near)) (fit Near m.bytes)) e
      ]
      by_test false is = rw e refl

new_list : (s : Scene) (spared : ℕ → Bool) (ms : List Message) → IsOld s spared → filter (is_new s Push) (map (item_sparing Near spared) ms) ≡ filter (is_new s Push) (map (item_of Near) ms)
new_list s spared [] most = refl
new_list s spared (m ∷ ms) most = new_one s spared (m ∷ ms) most m _ _ (new_list s spared ms most)

-- ---- messages that want fitness

module _ (s : Scene) (spared : ℕ → Bool) (most : IsOld s spared) where
  abbrev one_unfit : Message → Bool → Bool
  one_unfit m b = goes s.options.cells.new Push && ltb (highest Push s) m.uid && not (is_paired s Near m.uid) && not (has m.flags DELETED && covers s.options.expunge Near) && not b

  unfit_one : (m : Message) (xs ys : List Item) → xs ≡ ys → cond (is_unfit s Push (item_sparing Near spared m)) (item_sparing Near spared m ∷ xs) xs ≡ cond (is_unfit s Push (item_of Near m)) (item_of Near m ∷ ys) ys
  unfit_one m xs ys e = by_test (spared m.uid) refl
    where
      by_test : (b : Bool) → spared m.uid ≡ b
          → cond (one_unfit m (b || fit Near m.bytes)) (record { uid = m.uid; flags = m.flags; fit = b || fit Near m.bytes } ∷ xs) xs ≡ cond (one_unfit m (fit Near m.bytes)) (item_of Near m ∷ ys) ys
      by_test true is = elim (old_of s spared most m.uid is) [
        | inl low_enough ↦
            let low : ltb (highest Push s) m.uid ≡ false = grind (arith, nat_tests) in
            rw (low, blocked (goes s.options.cells.new Push) (not (is_paired s Near m.uid)) (not (has m.flags DELETED && covers s.options.expunge Near)) false, blocked (goes s.options.cells.new Push) (not (is_paired s Near m.uid)) (not (has m.flags DELETED && covers s.options.expunge Near)) (not (fit Near m.bytes))) e
        | inr paired ↦
            rw (paired, blocked_paired (goes s.options.cells.new Push) (ltb (highest Push s) m.uid) (not (has m.flags DELETED && covers s.options.expunge Near)) false, blocked_paired (goes s.options.cells.new Push) (ltb (highest Push s) m.uid) (not (has m.flags DELETED && covers s.options.expunge Near)) (not (fit Near m.bytes))) e
      ]
      by_test false is = rw e refl

  unfit_list : (ms : List Message) → filter (is_unfit s Push) (map (item_sparing Near spared) ms) ≡ filter (is_unfit s Push) (map (item_of Near) ms)
  unfit_list [] = refl
  unfit_list (m ∷ ms) = unfit_one m _ _ (unfit_list ms)

-- ---- the plan

module _ (s : Scene) (spared : ℕ → Bool) (messages : List Message) (most : IsOld s spared) where
  abbrev one : Scene
  one = above s spared messages most

  abbrev two : Scene
  two = whole s spared messages most

  news_same : news one Push ≡ news two Push
  news_same = new_list s spared messages most

  pub count_same : count_new one ≡ count_new two
  count_same = wanted one ∙ ap (λ (is : List Item). length (news one Pull) + length is) news_same ∙ sym (wanted two)

  gone_step_same : (d : Direction) (i j : Item) → i.uid ≡ j.uid → gone_step one d i ≡ gone_step two d j
  gone_step_same d i j e = rw e (by_entry (full_entry s (target d) j.uid))
    where
      by_entry : (o : Option Entry) → gone_by one d o ≡ gone_by two d o
      by_entry None = refl
      by_entry (Some e) = rw (gone_same s spared messages most d e) refl

  gones_same : (d : Direction) → gone_steps one d ≡ gone_steps two d
  gones_same Pull = agree_mapped (gone_step one Pull) (gone_step two Pull) (item_sparing Near spared) (item_of Near) (λ m. gone_step_same Pull (item_sparing Near spared m) (item_of Near m) refl) messages
  gones_same Push = agree (gone_step one Push) (gone_step two Push) (λ i. gone_step_same Push i i refl) s.far

  flags_steps_same : (d : Direction) → flags_steps one d ≡ flags_steps two d
  flags_steps_same d = agree (flags_step one d) (flags_step two d) (λ e. ap (λ (o : Option ListedPair). cond (goes s.options.cells.flags d) (flags_by_pair d o) None) (pair_same s spared messages most e)) s.entries

  expunge_step_same : (side : Side) (i j : Item) → i.uid ≡ j.uid → expunge_step one side i ≡ expunge_step two side j
  expunge_step_same side i j e = rw (e, expunged_same s spared messages most side j.uid) refl

  expunges_same : (side : Side) → expunge_steps one side ≡ expunge_steps two side
  expunges_same Far = agree (expunge_step one Far) (expunge_step two Far) (λ i. expunge_step_same Far i i refl) s.far
  expunges_same Near = agree_mapped (expunge_step one Near) (expunge_step two Near) (item_sparing Near spared) (item_of Near) (λ m. expunge_step_same Near (item_sparing Near spared m) (item_of Near m) refl) messages

  pub steps_same : (marks : List (List ℕ)) → all_steps one marks ≡ all_steps two marks
  steps_same marks = rw (news_same, gones_same Pull, gones_same Push, flags_steps_same Pull, flags_steps_same Push, expunges_same Far, expunges_same Near) refl

  records_same : record_notes one ≡ record_notes two
  records_same = agree (record_note one) (record_note two) (λ e. ap (λ (o : Option ListedPair). record_by_pair s o) (pair_same s spared messages most e)) s.entries

  drop_same : (e : Entry) → drop_note one e ≡ drop_note two e
  drop_same e = rw (vanishes_same s spared messages most Far (uid_of Far e), vanishes_same s spared messages most Near (uid_of Near e)) refl

  pub notes_same : all_notes one ≡ all_notes two
  notes_same = rw (records_same, agree (drop_note one) (drop_note two) drop_same s.entries) refl

  pub highest_same : (d : Direction) → highest_after one d ≡ highest_after two d
  highest_same Pull = refl
  highest_same Push = rw (greatest_sparing spared messages) refl

  pub unfit_same : all_unfit one ≡ all_unfit two
  unfit_same = ap (λ (is : List Item). unfit_uids one Pull ++ map (λ i. (Near, i.uid)) is) (unfit_list s spared most messages)
