-- What the notes and the gone steps of a plan say of one entry.
use Rattle.std.proofs.Common.{◌≡◌, ℕ, Bool, true, false, cond, List, [], ◌∷◌, ◌++◌, Option, Some, None, refl, sym, ap, ◌∙◌, subst, inl, inr, ◌⊎◌}
use Rattle.std.specs.Prelude.{All, Contains, ◌&&◌, ◌==◌, unwrap_or}
use Rattle.std.specs.List.{filter_map, cons_option, list_any}
use Rattle.std.proofs.lemmas.Bool.{cases_Bool, both_ways, false≢true, and_parts, and_from, eq-eqb, eqb-true, false_from_ne_true}
use Rattle.std.proofs.lemmas.List.Elements.{All-append, All-contains}
use Rattle.mailcore.specs.declared.side.Side.TheVariants.{Far, Near}
use Rattle.rules.specs.declared.entry.Entry.{Entry}
use Rattle.rules.specs.declared.entry.ListedPair.{ListedPair}
use Rattle.rules.specs.declared.plan.Note.{Note}
use Rattle.rules.specs.declared.plan.Note.TheVariants as note
use Rattle.rules.specs.Propagation.{Drop}
use Rattle.rules.specs.Entries.{ArePairs, uid_of, is_same}
use Rattle.rules.specs.Scene.{Scene}
use Rattle.rules.specs.Called.{called, vanishes, pair_of, recorded as recorded_flags}
use Rattle.rules.specs.Outcome.{recorded_or}
use Rattle.planner.specs.Written.{record_by_pair, record_note, drop_note, record_notes, drop_notes, all_notes}
use Rattle.rules.proofs.Walks.{Contains-first, Contains-rest, Contains-cases, Contains-none, All-filter_map, Contains-filter_map, list_any_from, list_any_some}
use Rattle.rules.proofs.LookUps.{pair_says, far_only, entry_of}
use Rattle.planner.proofs.Following.{record_given, drop_given}
use Rattle.book.specs.Agreement.{is_pair}
use Rattle.book.specs.Committed.{drops, recorded}

-- ---- pairs

same_self : (x : Option ℕ) → is_same x x ≡ true
same_self None = refl
same_self (Some u) = eq-eqb u u refl

same_says : (x y : Option ℕ) → is_same x y ≡ true → x ≡ y
same_says None None h = refl
same_says None (Some v) h = absurd (false≢true h)
same_says (Some u) None h = absurd (false≢true h)
same_says (Some u) (Some v) h = ap (λ n. Some n) (eqb-true u v h)

pub is_pair_says : (far near : Option ℕ) (e : Entry) → is_pair far near e ≡ true → (e.far ≡ far) × (e.near ≡ near)
is_pair_says far near e h = let u = and_parts (is_same e.far far) (is_same e.near near) h in (same_says e.far far u.0, same_says e.near near u.1)

pub is_pair_from : (far near : Option ℕ) (e : Entry) → e.far ≡ far → e.near ≡ near → is_pair far near e ≡ true
is_pair_from far near e f n =
    and_from (is_same e.far far) (is_same e.near near)
    (ap (λ x. is_same e.far x) (sym f) ∙ same_self e.far) (ap (λ x. is_same e.near x) (sym n) ∙ same_self e.near)

-- ---- drops

abbrev pub vanishes_whole : Scene → Entry → Bool
vanishes_whole s e = vanishes s Far (uid_of Far e) && vanishes s Near (uid_of Near e)

drop_called : (s : Scene) (e : Entry) → Contains s.entries e → called s (Drop (uid_of Far e) (uid_of Near e)) ≡ vanishes_whole s e
drop_called s e c = elim (cases_Bool (vanishes_whole s e)) [
  | inl holds ↦ list_any_from (λ (x : Entry). uid_of Far x == uid_of Far e && uid_of Near x == uid_of Near e && vanishes_whole s e) s.entries e c
      (and_from _ _ (and_from _ _ (eq-eqb (uid_of Far e) (uid_of Far e) refl) (eq-eqb (uid_of Near e) (uid_of Near e) refl)) holds) ∙ sym holds
  | inr fails ↦ false_from_ne_true (called s (Drop (uid_of Far e) (uid_of Near e)))
      (λ t. both_ways (vanishes_whole s e) fails (entry_of s (uid_of Far e) (uid_of Near e) (λ x. vanishes_whole s e) t).4)
      ∙ sym fails
]

drops_rightly : (s : Scene) (e : Entry) → All (λ n. drops e n ≡ true → vanishes_whole s e ≡ true) (all_notes s)
drops_rightly s e =
    All-append (λ n. drops e n ≡ true → vanishes_whole s e ≡ true) (record_notes s) (drop_notes s)
    (All-filter_map (λ n. drops e n ≡ true → vanishes_whole s e ≡ true) (record_note s) s.entries (λ x c n h. let r = record_given s x n h in
    subst (λ m. drops e m ≡ true → vanishes_whole s e ≡ true) r.3 (λ t. absurd (false≢true t))))
    (All-filter_map (λ n. drops e n ≡ true → vanishes_whole s e ≡ true) (drop_note s) s.entries (λ x c n h. let r = drop_given s x n h in
    subst (λ m. drops e m ≡ true → vanishes_whole s e ≡ true) r.1
    (λ t. let p = is_pair_says x.far x.near e t in
    ap (λ (o : Option ℕ). vanishes s Far (unwrap_or o 0) && vanishes s Near (uid_of Near e)) p.0 ∙ ap (λ (o : Option ℕ). vanishes s Far (uid_of Far x) && vanishes s Near (unwrap_or o 0)) p.1 ∙ r.0)))

contains_after : {X : Type 0} (xs ys : List X) (y : X) → Contains ys y → Contains (xs ++ ys) y
contains_after [] ys y c = c
contains_after (x ∷ xs) ys y c = Contains-rest x y (xs ++ ys) (contains_after xs ys y c)

-- the notes drop an entry exactly if its drop is called
pub dropped : (s : Scene) (e : Entry) → Contains s.entries e → list_any (drops e) (all_notes s) ≡ called s (Drop (uid_of Far e) (uid_of Near e))
dropped s e c = elim (cases_Bool (vanishes_whole s e)) [
  | inl holds ↦ list_any_from (drops e) (all_notes s) (note.Drop e.far e.near)
      (contains_after (record_notes s) (drop_notes s) (note.Drop e.far e.near)
      (Contains-filter_map (drop_note s) s.entries e (note.Drop e.far e.near) c (ap (λ b. cond b (Some (note.Drop e.far e.near)) None) holds)))
      (is_pair_from e.far e.near e refl refl)
      ∙ sym (drop_called s e c ∙ holds)
  | inr fails ↦ false_from_ne_true (list_any (drops e) (all_notes s))
      (λ t. let r = list_any_some (drops e) (all_notes s) t in
      both_ways (vanishes_whole s e) fails (All-contains (λ n. drops e n ≡ true → vanishes_whole s e ≡ true) (all_notes s) r.0 (drops_rightly s e) r.1 r.2))
      ∙ sym (drop_called s e c ∙ fails)
]

-- ---- records

-- the flags that a note records of an entry, if there is a note and it is of this entry, else others
abbrev noted : Entry → Option Note → (others : ℕ) → ℕ
noted e None x = x
noted e (Some (note.Record far near flags)) x = cond (is_pair (Some far) (Some near) e) flags x
noted e (Some (note.Drop far near)) x = x

recorded_cons : (e : Entry) (o : Option Note) (notes : List Note) → recorded e (cons_option o notes) ≡ noted e o (recorded e notes)
recorded_cons e None notes = refl
recorded_cons e (Some (note.Record far near flags)) notes = refl
recorded_cons e (Some (note.Drop far near)) notes = refl

noted_twice : (e : Entry) (o : Option Note) (x : ℕ) → noted e o (noted e o x) ≡ noted e o x
noted_twice e None x = refl
noted_twice e (Some (note.Record far near flags)) x = by_test (is_pair (Some far) (Some near) e)
  where
    by_test : (b : Bool) → cond b flags (cond b flags x) ≡ cond b flags x
    by_test true = refl
    by_test false = refl
noted_twice e (Some (note.Drop far near)) x = refl

abbrev Skips : Entry → Option Note → Type 0
Skips e o = (x : ℕ) → noted e o x ≡ x

module _ (e : Entry) (f : Entry → Option Note) where
  others_skip : (xs : List Entry) (ys : List Note) → ((y : Entry) → Contains xs y → (y ≡ e) ⊎ Skips e (f y)) → noted e (f e) (recorded e (filter_map f xs ++ ys)) ≡ noted e (f e) (recorded e ys)
  others_skip [] ys h = refl
  others_skip (z ∷ xs) ys h =
      ap (λ x. noted e (f e) x) (consed (f z) (filter_map f xs) ys)
      ∙ by_case (h z (Contains-first z xs))
      ∙ others_skip xs ys (λ y c. h y (Contains-rest z y xs c))
    where
      consed : (o : Option Note) (ns ys : List Note) → recorded e (cons_option o ns ++ ys) ≡ noted e o (recorded e (ns ++ ys))
      consed None ns ys = refl
      consed (Some n) ns ys = recorded_cons e (Some n) (ns ++ ys)

      by_case : (z ≡ e) ⊎ Skips e (f z) → noted e (f e) (noted e (f z) (recorded e (filter_map f xs ++ ys))) ≡ noted e (f e) (recorded e (filter_map f xs ++ ys))
      by_case (inl same) = ap (λ (a : Entry). noted e (f e) (noted e (f a) (recorded e (filter_map f xs ++ ys)))) same ∙ noted_twice e (f e) (recorded e (filter_map f xs ++ ys))
      by_case (inr skips) = ap (λ x. noted e (f e) x) (skips (recorded e (filter_map f xs ++ ys)))

  own_note : (xs : List Entry) (ys : List Note) → Contains xs e → ((y : Entry) → Contains xs y → (y ≡ e) ⊎ Skips e (f y)) → recorded e (filter_map f xs ++ ys) ≡ noted e (f e) (recorded e ys)
  own_note [] ys c h = absurd (Contains-none e c)
  own_note (z ∷ xs) ys c h = consed (f z) (filter_map f xs) ys ∙ by_case (h z (Contains-first z xs)) (Contains-cases z e xs c) (λ rest. own_note xs ys rest (λ y d. h y (Contains-rest z y xs d)))
    where
      consed : (o : Option Note) (ns ys : List Note) → recorded e (cons_option o ns ++ ys) ≡ noted e o (recorded e (ns ++ ys))
      consed None ns ys = refl
      consed (Some n) ns ys = recorded_cons e (Some n) (ns ++ ys)

      later : (y : Entry) → Contains xs y → (y ≡ e) ⊎ Skips e (f y)
      later y d = h y (Contains-rest z y xs d)

      here : z ≡ e → noted e (f z) (recorded e (filter_map f xs ++ ys)) ≡ noted e (f e) (recorded e ys)
      here same = ap (λ (a : Entry). noted e (f a) (recorded e (filter_map f xs ++ ys))) same ∙ others_skip xs ys later

      by_case : (z ≡ e) ⊎ Skips e (f z) → (z ≡ e) ⊎ Contains xs e → (Contains xs e → recorded e (filter_map f xs ++ ys) ≡ noted e (f e) (recorded e ys)) →
          noted e (f z) (recorded e (filter_map f xs ++ ys)) ≡ noted e (f e) (recorded e ys)
      by_case (inl same) d again = here same
      by_case (inr skips) (inl same) again = here same
      by_case (inr skips) (inr rest) again = skips (recorded e (filter_map f xs ++ ys)) ∙ again rest

-- a record note is of its own entry alone
record_skips : (s : Scene) → ArePairs s.entries → (e y : Entry) → Contains s.entries e → Contains s.entries y → (y ≡ e) ⊎ Skips e (record_note s y)
record_skips s pairs e y c d = by_note (record_note s y) refl
  where
    by_note : (o : Option Note) → record_note s y ≡ o → (y ≡ e) ⊎ Skips e o
    by_note None h = inr (λ x. refl)
    by_note (Some n) h =
        let r = record_given s y n h in
        let p : ListedPair = r.0 in
        elim (cases_Bool (is_pair (Some p.far) (Some p.near) e)) [
          | inl mine ↦ inl (far_only s.entries pairs e y p.far c d (is_pair_says (Some p.far) (Some p.near) e mine).0 (pair_says s y p r.1).far)
          | inr other ↦ inr (λ x. subst (λ m. noted e (Some m) x ≡ x) r.3 (ap (λ b. cond b (recorded_flags s p) x) other))
        ]

drops_record_nothing : (s : Scene) (e : Entry) (xs : List Entry) → recorded e (filter_map (drop_note s) xs) ≡ e.flags
drops_record_nothing s e [] = refl
drops_record_nothing s e (x ∷ xs) = recorded_cons e (drop_note s x) (filter_map (drop_note s) xs) ∙ by_test (vanishes_whole s x) ∙ drops_record_nothing s e xs
  where
    by_test : (b : Bool) → noted e (cond b (Some (note.Drop x.far x.near)) None) (recorded e (filter_map (drop_note s) xs)) ≡ recorded e (filter_map (drop_note s) xs)
    by_test true = refl
    by_test false = refl

-- the flags recorded after are those that the rules name
pub recorded_is : (s : Scene) → ArePairs s.entries → (e : Entry) → Contains s.entries e → recorded e (all_notes s) ≡ recorded_or s e.flags (pair_of s e)
recorded_is s pairs e c =
    own_note e (record_note s) s.entries (drop_notes s) c (λ y d. record_skips s pairs e y c d)
    ∙ ap (λ x. noted e (record_note s e) x) (drops_record_nothing s e s.entries)
    ∙ by_pair (pair_of s e) refl
  where
    by_test : (p : ListedPair) → is_pair (Some p.far) (Some p.near) e ≡ true → p.recorded ≡ e.flags → (b : Bool) → (recorded_flags s p == p.recorded) ≡ b →
        noted e (cond b None (Some (note.Record p.far p.near (recorded_flags s p)))) e.flags ≡ recorded_flags s p
    by_test p mine same true h = sym (eqb-true (recorded_flags s p) p.recorded h ∙ same)
    by_test p mine same false h = ap (λ b. cond b (recorded_flags s p) e.flags) mine

    by_pair : (o : Option ListedPair) → pair_of s e ≡ o → noted e (record_by_pair s o) e.flags ≡ recorded_or s e.flags o
    by_pair None h = refl
    by_pair (Some p) h =
        let q = pair_says s e p h in
        by_test p (is_pair_from (Some p.far) (Some p.near) e q.far q.near) q.recorded (recorded_flags s p == p.recorded) refl
