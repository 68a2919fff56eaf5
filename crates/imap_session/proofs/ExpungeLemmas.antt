-- UID EXPUNGE as one walk over the messages.
use Rattle.std.proofs.Common.{◌≡◌, ◌<◌, ◌≤◌, ◌^◌, ℕ, zero, suc, ◌+◌, Bool, true, false, not, cond, ◌||◌, eqb, List, [], ◌∷◌, ◌++◌, length, map, take, drop, filter, refl, sym, ◌∙◌, ap, subst, append-nil, append_assoc, take-append-drop, drop-cons, Option, Some, arith, get_or, if◌then◌else◌}
use Rattle.std.specs.Prelude.{All, ◌&&◌, slice_get}
use Rattle.std.specs.List.{list_any}
use Rattle.std.proofs.lemmas.List.Elements.{All-filter, filter-append}
use Rattle.std.proofs.lemmas.List.Kept.{AllPairs-filter}
use Rattle.std.proofs.lemmas.Bool.Decides.{nat_tests}
use Rattle.mailcore.specs.declared.mailbox.Message.{Message}
use Rattle.mailcore.specs.FlagSet.{FLAGS, DELETED, has}
use Rattle.mailcore.specs.Listed.{AreRising}
use Rattle.mailcore.specs.Stores.{Store}
use Rattle.wire_strings.specs.Literals.{IsLiteral}
use Rattle.wire_tokens.specs.declared.uid_set.SetItem.{SetItem}
use Rattle.imap_session.specs.Mailboxes.{FarMailbox}
use Rattle.imap_session.specs.NamedMessages.{goes, swept, named_in, uids_going}
use Rattle.imap_session.specs.Boxes.{IsServed}
use Rattle.imap_session.specs.Changing.{stays}
use Rattle.imap_session.specs.Naming.{IsReach}
use Rattle.imap_session.proofs.ReachLemmas.{unnamed_before, unnamed_after}

-- ---- the UIDs of those that go name them alone, since UIDs rise

abbrev among : List ℕ → ℕ → Bool
among uids uid = list_any (λ u. eqb uid u) uids

abbrev going : (Message → Bool) → List Message → List ℕ
going go ms = map (λ m. m.uid) (filter go ms)

none_later : (go : Message → Bool) (n : ℕ) (ms : List Message) → All (λ m. n < m.uid) ms → among (going go ms) n ≡ false
none_later go n [] h = refl
none_later go n (m ∷ ms) h =
    by_test (go m) (none_later go n ms (λ k d within. h (suc k) d (omega arith)))
  where
    by_test : (b : Bool) → among (going go ms) n ≡ false → among (map (λ (x : Message). x.uid) (cond b (m ∷ filter go ms) (filter go ms))) n ≡ false
    by_test true rest =
        let less : n < m.uid = h 0 m (omega arith) in
        let other : eqb n m.uid ≡ false = grind (arith, nat_tests) in
        ap (λ (b : Bool). b || among (going go ms) n) other ∙ rest
    by_test false rest = rest

first_among : (go : Message → Bool) (b : Bool) (m : Message) (ms : List Message) → All (λ x. m.uid < x.uid) ms
    → among (map (λ (x : Message). x.uid) (cond b (m ∷ filter go ms) (filter go ms))) m.uid ≡ b
first_among go true m ms h =
    let same : eqb m.uid m.uid ≡ true = grind (arith, nat_tests) in
    ap (λ (b : Bool). b || among (going go ms) m.uid) same
first_among go false m ms h = none_later go m.uid ms h

later_among : (go : Message → Bool) (b : Bool) (m x : Message) (ms : List Message) → eqb x.uid m.uid ≡ false
    → among (map (λ (y : Message). y.uid) (cond b (m ∷ filter go ms) (filter go ms))) x.uid ≡ among (going go ms) x.uid
later_among go true m x ms h = ap (λ (b : Bool). b || among (going go ms) x.uid) h
later_among go false m x ms h = refl

each_among : (go : Message → Bool) (ms : List Message) → AreRising ms → (k : ℕ) (d : Message) → k < length ms → among (going go ms) (get_or ms k d).uid ≡ go (get_or ms k d)
each_among go [] rising k d h = absurd (omega arith)
each_among go (m ∷ ms) rising zero d h = first_among go (go m) m ms (λ k e within. rising 0 (suc k) e (omega arith) (omega arith))
each_among go (m ∷ ms) rising (suc k) d h =
    let less = rising 0 (suc k) d (omega arith) h in
    let other : eqb (get_or ms k d).uid m.uid ≡ false = grind (arith, nat_tests) in
    later_among go (go m) m (get_or ms k d) ms other ∙ each_among go ms (λ i j e less within. rising (suc i) (suc j) e (omega arith) (omega arith)) k d (omega arith)

filter-as : (p q : Message → Bool) (ms : List Message) → All (λ m. p m ≡ q m) ms → filter p ms ≡ filter q ms
filter-as p q [] h = refl
filter-as p q (m ∷ ms) h =
    let rest = filter-as p q ms (λ k d within. h (suc k) d (omega arith)) in
    ap (λ (b : Bool). cond b (m ∷ filter p ms) (filter p ms)) (h 0 m (omega arith)) ∙ ap (λ (l : List Message). cond (q m) (m ∷ l) l) rest

pub swept_is : (s : Store) (set : List SetItem) → AreRising s.messages → swept set s ≡ record s { messages = filter (stays (named_in s set)) s.messages }
swept_is s set rising =
    ap (λ (l : List Message). record s { messages = l })
    (filter-as (λ m. not (list_any (λ uid. eqb m.uid uid) (uids_going set s))) (stays (named_in s set)) s.messages
    (λ k d within. ap not (each_among (goes (named_in s set)) s.messages rising k d within)))

-- ---- what stays is served

pub stay_served : (m : FarMailbox) (p : Message → Bool) → IsServed m → IsServed (record m { store = record m.store { messages = filter p m.store.messages } })
stay_served m p is = record {
  name = is.name;
  store = record {
    rising = AllPairs-filter (λ (a : Message) (b : Message). a.uid < b.uid) p m.store.messages is.store.rising;
    below = All-filter p (λ (x : Message). x.uid < m.store.next) m.store.messages is.store.below;
  };
  range = record {
    validity = is.range.validity;
    next = is.range.next;
    messages = record {
      uids = All-filter p (λ (x : Message). 0 < x.uid) m.store.messages is.range.messages.uids;
      last = All-filter p (λ (x : Message). x.uid + 1 < 2 ^ 32) m.store.messages is.range.messages.last;
      flags = All-filter p (λ (x : Message). x.flags < 2 ^ FLAGS) m.store.messages is.range.messages.flags;
    };
  };
  bodies = All-filter p (λ (x : Message). IsLiteral x.bytes) m.store.messages is.bodies;
}

-- ---- only messages within the reach of the set go

all_stay : (named : ℕ → Bool) (ms : List Message) → All (λ (m : Message). named m.uid ≡ false) ms → filter (stays named) ms ≡ ms
all_stay named [] unnamed = refl
all_stay named (m ∷ ms) unnamed =
    ap (λ (b : Bool). cond (not (b && has m.flags DELETED)) (m ∷ filter (stays named) ms) (filter (stays named) ms)) (unnamed 0 m (omega arith))
    ∙ ap (λ (l : List Message). m ∷ l) (all_stay named ms (λ k d within. unnamed (suc k) d (omega arith)))

module _ (named : ℕ → Bool) (ms : List Message) (start end : ℕ) (reach : IsReach named ms start end) (inside : start ≤ length ms) where
  stays_before : filter (stays named) ms ≡ take start ms ++ filter (stays named) (drop start ms)
  stays_before =
      ap (filter (stays named)) (sym (take-append-drop start ms)) ∙ filter-append (stays named) (take start ms) (drop start ms)
      ∙ ap (λ (l : List Message). l ++ filter (stays named) (drop start ms)) (all_stay named (take start ms) (unnamed_before named ms start end reach inside))

  stays_after : (place : ℕ) → end ≤ place → filter (stays named) (drop place ms) ≡ drop place ms
  stays_after place following = all_stay named (drop place ms) (unnamed_after named ms start end place reach following)

  -- nothing is named
  pub none_goes : end ≤ start → filter (stays named) ms ≡ ms
  none_goes empty = stays_before ∙ ap (λ (l : List Message). take start ms ++ l) (stays_after start empty) ∙ take-append-drop start ms

  -- one message may be named
  pub one_goes : (m : Message) (test : Bool) → start < length ms → end ≤ start + 1 → m ≡ get_or ms start m → test ≡ goes named m
      → filter (stays named) ms ≡ cond test (take start ms ++ drop (start + 1) ms) ms
  one_goes m test there alone is t =
      let next : suc start ≡ start + 1 = omega arith in
      let rest : drop start ms ≡ m ∷ drop (start + 1) ms =
      drop-cons ms start m there ∙ ap (λ (x : Message). x ∷ drop (suc start) ms) (sym is) ∙ ap (λ (n : ℕ). m ∷ drop n ms) next in
      stays_before
      ∙ ap (λ (l : List Message). take start ms ++ filter (stays named) l) rest
      ∙ ap (λ (l : List Message). take start ms ++ cond (stays named m) (m ∷ l) l) (stays_after (start + 1) alone)
      ∙ ap (λ (b : Bool). take start ms ++ cond (not b) (m ∷ drop (start + 1) ms) (drop (start + 1) ms)) (sym t)
      ∙ by_test test rest
    where
      by_test : (b : Bool) → drop start ms ≡ m ∷ drop (start + 1) ms
          → take start ms ++ cond (not b) (m ∷ drop (start + 1) ms) (drop (start + 1) ms) ≡ cond b (take start ms ++ drop (start + 1) ms) ms
      by_test true rest = refl
      by_test false rest = ap (λ (l : List Message). take start ms ++ l) (sym rest) ∙ take-append-drop start ms
