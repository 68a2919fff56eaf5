-- UID EXPUNGE removes what is named and marked as deleted.
use Rattle.std.proofs.Common.{◌≡◌, ◌<◌, inl, inr, ℕ, suc, Bool, true, false, not, List, [], ◌∷◌, refl, sym, ◌∙◌, ap, arith, get_or}
use Rattle.std.specs.Prelude.{map, filter, ◌||◌, ◌&&◌, ◌==◌, if◌then◌else◌, All}
use Rattle.std.specs.List.{list_any}
use Rattle.std.proofs.lemmas.Bool.{cases_Bool, eqb-true}
use Rattle.std.proofs.lemmas.List.Elements.{All-cons}
use Rattle.mailcore.specs.declared.mailbox.Message.{Message}
use Rattle.mailcore.specs.FlagSet.{has, DELETED}
use Rattle.mailcore.specs.Stores.{Store}
use Rattle.mailcore.specs.Listed.{AreRising}
use Rattle.mailcore.specs.Operations.{expunged}
use Rattle.wire_tokens.specs.Sets.{names, item_names}
use Rattle.imap_session.specs.NamedMessages.{greatest, goes, uids_going, named_in, swept}
use Rattle.imap_client.specs.Calls.{each_one}
use Rattle.imap_client.specs.Laws.{deleted_removed, SweptIsDeleted, SweptIsExpunged}
use Rattle.imap_client.proofs.Flagging.{selected_same}

-- ---- what is named

abbrev among : (uids : List ℕ) → ℕ → Bool
among uids u = list_any (λ uid. u == uid) uids

one_by_one : (top u : ℕ) (uids : List ℕ) → list_any (item_names top u) (each_one uids) ≡ among uids u
one_by_one top u [] = refl
one_by_one top u (x ∷ uids) = ap (λ (b : Bool). (u == x) || b) (one_by_one top u uids)

named_some : (uids : List ℕ) (m : Message) (ms : List Message) (u : ℕ) → names (greatest (m ∷ ms)) (each_one uids) u ≡ among uids u
named_some uids m [] u = one_by_one m.uid u uids
named_some uids m (n ∷ ms) u = named_some uids n ms u

-- ---- what goes, by the UIDs of those that go

same : (a b c d : Bool) → a ≡ b → c ≡ d → (a && c) ≡ (b && d)
same a b c d e f = ap (λ (x : Bool). x && c) e ∙ ap (λ (x : Bool). b && x) f

or_none : (b : Bool) → (b || false) ≡ b
or_none true = refl
or_none false = refl

and_true : (b : Bool) → (b && true) ≡ b
and_true true = refl
and_true false = refl

and_none : (b : Bool) → (b && false) ≡ false
and_none true = refl
and_none false = refl

same_uid : (u : ℕ) → (u == u) ≡ true
same_uid u = grind arith

below_other : (a b : ℕ) → a < b → (a == b) ≡ false
below_other a b lt = elim (cases_Bool (a == b)) [ inl e ↦ (let is = eqb-true a b e in absurd (omega (arith, is, lt))) | inr e ↦ e ]

above_other : (a b : ℕ) → b < a → (a == b) ≡ false
above_other a b lt = elim (cases_Bool (a == b)) [ inl e ↦ (let is = eqb-true a b e in absurd (omega (arith, is, lt))) | inr e ↦ e ]

module _ (p : Message → Bool) where
  -- a message with this UID is among those that go
  abbrev goes_as : ℕ → List Message → Bool
  goes_as u ms = list_any (λ m. p m && (u == m.uid)) ms

  going_by : (u : ℕ) (m : Message) (uids : List ℕ) (b : Bool) (rest : Bool) → among uids u ≡ rest → among (if b then m.uid ∷ uids else uids) u ≡ ((b && (u == m.uid)) || rest)
  going_by u m uids true rest e = ap (λ (x : Bool). (u == m.uid) || x) e
  going_by u m uids false rest e = e

  mapped_if : (b : Bool) (m : Message) (ms : List Message) → map (λ x. x.uid) (if b then m ∷ ms else ms) ≡ (if b then m.uid ∷ map (λ x. x.uid) ms else map (λ x. x.uid) ms)
  mapped_if true m ms = refl
  mapped_if false m ms = refl

  going : (u : ℕ) (ms : List Message) → among (map (λ m. m.uid) (filter p ms)) u ≡ goes_as u ms
  going u [] = refl
  going u (m ∷ ms) =
      ap (λ (l : List ℕ). among l u) (mapped_if (p m) m (filter p ms))
      ∙ going_by u m (map (λ x. x.uid) (filter p ms)) (p m) (goes_as u ms) (going u ms)

  -- where UIDs rise, a message goes exactly if it does itself
  none_above : (u : ℕ) (ms : List Message) → All (λ m. u < m.uid) ms → goes_as u ms ≡ false
  none_above u [] h = refl
  none_above u (m ∷ ms) h =
      let here : u < m.uid = h 0 m (omega arith) in
      let rest : All (λ (x : Message). u < x.uid) ms = λ k d within. h (suc k) d (omega arith) in
      ap (λ (b : Bool). (p m && b) || goes_as u ms) (below_other u m.uid here) ∙ ap (λ (b : Bool). b || goes_as u ms) (and_none (p m)) ∙ none_above u ms rest

  tail_rises : (m : Message) (ms : List Message) → AreRising (m ∷ ms) → AreRising ms
  tail_rises m ms r i j d less within = r (suc i) (suc j) d (omega arith) (omega arith)

  head_below : (m : Message) (ms : List Message) → AreRising (m ∷ ms) → All (λ (x : Message). m.uid < x.uid) ms
  head_below m ms r k d within = r 0 (suc k) d (omega arith) (omega arith)

  later : (y x : Message) (ys : List Message) → y.uid < x.uid → goes_as x.uid ys ≡ p x → goes_as x.uid (y ∷ ys) ≡ p x
  later y x ys lt e = ap (λ (b : Bool). (p y && b) || goes_as x.uid ys) (above_other x.uid y.uid lt) ∙ ap (λ (b : Bool). b || goes_as x.uid ys) (and_none (p y)) ∙ e

  itself : (ms : List Message) → AreRising ms → All (λ x. goes_as x.uid ms ≡ p x) ms
  itself [] r = λ k d within. absurd (omega (arith, within))
  itself (y ∷ ys) r =
      let above = head_below y ys r in
      let rest = itself ys (tail_rises y ys r) in
      All-cons (λ x. goes_as x.uid (y ∷ ys) ≡ p x) y ys
      (ap (λ (b : Bool). (p y && b) || goes_as y.uid ys) (same_uid y.uid) ∙ ap (λ (b : Bool). b || goes_as y.uid ys) (and_true (p y)) ∙ ap (λ (b : Bool). p y || b) (none_above y.uid ys above) ∙ or_none (p y))
      (λ k d within. later y (get_or ys k d) ys (above k d within) (rest k d within))

filter_same : (p q : Message → Bool) (ms : List Message) → All (λ m. p m ≡ q m) ms → filter p ms ≡ filter q ms
filter_same p q [] h = refl
filter_same p q (m ∷ ms) h =
    let here : p m ≡ q m = h 0 m (omega arith) in
    let rest : All (λ (x : Message). p x ≡ q x) ms = λ k d within. h (suc k) d (omega arith) in
    ap (λ (b : Bool). if b then m ∷ filter p ms else filter p ms) here ∙ ap (λ (l : List Message). if q m then m ∷ l else l) (filter_same p q ms rest)

-- ---- the law

module _ (uids : List ℕ) where
  abbrev goes_here : Message → Bool
  goes_here m = among uids m.uid && has m.flags DELETED

  goes_so : (s : Store) (m : Message) (ms : List Message) → s.messages ≡ m ∷ ms → (x : Message) → goes (named_in s (each_one uids)) x ≡ goes_here x
  goes_so s m ms e x =
      ap (λ (b : Bool). b && has x.flags DELETED) (ap (λ (l : List Message). names (greatest l) (each_one uids) x.uid) e ∙ named_some uids m ms x.uid)

  filter_by : (p q : Message → Bool) → ((m : Message) → p m ≡ q m) → (ms : List Message) → filter p ms ≡ filter q ms
  filter_by p q h ms = filter_same p q ms (λ k d within. h (get_or ms k d))

  going_so : (s : Store) (ms : List Message) → s.messages ≡ ms → uids_going (each_one uids) s ≡ map (λ m. m.uid) (filter goes_here ms)
  going_so s [] e = ap (λ (l : List Message). map (λ m. m.uid) (filter (goes (named_in s (each_one uids))) l)) e
  going_so s (m ∷ ms) e =
      ap (map (λ m. m.uid)) (filter_by (goes (named_in s (each_one uids))) goes_here (goes_so s m ms e) s.messages ∙ ap (filter goes_here) e)

  swept_by : (s : Store) (q : Message → Bool) → All (λ x. goes_as goes_here x.uid s.messages ≡ q x) s.messages → swept (each_one uids) s ≡ record s { messages = filter (λ m. not (q m)) s.messages }
  swept_by s q h =
      let keeps : All (λ (x : Message). not (among (uids_going (each_one uids) s) x.uid) ≡ not (q x)) s.messages =
      λ k d within.
      let u = (get_or s.messages k d).uid in
      ap not (ap (λ (l : List ℕ). among l u) (going_so s s.messages refl) ∙ going goes_here u s.messages ∙ h k d within) in
      ap (λ (l : List Message). record s { messages = l }) (filter_same (λ m. not (among (uids_going (each_one uids) s) m.uid)) (λ m. not (q m)) s.messages keeps)

  swept_deleted : (s : Store) → AreRising s.messages → swept (each_one uids) s ≡ deleted_removed uids s
  swept_deleted s r = swept_by s goes_here (itself goes_here s.messages r)

  -- what is not named stays
  other_uid : (u : ℕ) (m : Message) → among uids u ≡ false → (goes_here m && (u == m.uid)) ≡ false
  other_uid u m h =
      elim (cases_Bool (u == m.uid)) [
        | inl e ↦ ap (λ (b : Bool). (b && has m.flags DELETED) && (u == m.uid)) (ap (among uids) (sym (eqb-true u m.uid e)) ∙ h)
        | inr e ↦ ap (λ (b : Bool). goes_here m && b) e ∙ and_none (goes_here m)
      ]

  never : (u : ℕ) → among uids u ≡ false → (ms : List Message) → goes_as goes_here u ms ≡ false
  never u h [] = refl
  never u h (m ∷ ms) = ap (λ (b : Bool). b || goes_as goes_here u ms) (other_uid u m h) ∙ never u h ms

  -- what is named goes, where all of it is marked
  abbrev Goes : List Message → Message → Type 0
  Goes ms x = among uids x.uid ≡ true → goes_as goes_here x.uid ms ≡ true

  or_true : (a b : Bool) → b ≡ true → (a || b) ≡ true
  or_true true b e = refl
  or_true false b e = e

  each_goes : (ms : List Message) → All (λ x. among uids x.uid ≡ true → has x.flags DELETED ≡ true) ms → All (Goes ms) ms
  each_goes [] h = λ k d within. absurd (omega (arith, within))
  each_goes (y ∷ ys) h =
      let rest = each_goes ys (λ k d within. h (suc k) d (omega arith)) in
      All-cons (Goes (y ∷ ys)) y ys
      (λ n. let marked : has y.flags DELETED ≡ true = h 0 y (omega arith) n in
      ap (λ (b : Bool). b || goes_as goes_here y.uid ys) (same (among uids y.uid && has y.flags DELETED) true (y.uid == y.uid) true (same (among uids y.uid) true (has y.flags DELETED) true n marked) (same_uid y.uid)))
      (λ k d within n. let u = (get_or ys k d).uid in or_true (goes_here y && (u == y.uid)) (goes_as goes_here u ys) (rest k d within n))

  named_by : (u : ℕ) (ms : List Message) (b : Bool) → among uids u ≡ b → (among uids u ≡ true → goes_as goes_here u ms ≡ true) → goes_as goes_here u ms ≡ b
  named_by u ms true e h = h e
  named_by u ms false e h = never u e ms

  swept_expunged : (s : Store) → All (λ x. among uids x.uid ≡ true → has x.flags DELETED ≡ true) s.messages → swept (each_one uids) s ≡ expunged uids s
  swept_expunged s h =
      let each = each_goes s.messages h in
      swept_by s (λ m. among uids m.uid) (λ k d within. let u = (get_or s.messages k d).uid in named_by u s.messages (among uids u) refl (each k d within))

pub swept_is_deleted : SweptIsDeleted
swept_is_deleted s m uids e r = selected_same (swept (each_one uids)) (deleted_removed uids) s m e (swept_deleted uids m.store r)

pub swept_is_expunged : SweptIsExpunged
swept_is_expunged s m uids e h = selected_same (swept (each_one uids)) (expunged uids) s m e (swept_expunged uids m.store h)
