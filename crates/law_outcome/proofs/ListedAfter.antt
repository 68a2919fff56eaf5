-- What the mailboxes list after a run: the messages that stay, and then the copies.
use Rattle.std.proofs.Common.{◌≡◌, ℕ, ◌+◌, ◌<◌, ◌≤◌, false, List, [], ◌∷◌, ◌++◌, Option, Some, None, length, map, refl, sym, ap, ◌∙◌, inl, inr, arith}
use Rattle.std.specs.Prelude.{Contains, ◌==◌}
use Rattle.std.specs.Option.{option_map}
use Rattle.std.proofs.lemmas.Bool.{cases_Bool, eqb-true, eq-eqb, ne_eqb, cond-true, cond-false}
use Rattle.mailcore.specs.declared.side.Side.{Side}
use Rattle.mailcore.specs.declared.side.Side.TheVariants.{Far, Near}
use Rattle.mailcore.specs.declared.side.Direction.TheVariants.{Pull, Push}
use Rattle.mailcore.specs.declared.listing.Item.{Item}
use Rattle.mailcore.specs.declared.mailbox.Message.{Message}
use Rattle.mailcore.specs.Listed.{AreRising, item_of}
use Rattle.mailcore.specs.Rise.{Rise}
use Rattle.rules.specs.declared.entry.Entry.{Entry}
use Rattle.rules.specs.Entries.{uid_of}
use Rattle.rules.specs.Scene.{flags_at}
use Rattle.rules.specs.Copies.{copy_of, copies_under, pair_of_copy, pairs_under}
use Rattle.rules.proofs.Walks.{Contains-first, Contains-rest, Contains-cases, Contains-none, AllPairs-head, AllPairs-tail}

-- the flags of the stored message with this UID
abbrev pub stored_at : Side → List Message → ℕ → Option ℕ
stored_at side ms u = flags_at (map (item_of side) ms) u

-- ---- look-ups in lists of messages

first_is : (side : Side) (m : Message) (ms : List Message) (u : ℕ) → m.uid ≡ u → stored_at side (m ∷ ms) u ≡ Some m.flags
first_is side m ms u e = ap (λ o. option_map (λ (i : Item). i.flags) o) (cond-true (m.uid == u) (Some (item_of side m)) _ (eq-eqb m.uid u e))

rest_is : (side : Side) (m : Message) (ms : List Message) (u : ℕ) → (m.uid == u) ≡ false → stored_at side (m ∷ ms) u ≡ stored_at side ms u
rest_is side m ms u e = ap (λ o. option_map (λ (i : Item). i.flags) o) (cond-false (m.uid == u) (Some (item_of side m)) _ e)

-- none has the UID
pub at_none : (side : Side) (ms : List Message) (u : ℕ) → ((m : Message) → Contains ms m → (m.uid == u) ≡ false) → stored_at side ms u ≡ None
at_none side [] u h = refl
at_none side (m ∷ ms) u h = rest_is side m ms u (h m (Contains-first m ms)) ∙ at_none side ms u (λ x c. h x (Contains-rest m x ms c))

pub at_after : (side : Side) (ms ns : List Message) (u : ℕ) → ((m : Message) → Contains ms m → (m.uid == u) ≡ false) → stored_at side (ms ++ ns) u ≡ stored_at side ns u
at_after side [] ns u h = refl
at_after side (m ∷ ms) ns u h = rest_is side m (ms ++ ns) u (h m (Contains-first m ms)) ∙ at_after side ms ns u (λ x c. h x (Contains-rest m x ms c))

pub at_before : (side : Side) (ms ns : List Message) (u : ℕ) → ((m : Message) → Contains ns m → (m.uid == u) ≡ false) → stored_at side (ms ++ ns) u ≡ stored_at side ms u
at_before side [] ns u h = at_none side ns u h
at_before side (m ∷ ms) ns u h = elim (cases_Bool (m.uid == u)) [
  | inl here ↦ first_is side m (ms ++ ns) u (eqb-true m.uid u here) ∙ sym (first_is side m ms u (eqb-true m.uid u here))
  | inr other ↦ rest_is side m (ms ++ ns) u other ∙ at_before side ms ns u h ∙ sym (rest_is side m ms u other)
]

-- in a mailbox whose UIDs rise each message is found under its own
pub at_message : (side : Side) (ms : List Message) → AreRising ms → (m : Message) → Contains ms m → stored_at side ms m.uid ≡ Some m.flags
at_message side [] rising m c = absurd (Contains-none m c)
at_message side (z ∷ ms) rising m c = elim (Contains-cases z m ms c) [
  | inl same ↦ first_is side z ms m.uid (ap (λ (x : Message). x.uid) same) ∙ ap (λ (x : Message). Some x.flags) same
  | inr rest ↦ let less : z.uid < m.uid = AllPairs-head (λ (a b : Message). a.uid < b.uid) z ms rising m rest in
      rest_is side z ms m.uid (ne_eqb z.uid m.uid (omega arith)) ∙ at_message side ms (AllPairs-tail (λ (a b : Message). a.uid < b.uid) z ms rising) m rest
]

-- ---- messages with other flags

abbrev pub with_flags : (ℕ → ℕ → ℕ) → Message → Message
with_flags g m = record { uid = m.uid; flags = g m.uid m.flags; bytes = m.bytes }

pub at_changed : (side : Side) (g : ℕ → ℕ → ℕ) (ms : List Message) (u : ℕ) → stored_at side (map (with_flags g) ms) u ≡ option_map (g u) (stored_at side ms u)
at_changed side g [] u = refl
at_changed side g (m ∷ ms) u = elim (cases_Bool (m.uid == u)) [
  | inl here ↦ let e = eqb-true m.uid u here in
      first_is side (with_flags g m) (map (with_flags g) ms) u e ∙ ap (λ v. Some (g v m.flags)) e ∙ sym (ap (λ o. option_map (g u) o) (first_is side m ms u e))
  | inr other ↦ rest_is side (with_flags g m) (map (with_flags g) ms) u other ∙ at_changed side g ms u ∙ sym (ap (λ o. option_map (g u) o) (rest_is side m ms u other))
]

-- ---- copies

-- copies have the UIDs from the first on
pub copies_above : (side : Side) (least : ℕ) (uids : List ℕ) (next : ℕ) (marks : List (List ℕ)) (ms : List Message) (c : Message) → Rise least uids next → Contains (copies_under side uids marks ms) c → least ≤ c.uid
copies_above side least [] next marks ms c r h = absurd (Contains-none c h)
copies_above side least (u ∷ uids) next [] ms c r h = absurd (Contains-none c h)
copies_above side least (u ∷ uids) next (mark ∷ marks) [] c r h = absurd (Contains-none c h)
copies_above side least (u ∷ uids) next (mark ∷ marks) (m ∷ ms) c r h =
    let up : least ≤ u = r.0 in
    elim (Contains-cases _ c (copies_under side uids marks ms) h) [
      | inl same ↦ let e : u ≡ c.uid = ap (λ (x : Message). x.uid) same in omega arith
      | inr rest ↦ let l : u + 1 ≤ c.uid = copies_above side (u + 1) uids next marks ms c r.1 rest in omega arith
    ]

-- the message that an entry of a copy comes from: there is its UID in the entry, and here the copy's
pub record IsCopied (side : Side) (least : ℕ) (uids : List ℕ) (marks : List (List ℕ)) (ms : List Message) (noted : ℕ) (there here : Option ℕ) : Type 0 where
  pub message : Message
  pub among : Contains ms message
  pub uid : ℕ
  pub above : least ≤ uid
  pub from : there ≡ Some message.uid
  pub copy : here ≡ Some uid
  pub same : noted ≡ message.flags
  pub flags : stored_at side (copies_under side uids marks ms) uid ≡ Some message.flags

first_copied : (side : Side) (least u : ℕ) (uids : List ℕ) (mark : List ℕ) (marks : List (List ℕ)) (m : Message) (ms : List Message) (noted : ℕ) (there here : Option ℕ) →
    least ≤ u → there ≡ Some m.uid → here ≡ Some u → noted ≡ m.flags → IsCopied side least (u ∷ uids) (mark ∷ marks) (m ∷ ms) noted there here
first_copied side least u uids mark marks m ms noted there here l e f g = record {
  message = m;
  among = Contains-first m ms;
  uid = u;
  above = l;
  from = e;
  copy = f;
  same = g;
  flags = first_is side (copy_of side u m.flags mark m.bytes) (copies_under side uids marks ms) u refl;
}

later_copied : (side : Side) (least u : ℕ) (uids : List ℕ) (mark : List ℕ) (marks : List (List ℕ)) (m : Message) (ms : List Message) (noted : ℕ) (there here : Option ℕ) →
    least ≤ u → IsCopied side (u + 1) uids marks ms noted there here → IsCopied side least (u ∷ uids) (mark ∷ marks) (m ∷ ms) noted there here
later_copied side least u uids mark marks m ms noted there here l r =
    let above : u + 1 ≤ r.uid = r.above in
    record {
      message = r.message;
      among = Contains-rest m r.message ms r.among;
      uid = r.uid;
      above = omega arith;
      from = r.from;
      copy = r.copy;
      same = r.same;
      flags = rest_is side (copy_of side u m.flags mark m.bytes) (copies_under side uids marks ms) r.uid (ne_eqb u r.uid (omega arith)) ∙ r.flags;
    }

pub pulled_copied : (least : ℕ) (uids : List ℕ) (next : ℕ) (marks : List (List ℕ)) (ms : List Message) (e : Entry) → Rise least uids next → length marks ≡ length ms →
    Contains (pairs_under Pull uids ms) e → IsCopied Near least uids marks ms e.flags e.far e.near
pulled_copied least [] next marks ms e r l h = absurd (Contains-none e h)
pulled_copied least (u ∷ uids) next marks [] e r l h = absurd (Contains-none e h)
pulled_copied least (u ∷ uids) next [] (m ∷ ms) e r l h = absurd (omega arith)
pulled_copied least (u ∷ uids) next (mark ∷ marks) (m ∷ ms) e r l h = elim (Contains-cases _ e (pairs_under Pull uids ms) h) [
  | inl same ↦ first_copied Near least u uids mark marks m ms e.flags e.far e.near r.0 (sym (ap (λ (x : Entry). x.far) same)) (sym (ap (λ (x : Entry). x.near) same)) (sym (ap (λ (x : Entry). x.flags) same))
  | inr rest ↦ later_copied Near least u uids mark marks m ms e.flags e.far e.near r.0 (pulled_copied (u + 1) uids next marks ms e r.1 (omega arith) rest)
]

pub pushed_copied : (least : ℕ) (uids : List ℕ) (next : ℕ) (marks : List (List ℕ)) (ms : List Message) (e : Entry) → Rise least uids next → length marks ≡ length ms →
    Contains (pairs_under Push uids ms) e → IsCopied Far least uids marks ms e.flags e.near e.far
pushed_copied least [] next marks ms e r l h = absurd (Contains-none e h)
pushed_copied least (u ∷ uids) next marks [] e r l h = absurd (Contains-none e h)
pushed_copied least (u ∷ uids) next [] (m ∷ ms) e r l h = absurd (omega arith)
pushed_copied least (u ∷ uids) next (mark ∷ marks) (m ∷ ms) e r l h = elim (Contains-cases _ e (pairs_under Push uids ms) h) [
  | inl same ↦ first_copied Far least u uids mark marks m ms e.flags e.near e.far r.0 (sym (ap (λ (x : Entry). x.near) same)) (sym (ap (λ (x : Entry). x.far) same)) (sym (ap (λ (x : Entry). x.flags) same))
  | inr rest ↦ later_copied Far least u uids mark marks m ms e.flags e.near e.far r.0 (pushed_copied (u + 1) uids next marks ms e r.1 (omega arith) rest)
]

-- a copy is named by an entry
pub near_copy_named : (uids : List ℕ) (marks : List (List ℕ)) (ms : List Message) (c : Message) → Contains (copies_under Near uids marks ms) c → (e : Entry) × Contains (pairs_under Pull uids ms) e × (uid_of Near e ≡ c.uid)
near_copy_named [] marks ms c h = absurd (Contains-none c h)
near_copy_named (u ∷ uids) [] ms c h = absurd (Contains-none c h)
near_copy_named (u ∷ uids) (mark ∷ marks) [] c h = absurd (Contains-none c h)
near_copy_named (u ∷ uids) (mark ∷ marks) (m ∷ ms) c h = elim (Contains-cases _ c (copies_under Near uids marks ms) h) [
  | inl same ↦ (pair_of_copy Pull u m, Contains-first _ (pairs_under Pull uids ms), ap (λ (x : Message). x.uid) same)
  | inr rest ↦ let r = near_copy_named uids marks ms c rest in (r.0, Contains-rest _ r.0 (pairs_under Pull uids ms) r.1, r.2)
]

pub far_copy_named : (uids : List ℕ) (marks : List (List ℕ)) (ms : List Message) (c : Message) → Contains (copies_under Far uids marks ms) c → (e : Entry) × Contains (pairs_under Push uids ms) e × (uid_of Far e ≡ c.uid)
far_copy_named [] marks ms c h = absurd (Contains-none c h)
far_copy_named (u ∷ uids) [] ms c h = absurd (Contains-none c h)
far_copy_named (u ∷ uids) (mark ∷ marks) [] c h = absurd (Contains-none c h)
far_copy_named (u ∷ uids) (mark ∷ marks) (m ∷ ms) c h = elim (Contains-cases _ c (copies_under Far uids marks ms) h) [
  | inl same ↦ (pair_of_copy Push u m, Contains-first _ (pairs_under Push uids ms), ap (λ (x : Message). x.uid) same)
  | inr rest ↦ let r = far_copy_named uids marks ms c rest in (r.0, Contains-rest _ r.0 (pairs_under Push uids ms) r.1, r.2)
]
