-- What no call names stays, over each change and several.
use Rattle.std.proofs.Common.{◌≡◌, ◌≢◌, ◌⊎◌, ◌+◌, inl, inr, refl, sym, ◌∙◌, ap, subst, ℕ, Bool, true, false, not, List, [], ◌∷◌, ◌++◌, All, map, filter, take, drop, length, Option, Result, Ok, Err, ◌≤◌, arith, append_assoc, length-append}
use Rattle.std.specs.Prelude.{Contains, IsPermutation, ◌&&◌, ◌==◌}
use Rattle.std.proofs.lemmas.Bool.{both_ways, eqb-true}
use Rattle.std.proofs.lemmas.List.{take-append-drop}
use Rattle.std.proofs.lemmas.List.Elements.{All-contains, All-head, Contains-append_cases, Contains-append_left, Contains-append_right}
use Rattle.std.proofs.lemmas.List.Sorted.{Contains-permutation, IsPermutation-sym}
use Rattle.device.specs.Calls.{Acts, Between, Effect, Leaves}
use Rattle.mailcore.specs.declared.mailbox.Message.{Message}
use Rattle.mailcore.specs.declared.side.Side.{Side}
use Rattle.mailcore.specs.declared.side.Side.TheVariants.{Far, Near}
use Rattle.mailcore.specs.FlagSet.{DELETED, has}
use Rattle.mailcore.specs.Mailboxes.{Mailbox}
use Rattle.mailcore.specs.Operations.{flagged, flags_added, flags_removed, with_flags, with_messages}
use Rattle.mailcore.specs.Stores.{IsStore, Store, Waiting, numbered}
use Rattle.mailcore.proofs.OperationLemmas.{is_store-flagged, is_store-numbered}
use Rattle.rules.proofs.Walks.{All-from_contains, Contains-cases, Contains-filter, Contains-first, Contains-map, Contains-none, Contains-rest}
use Rattle.outside.specs.MailboxOperations.{IsReading, read_admitted, removed}
use Rattle.outside.specs.Arrivals.{Arrives}
use Rattle.outside.specs.BoxCalls.{Names, Turns, with_copy}
use Rattle.outside.specs.Devices.{Device, Named, box, naming, on_box}
use Rattle.outside.specs.Sparing.{AreOthers, IsAdmitted, Spares, StaysBut}
use Rattle.outside.proofs.Order.{store_copied, store_more, store_raised, store_removed}

-- ---- nothing is named

-- both mailboxes are as they were, and nothing was named
pub same_boxes : (d d' : Device) → d'.far ≡ d.far → d'.near ≡ d.near → d'.named ≡ d.named → Spares d d'
same_boxes d d' far near named = record {
  since = [];
  named = named;
  messages = λ side m c _. there side m c;
  waiting = λ f c. inl (subst (λ (n : Mailbox). Contains n.waiting f) (sym near) c);
  order = order;
}
  where
    there : (side : Side) (m : Message) → Contains (box d side).messages m → Contains (box d' side).messages m
    there Far m c = subst (λ (s : Store). Contains s.messages m) (sym far) c
    there Near m c = subst (λ (n : Mailbox). Contains n.store.messages m) (sym near) c

    order : (side : Side) → IsStore (box d side) → IsStore (box d' side)
    order Far is = subst (λ (s : Store). IsStore s) (sym far) is
    order Near is = subst (λ (n : Mailbox). IsStore n.store) (sym near) is

pub nothing_named : (d d' : Device) → d' ≡ d → Spares d d'
nothing_named d d' same = same_boxes d d' (ap (λ (x : Device). x.far) same) (ap (λ (x : Device). x.near) same) (ap (λ (x : Device). x.named) same)

-- ---- one after another

pub others_last : (xs ys : List Named) (side : Side) (uid : ℕ) → AreOthers (xs ++ ys) side uid → AreOthers xs side uid
others_last xs ys side uid h = All-from_contains (λ n. n.side ≡ side → n.uid ≢ uid) xs (λ n c. All-contains (λ n. n.side ≡ side → n.uid ≢ uid) (xs ++ ys) n h (Contains-append_left xs ys n c))

others_first : (xs ys : List Named) (side : Side) (uid : ℕ) → AreOthers (xs ++ ys) side uid → AreOthers ys side uid
others_first xs ys side uid h = All-from_contains (λ n. n.side ≡ side → n.uid ≢ uid) ys (λ n c. All-contains (λ n. n.side ≡ side → n.uid ≢ uid) (xs ++ ys) n h (Contains-append_right xs ys n c))

pub spares_after : (a b c : Device) → Spares a b → Spares b c → Spares a c
spares_after a b c m n = record {
  since = n.since ++ m.since;
  named = n.named ∙ ap (λ (l : List Named). n.since ++ l) m.named ∙ sym (append_assoc n.since m.since a.named);
  messages = λ side x there others. n.messages side x (m.messages side x there (others_first n.since m.since side x.uid others)) (others_last n.since m.since side x.uid others);
  waiting = λ f there. by_first f (m.waiting f there);
  order = λ side is. n.order side (m.order side is);
}
  where
    by_last : (f : Waiting) → Contains c.near.waiting f ⊎ IsAdmitted n.since f c → Contains c.near.waiting f ⊎ IsAdmitted (n.since ++ m.since) f c
    by_last f (inl waits) = inl waits
    by_last f (inr k) = inr (record { uid = k.uid; stays = λ others. k.stays (others_last n.since m.since Near k.uid others) })

    by_first : (f : Waiting) → Contains b.near.waiting f ⊎ IsAdmitted m.since f b → Contains c.near.waiting f ⊎ IsAdmitted (n.since ++ m.since) f c
    by_first f (inl waits) = by_last f (n.waiting f waits)
    by_first f (inr k) = inr (record {
      uid = k.uid;
      stays = λ others. n.messages Near (record { uid = k.uid; flags = f.flags; bytes = f.bytes }) (k.stays (others_first n.since m.since Near k.uid others)) (others_last n.since m.since Near k.uid others);
    })

-- ---- others add messages

pub arrivals_spare : (ours : List ℕ → Bool) (alone : Bool) (d m : Device) → Arrives ours alone d m → Spares d m
arrivals_spare ours alone d m a =
    let now : Device = record d { far = record d.far { next = a.next; messages = d.far.messages ++ a.messages }; near = record d.near { waiting = a.waiting } } in
    subst (λ (x : Device). Spares d x) (sym a.now) (record {
      since = [];
      named = refl;
      messages = λ side x c _. there side x c;
      waiting = λ f c. inl (Contains-permutation (d.near.waiting ++ a.files) a.waiting f a.gathered (Contains-append_left d.near.waiting a.files f c));
      order = order;
    })
  where
    order : (side : Side) → IsStore (box d side) → IsStore (box (record d { far = record d.far { next = a.next; messages = d.far.messages ++ a.messages }; near = record d.near { waiting = a.waiting } }) side)
    order Far is = store_more d.far.validity d.far.next a.next d.far.messages a.messages is a.rise
    order Near is = is

    there : (side : Side) (x : Message) → Contains (box d side).messages x → Contains (box (record d { far = record d.far { next = a.next; messages = d.far.messages ++ a.messages }; near = record d.near { waiting = a.waiting } }) side).messages x
    there Far x c = Contains-append_left d.far.messages a.messages x c
    there Near x c = c

-- ---- a message is named

-- a change of one message of a store leaves each other one, and their order
pub record ChangesOne (uid : ℕ) (change : Store → Store) : Type 0 where
  pub messages : (s : Store) (m : Message) → (m.uid ≡ uid → ⊥) → Contains s.messages m → Contains (change s).messages m
  pub order : (s : Store) → IsStore s → IsStore (change s)

flags_leave : (uid : ℕ) (change : ℕ → ℕ) (s : Store) (m : Message) → (m.uid ≡ uid → ⊥) → Contains s.messages m → Contains (flagged change uid s).messages m
flags_leave uid change s m other c = Contains-map (with_flags change uid) s.messages m m c (by_test (m.uid == uid) refl)
  where
    by_test : (b : Bool) → (m.uid == uid) ≡ b → with_flags change uid m ≡ m
    by_test true e = absurd (other (eqb-true m.uid uid e))
    by_test false e = rw e refl

pub flags_change_one : (uid : ℕ) (change : ℕ → ℕ) → ChangesOne uid (flagged change uid)
flags_change_one uid change = record { messages = flags_leave uid change; order = λ s is. is_store-flagged s change uid is }

removal_leaves : (uid : ℕ) (s : Store) (m : Message) → (m.uid ≡ uid → ⊥) → Contains s.messages m → Contains (removed uid s).messages m
removal_leaves uid s m other c = Contains-filter (λ x. not (x.uid == uid && has x.flags DELETED)) s.messages m c (by_test (m.uid == uid) refl)
  where
    by_test : (b : Bool) → (m.uid == uid) ≡ b → not (m.uid == uid && has m.flags DELETED) ≡ true
    by_test true e = absurd (other (eqb-true m.uid uid e))
    by_test false e = rw e refl

pub removal_changes_one : (uid : ℕ) → ChangesOne uid (removed uid)
removal_changes_one uid = record { messages = removal_leaves uid; order = λ s is. store_removed s uid is }

one_named : (side : Side) (uid : ℕ) (at : Side) (m : ℕ) → AreOthers (record { side = side; uid = uid } ∷ []) at m → side ≡ at → uid ≢ m
one_named side uid at m h = All-head (λ n. n.side ≡ at → n.uid ≢ m) (record { side = side; uid = uid }) [] h

turned_to : (side : Side) (uid : ℕ) (change : Store → Store) (d : Device) → ChangesOne uid change → Spares d (naming side uid (on_box side change d))
turned_to Far uid change d one = record {
  since = record { side = Far; uid = uid } ∷ [];
  named = refl;
  messages = there;
  waiting = λ f c. inl c;
  order = order;
}
  where
    order : (at : Side) → IsStore (box d at) → IsStore (box (naming Far uid (on_box Far change d)) at)
    order Far is = one.order d.far is
    order Near is = is

    there : (at : Side) (m : Message) → Contains (box d at).messages m → StaysBut (record { side = Far; uid = uid } ∷ []) at m (naming Far uid (on_box Far change d))
    there Far m c others = one.messages d.far m (λ e. one_named Far uid Far m.uid others refl (sym e)) c
    there Near m c others = c
turned_to Near uid change d one = record {
  since = record { side = Near; uid = uid } ∷ [];
  named = refl;
  messages = there;
  waiting = λ f c. inl c;
  order = order;
}
  where
    order : (at : Side) → IsStore (box d at) → IsStore (box (naming Near uid (on_box Near change d)) at)
    order Far is = is
    order Near is = one.order d.near.store is

    there : (at : Side) (m : Message) → Contains (box d at).messages m → StaysBut (record { side = Near; uid = uid } ∷ []) at m (naming Near uid (on_box Near change d))
    there Far m c others = c
    there Near m c others = one.messages d.near.store m (λ e. one_named Near uid Near m.uid others refl (sym e)) c

pub turns_spare : (side : Side) (uid : ℕ) (change : Store → Store) (d d' : Device) → ChangesOne uid change → Turns side uid change d d' → Spares d d'
turns_spare side uid change d d' one is = subst (λ (x : Device). Spares d x) (sym is) (turned_to side uid change d one)

named_to : (side : Side) (uid : ℕ) (d : Device) → Spares d (naming side uid d)
named_to side uid d = record {
  since = record { side = side; uid = uid } ∷ [];
  named = refl;
  messages = there;
  waiting = λ f c. inl c;
  order = order;
}
  where
    order : (at : Side) → IsStore (box d at) → IsStore (box (naming side uid d) at)
    order Far is = is
    order Near is = is

    there : (at : Side) (m : Message) → Contains (box d at).messages m → StaysBut (record { side = side; uid = uid } ∷ []) at m (naming side uid d)
    there Far m c others = c
    there Near m c others = c

pub names_spare : (side : Side) (uid : ℕ) (d d' : Device) → Names side uid d d' → Spares d d'
names_spare side uid d d' is = subst (λ (x : Device). Spares d x) (sym is) (named_to side uid d)

-- ---- messages are added

-- a change of a store that leaves each of its messages
abbrev pub KeepsMessages : (Store → Store) → Type 0
KeepsMessages change = (s : Store) (m : Message) → Contains s.messages m → Contains (change s).messages m

kept_to : (side : Side) (change : Store → Store) (d : Device) → KeepsMessages change → (IsStore (box d side) → IsStore (change (box d side))) → Spares d (on_box side change d)
kept_to Far change d keeps orders = record { since = []; named = refl; messages = there; waiting = λ f c. inl c; order = order }
  where
    order : (at : Side) → IsStore (box d at) → IsStore (box (on_box Far change d) at)
    order Far is = orders is
    order Near is = is

    there : (at : Side) (m : Message) → Contains (box d at).messages m → StaysBut [] at m (on_box Far change d)
    there Far m c others = keeps d.far m c
    there Near m c others = c
kept_to Near change d keeps orders = record { since = []; named = refl; messages = there; waiting = λ f c. inl c; order = order }
  where
    order : (at : Side) → IsStore (box d at) → IsStore (box (on_box Near change d) at)
    order Far is = is
    order Near is = orders is

    there : (at : Side) (m : Message) → Contains (box d at).messages m → StaysBut [] at m (on_box Near change d)
    there Far m c others = c
    there Near m c others = keeps d.near.store m c

pub keeping_spares : (side : Side) (change : Store → Store) (d d' : Device) → KeepsMessages change → (IsStore (box d side) → IsStore (change (box d side))) → d' ≡ on_box side change d → Spares d d'
keeping_spares side change d d' keeps orders is = subst (λ (x : Device). Spares d x) (sym is) (kept_to side change d keeps orders)

pub copy_keeps : (copy : Message) (next : ℕ) → KeepsMessages (with_copy copy next)
copy_keeps copy next s m c = Contains-append_left s.messages (copy ∷ []) m c

-- ---- what waits gets its UIDs

is_numbered : (next : ℕ) (fs : List Waiting) (f : Waiting) → Contains fs f → (uid : ℕ) × Contains (numbered next fs) (record { uid = uid; flags = f.flags; bytes = f.bytes })
is_numbered next [] f c = absurd (Contains-none f c)
is_numbered next (g ∷ fs) f c = elim (Contains-cases g f fs c) [
  | inl same ↦ (next, subst (λ (x : Waiting). Contains (numbered next (g ∷ fs)) (record { uid = next; flags = x.flags; bytes = x.bytes })) same (Contains-first _ _))
  | inr rest ↦ let k = is_numbered (next + 1) fs f rest in (k.0, Contains-rest _ _ _ k.1)
]

pub admission_spares : (alone : Bool) (count : ℕ) (read left : List Waiting) (d d' : Device) → IsReading alone read left d.near → d'.far ≡ d.far → d'.named ≡ d.named → d'.near ≡ read_admitted count read left d.near → Spares d d'
admission_spares alone count read left d d' reading far named near = record {
  since = [];
  named = named;
  messages = λ side m c _. there side m c;
  waiting = λ f c. became f (Contains-append_cases read left f (Contains-permutation d.near.waiting (read ++ left) f (IsPermutation-sym (read ++ left) d.near.waiting reading.parts) c));
  order = order;
}
  where
    first : List Waiting
    first = take count read

    few : length first ≤ length read
    few = let e = ap (λ (l : List Waiting). length l) (take-append-drop count read) in omega (arith, e, length-append {A = Waiting} first (drop count read))

    order : (side : Side) → IsStore (box d side) → IsStore (box d' side)
    order Far is = subst (λ (s : Store). IsStore s) (sym far) is
    order Near is = subst (λ (n : Mailbox). IsStore n.store) (sym near) (is_store-numbered d.near.store first (d.near.store.next + length read) (omega (arith, few)) is)

    there : (side : Side) (m : Message) → Contains (box d side).messages m → Contains (box d' side).messages m
    there Far m c = subst (λ (s : Store). Contains s.messages m) (sym far) c
    there Near m c = subst (λ (n : Mailbox). Contains n.store.messages m) (sym near) (Contains-append_left d.near.store.messages (numbered d.near.store.next first) m c)

    waits : (f : Waiting) → Contains (drop count read ++ left) f → Contains d'.near.waiting f
    waits f c = subst (λ (n : Mailbox). Contains n.waiting f) (sym near) c

    admitted : (f : Waiting) → Contains first f → IsAdmitted [] f d'
    admitted f c =
        let k = is_numbered d.near.store.next first f c in
        record { uid = k.0; stays = λ _. subst (λ (n : Mailbox). Contains n.store.messages (record { uid = k.0; flags = f.flags; bytes = f.bytes })) (sym near) (Contains-append_right d.near.store.messages (numbered d.near.store.next first) _ k.1) }

    by_read : (f : Waiting) → Contains first f ⊎ Contains (drop count read) f → Contains d'.near.waiting f ⊎ IsAdmitted [] f d'
    by_read f (inl c) = inr (admitted f c)
    by_read f (inr c) = inl (waits f (Contains-append_left (drop count read) left f c))

    became : (f : Waiting) → Contains read f ⊎ Contains left f → Contains d'.near.waiting f ⊎ IsAdmitted [] f d'
    became f (inl c) = by_read f (Contains-append_cases first (drop count read) f (subst (λ (fs : List Waiting). Contains fs f) (sym (take-append-drop count read)) c))
    became f (inr c) = inl (waits f (Contains-append_right (drop count read) left f c))
