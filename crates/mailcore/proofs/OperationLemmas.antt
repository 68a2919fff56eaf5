-- Operations keep that UIDs rise and are below the next one.
use Rattle.std.proofs.Common.{◌≡◌, ℕ, ◌+◌, ◌<◌, ◌≤◌, Bool, true, false, not, cond, eqb, List, [], ◌∷◌, ◌++◌, length, get_or, refl, sym, subst, append-nil, append_assoc, arith}
use Rattle.std.specs.List.{list_any}
use Rattle.std.proofs.lemmas.List.Elements.{All-nil, All-cons, All-append, All-filter, All-map, All-weaker}
use Rattle.std.proofs.lemmas.List.Kept.{AllPairs-filter}
use Rattle.std.proofs.lemmas.List.Quantifiers.{all_pairs_push}
use Rattle.mailcore.specs.declared.mailbox.Message.{Message}
use Rattle.mailcore.specs.Listed.{AreRising, AreBelow}
use Rattle.mailcore.specs.Operations.{added, set_aside, with_flags, flagged, expunged}
use Rattle.mailcore.specs.Stores.{Store, IsStore, Waiting, numbered}
use Rattle.mailcore.proofs.Rising.{rising-map}

below_more : (messages : List Message) (n m : ℕ) → n ≤ m → AreBelow messages n → AreBelow messages m
below_more messages n m more below = All-weaker (λ x. x.uid < n) (λ x. x.uid < m) (λ x less. omega arith) messages below

pub is_store-added : (s : Store) (uid flags : ℕ) (bytes : List ℕ) → s.next ≤ uid → IsStore s → IsStore (added uid flags bytes s)
is_store-added s uid flags bytes above is =
    let m : Message = record { uid = uid; flags = flags; bytes = bytes } in
    let before : AreBelow s.messages uid = below_more s.messages s.next uid above is.below in
    record {
      rising = all_pairs_push (λ a b. a.uid < b.uid) s.messages m is.rising (λ k d within. before k d within);
      below = All-append (λ x. x.uid < uid + 1) s.messages (m ∷ []) (below_more s.messages s.next (uid + 1) (omega arith) is.below)
          (All-cons (λ x. x.uid < uid + 1) m [] (omega arith) (All-nil (λ x. x.uid < uid + 1)));
    }

pub is_store-set_aside : (s : Store) (count : ℕ) → IsStore s → IsStore (set_aside count s)
is_store-set_aside s count is = record { rising = is.rising; below = below_more s.messages s.next (s.next + count) (omega arith) is.below }

uid-with_flags : (change : ℕ → ℕ) (uid : ℕ) (m : Message) → (with_flags change uid m).uid ≡ m.uid
uid-with_flags change uid m = elim (eqb m.uid uid) as (λ b. (cond b (record m { flags = change m.flags }) m).uid ≡ m.uid) [ true ↦ refl | false ↦ refl ]

pub is_store-flagged : (s : Store) (change : ℕ → ℕ) (uid : ℕ) → IsStore s → IsStore (flagged change uid s)
is_store-flagged s change uid is =
    let f : Message → Message = with_flags change uid in
    record {
      rising = rising-map (λ (m : Message). m.uid) f s.messages
          (λ i j d less within.
          let low = is.rising i j d less within in
          let first = uid-with_flags change uid (get_or s.messages i d) in
          let second = uid-with_flags change uid (get_or s.messages j d) in
          omega arith);
      below = All-map (λ x. x.uid < s.next) f s.messages
          (All-weaker (λ x. x.uid < s.next) (λ x. (f x).uid < s.next) (λ x less. let same = uid-with_flags change uid x in omega arith) s.messages is.below);
    }

pub is_store-expunged : (s : Store) (uids : List ℕ) → IsStore s → IsStore (expunged uids s)
is_store-expunged s uids is =
    let stays : Message → Bool = λ m. not (list_any (λ uid. eqb m.uid uid) uids) in
    record {
      rising = AllPairs-filter (λ a b. a.uid < b.uid) stays s.messages is.rising;
      below = All-filter stays (λ x. x.uid < s.next) s.messages is.below;
    }

-- waiting files that have their UIDs, of which more may have been set aside
pub is_store-numbered : (s : Store) (files : List Waiting) (next : ℕ) → s.next + length files ≤ next → IsStore s
    → IsStore (record { validity = s.validity; next = next; messages = s.messages ++ numbered s.next files })
is_store-numbered s [] next room is =
    let same : s.messages ≡ s.messages ++ [] = sym (append-nil s.messages) in
    record {
      rising = subst AreRising same is.rising;
      below = subst (λ (ms : List Message). AreBelow ms next) same (below_more s.messages s.next next (omega arith) is.below);
    }
is_store-numbered s (file ∷ files) next room is =
    let m : Message = record { uid = s.next; flags = file.flags; bytes = file.bytes } in
    let one : Store = added s.next file.flags file.bytes s in
    let rest = is_store-numbered one files next (omega arith) (is_store-added s s.next file.flags file.bytes (omega arith) is) in
    let same : (s.messages ++ m ∷ []) ++ numbered (s.next + 1) files ≡ s.messages ++ m ∷ numbered (s.next + 1) files = append_assoc s.messages (m ∷ []) (numbered (s.next + 1) files) in
    record {
      rising = subst AreRising same rest.rising;
      below = subst (λ (ms : List Message). AreBelow ms next) same rest.below;
    }
