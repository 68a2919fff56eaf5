-- Changes of a mailbox keep that its UIDs rise and are below the next one.
use Rattle.std.proofs.Common.{◌≡◌, ◌<◌, ◌≤◌, ◌+◌, ℕ, Bool, not, List, [], ◌∷◌, ◌++◌, map, subst, arith, append-nil, append_assoc}
use Rattle.std.specs.Prelude.{◌&&◌, ◌==◌}
use Rattle.std.proofs.lemmas.List.Elements.{All-append, All-cons, All-filter, All-nil, All-weaker}
use Rattle.std.proofs.lemmas.List.Kept.{AllPairs-filter}
use Rattle.std.proofs.lemmas.List.Quantifiers.{all_pairs_push}
use Rattle.mailcore.specs.declared.mailbox.Message.{Message}
use Rattle.mailcore.specs.FlagSet.{DELETED, has}
use Rattle.mailcore.specs.Rise.{Rise}
use Rattle.mailcore.specs.Stores.{IsStore, Store}
use Rattle.outside.specs.MailboxOperations.{removed}
use Rattle.outside.specs.BoxCalls.{with_copy}

-- messages come that rise from the next UID on
pub store_more : (validity next bound : ℕ) (xs ys : List Message) → IsStore (record { validity = validity; next = next; messages = xs }) → Rise next (map (λ m. m.uid) ys) bound → IsStore (record { validity = validity; next = bound; messages = xs ++ ys })
store_more validity next bound xs [] s r = rw append-nil (record { rising = s.rising; below = λ i d lt. let k = s.below i d lt in omega (arith, r) })
store_more validity next bound xs (y ∷ ys) s r =
    let one : IsStore (record { validity = validity; next = y.uid + 1; messages = xs ++ y ∷ [] }) = record {
      rising = all_pairs_push (λ (a b : Message). a.uid < b.uid) xs y s.rising (λ k d lt. let h = s.below k d lt in let j = r.0 in omega arith);
      below = All-append (λ (m : Message). m.uid < y.uid + 1) xs (y ∷ []) (λ i d lt. let h = s.below i d lt in let j = r.0 in omega arith) (All-cons (λ (m : Message). m.uid < y.uid + 1) y [] (omega arith) (All-nil (λ (m : Message). m.uid < y.uid + 1)));
    } in
    subst (λ (l : List Message). IsStore (record { validity = validity; next = bound; messages = l })) (append_assoc xs (y ∷ []) ys) (store_more validity (y.uid + 1) bound (xs ++ y ∷ []) ys one r.1)

pub store_copied : (s : Store) (copy : Message) (next : ℕ) → s.next ≤ copy.uid → copy.uid < next → IsStore s → IsStore (with_copy copy next s)
store_copied s copy next least below is = store_more s.validity s.next next s.messages (copy ∷ []) is (least, omega arith)

-- the next UID is raised
pub store_raised : (s : Store) (next : ℕ) → s.next ≤ next → IsStore s → IsStore (record s { next = next })
store_raised s next least is = record {
  rising = is.rising;
  below = All-weaker (λ (m : Message). m.uid < s.next) (λ (m : Message). m.uid < next) (λ m low. omega (arith, low)) s.messages is.below;
}

pub store_removed : (s : Store) (uid : ℕ) → IsStore s → IsStore (removed uid s)
store_removed s uid is =
    let stays : Message → Bool = λ m. not (m.uid == uid && has m.flags DELETED) in
    record {
      rising = AllPairs-filter (λ (a b : Message). a.uid < b.uid) stays s.messages is.rising;
      below = All-filter stays (λ (m : Message). m.uid < s.next) s.messages is.below;
    }
