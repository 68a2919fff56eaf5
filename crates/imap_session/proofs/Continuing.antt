-- Each command lets each mailbox go on: UIDs stay with their messages.
use Rattle.std.proofs.Common.{◌≡◌, ◌≤◌, inl, inr, ℕ, Bool, true, false, cond, eqb, List, [], ◌∷◌, ◌++◌, map, refl, ◌∙◌, ap, Option, Some, arith}
use Rattle.std.specs.Prelude.{find}
use Rattle.std.specs.Option.{option_map}
use Rattle.std.proofs.lemmas.Bool.{cases_Bool}
use Rattle.mailcore.specs.declared.mailbox.Message.{Message}
use Rattle.mailcore.specs.Stores.{Store, IsStore}
use Rattle.mailcore.specs.Operations.{added, flagged, expunged, with_flags, bytes_among, bytes_of}
use Rattle.mailcore.proofs.OperationLemmas.{is_store-added, is_store-flagged, is_store-expunged}
use Rattle.wire_tokens.specs.declared.uid_set.SetItem.{SetItem}
use Rattle.imap_commands.specs.declared.command.StoreMode.{StoreMode}
use Rattle.imap_commands.specs.declared.command.StoreMode.TheVariants as modes
use Rattle.imap_session.specs.Mailboxes.{FarMailbox, same_name, mailbox_at, changed}
use Rattle.imap_session.specs.NamedMessages.{flags_changed, each_changed, stored, swept, uids_named, uids_going}
use Rattle.imap_session.specs.Servers.{Condition, NotAuthenticated, Authenticated, Selected, LoggedOut, changed_in}
use Rattle.imap_session.specs.SessionLaws.{Remains, Continues, AllContinue, AreStores, GoOn}
use Rattle.imap_session.proofs.Messages.{has_uid, is_among, uid-with_flags, bytes-with_flags, find-stays, find-gone, find-added}

-- ---- one mailbox

-- it stays one, and goes on
pub record StepsOn (old new : Store) : Type 0 where
  pub store : IsStore new
  pub continues : Continues old new

remains-trans : (c b a : Option (List ℕ)) → Remains c b → Remains b a → Remains c a
remains-trans c b a (inl n) k = inl n
remains-trans c b a (inr e) (inl n) = inl (e ∙ n)
remains-trans c b a (inr e) (inr f) = inr (e ∙ f)

continues-refl : (s : Store) → Continues s s
continues-refl s = record { validity = refl; next = omega arith; bodies = λ uid less. inr refl }

continues-trans : (a b c : Store) → Continues a b → Continues b c → Continues a c
continues-trans a b c h k = record {
  validity = k.validity ∙ h.validity;
  next = let l = h.next in let m = k.next in omega arith;
  bodies = λ uid less. remains-trans (bytes_of uid c) (bytes_of uid b) (bytes_of uid a) (k.bodies uid (let l = h.next in omega arith)) (h.bodies uid less);
}

steps-trans : (a b c : Store) → StepsOn a b → StepsOn b c → StepsOn a c
steps-trans a b c h k = record { store = k.store; continues = continues-trans a b c h.continues k.continues }

-- the first of two lists of messages has the same bytes under each UID
same_first : (uid : ℕ) (x m : Message) (xs ms : List Message) → x.uid ≡ m.uid → x.bytes ≡ m.bytes → bytes_among uid xs ≡ bytes_among uid ms
    → bytes_among uid (x ∷ xs) ≡ bytes_among uid (m ∷ ms)
same_first uid x m xs ms same bytes rest =
    ap (λ (n : ℕ). option_map (λ (y : Message). y.bytes) (cond (eqb n uid) (Some x) (find (has_uid uid) xs))) same
    ∙ by_test (eqb m.uid uid)
  where
    by_test : (b : Bool) → option_map (λ (y : Message). y.bytes) (cond b (Some x) (find (has_uid uid) xs)) ≡ option_map (λ (y : Message). y.bytes) (cond b (Some m) (find (has_uid uid) ms))
    by_test true = ap Some bytes
    by_test false = rest

bytes-flagged : (change : ℕ → ℕ) (u uid : ℕ) (ms : List Message) → bytes_among uid (map (with_flags change u) ms) ≡ bytes_among uid ms
bytes-flagged change u uid [] = refl
bytes-flagged change u uid (m ∷ ms) =
    same_first uid (with_flags change u m) m (map (with_flags change u) ms) ms (uid-with_flags change u m) (bytes-with_flags change u m) (bytes-flagged change u uid ms)

flagged_on : (change : ℕ → ℕ) (uid : ℕ) (s : Store) → IsStore s → StepsOn s (flagged change uid s)
flagged_on change uid s is = record {
  store = is_store-flagged s change uid is;
  continues = record { validity = refl; next = omega arith; bodies = λ u less. inr (bytes-flagged change uid u s.messages) };
}

expunged_on : (uids : List ℕ) (s : Store) → IsStore s → StepsOn s (expunged uids s)
expunged_on uids s is = record {
  store = is_store-expunged s uids is;
  continues = record {
    validity = refl;
    next = omega arith;
    bodies = λ uid less. elim (cases_Bool (is_among uids uid)) [
      | inl among ↦ inl (ap (option_map (λ (y : Message). y.bytes)) (find-gone uids uid s.messages among))
      | inr not_among ↦ inr (ap (option_map (λ (y : Message). y.bytes)) (find-stays uids uid s.messages not_among))
    ];
  };
}

pub added_on : (uid flags : ℕ) (bytes : List ℕ) (s : Store) → s.next ≤ uid → IsStore s → StepsOn s (added uid flags bytes s)
added_on uid flags bytes s above is = record {
  store = is_store-added s uid flags bytes above is;
  continues = record {
    validity = refl;
    next = omega arith;
    bodies = λ u less. let other : eqb uid u ≡ false = grind arith in
        inr (ap (option_map (λ (y : Message). y.bytes)) (find-added u (record { uid = uid; flags = flags; bytes = bytes }) s.messages other));
  };
}

flags_changed_on : (mode : StoreMode) (uid flags : ℕ) (s : Store) → IsStore s → StepsOn s (flags_changed mode uid flags s)
flags_changed_on modes.Add uid flags s is = flagged_on _ uid s is
flags_changed_on modes.Remove uid flags s is = flagged_on _ uid s is

each_changed_on : (mode : StoreMode) (flags : ℕ) (uids : List ℕ) (s : Store) → IsStore s → StepsOn s (each_changed mode flags uids s)
each_changed_on mode flags [] s is = record { store = is; continues = continues-refl s }
each_changed_on mode flags (uid ∷ uids) s is =
    let one = flags_changed_on mode uid flags s is in
    steps-trans s (flags_changed mode uid flags s) (each_changed mode flags (uid ∷ uids) s) one (each_changed_on mode flags uids (flags_changed mode uid flags s) one.store)

pub stored_on : (mode : StoreMode) (flags : ℕ) (set : List SetItem) (s : Store) → IsStore s → StepsOn s (stored mode flags set s)
stored_on mode flags set s is = each_changed_on mode flags (uids_named set s) s is

pub swept_on : (set : List SetItem) (s : Store) → IsStore s → StepsOn s (swept set s)
swept_on set s is = expunged_on (uids_going set s) s is

-- ---- all mailboxes

pub all-refl : (ms : List FarMailbox) → AllContinue ms ms
all-refl [] = tt
all-refl (m ∷ ms) = (refl, continues-refl m.store, all-refl ms)

pub all-trans : (a b c : List FarMailbox) → AllContinue a b → AllContinue b c → AllContinue a c
all-trans [] b c h k = tt
all-trans (x ∷ a) [] c h k = absurd h
all-trans (x ∷ a) (y ∷ b) [] h k = absurd k
all-trans (x ∷ a) (y ∷ b) (z ∷ c) h k = (k.0 ∙ h.0, continues-trans x.store y.store z.store h.1 k.1, all-trans a b c h.2 k.2)

all-append : (ms more : List FarMailbox) → AllContinue ms (ms ++ more)
all-append [] more = tt
all-append (m ∷ ms) more = (refl, continues-refl m.store, all-append ms more)

stores-append : (ms : List FarMailbox) (m : FarMailbox) → AreStores ms → IsStore m.store → AreStores (ms ++ m ∷ [])
stores-append [] m h k = (k, tt)
stores-append (x ∷ ms) m h k = (h.0, stores-append ms m h.1 k)

pub one_more : (ms : List FarMailbox) (m : FarMailbox) → AreStores ms → IsStore m.store → GoOn ms (ms ++ m ∷ [])
one_more ms m h k = record { stores = stores-append ms m h k; continue = all-append ms (m ∷ []) }

-- where one of them is changed
abbrev ChangeGoesOn : (Store → Store) → Option FarMailbox → Type 0
ChangeGoesOn change at = (m : FarMailbox) → at ≡ Some m → IsStore m.store → StepsOn m.store (change m.store)

pub changed_goes_on : (change : Store → Store) (name : List ℕ) (ms : List FarMailbox) → ChangeGoesOn change (mailbox_at name ms) → AreStores ms → GoOn ms (changed change name ms)
changed_goes_on change name [] on h = record { stores = tt; continue = tt }
changed_goes_on change name (m ∷ ms) on h = by_test (same_name m.name name) (λ on_rest. changed_goes_on change name ms on_rest h.1) on
  where
    by_test : (b : Bool) → (ChangeGoesOn change (mailbox_at name ms) → GoOn ms (changed change name ms)) → ChangeGoesOn change (cond b (Some m) (mailbox_at name ms))
        → GoOn (m ∷ ms) (cond b (record m { store = change m.store } ∷ ms) (m ∷ changed change name ms))
    by_test true others on_it =
        let here = on_it m refl h.0 in
        record { stores = (here.store, h.1); continue = (refl, here.continues, all-refl ms) }
    by_test false others on_it =
        let rest = others on_it in
        record { stores = (h.0, rest.stores); continue = (refl, continues-refl m.store, rest.continue) }

pub same_goes_on : (ms : List FarMailbox) → AreStores ms → GoOn ms ms
same_goes_on ms h = record { stores = h; continue = all-refl ms }

pub changed_in_goes_on : (change : Store → Store) (c : Condition) (ms : List FarMailbox) → ((s : Store) → IsStore s → StepsOn s (change s)) → AreStores ms → GoOn ms (changed_in c change ms)
changed_in_goes_on change NotAuthenticated ms on h = same_goes_on ms h
changed_in_goes_on change Authenticated ms on h = same_goes_on ms h
changed_in_goes_on change (Selected name) ms on h = changed_goes_on change name ms (λ m at is. on m.store is) h
changed_in_goes_on change LoggedOut ms on h = same_goes_on ms h
