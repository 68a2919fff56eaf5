-- A message that is added to a mailbox.
use Rattle.std.proofs.Common.{◌≡◌, ◌<◌, ◌^◌, inr, ℕ, zero, suc, ◌+◌, Bool, true, List, [], ◌∷◌, length, refl, sym, ◌∙◌, ap, subst, Option, Some, arith, get_or}
use Rattle.std.specs.Prelude.{slice_get, slice_set, OnOk, OnErr, Result, Ok, Err}
use Rattle.std.specs.declared.alloc.AllocError.{AllocError}
use Rattle.std.proofs.lemmas.List.Elements.{All-nil, All-cons, All-append}
use Rattle.mailcore.specs.declared.mailbox.StoredMailbox.{StoredMailbox}
use Rattle.mailcore.specs.declared.mailbox.Message.{Message}
use Rattle.mailcore.specs.FlagSet.{FLAGS}
use Rattle.mailcore.specs.KeywordNames.{named_set}
use Rattle.mailcore.specs.Stores.{Store}
use Rattle.mailcore.specs.Operations.{added}
use Rattle.mailcore.proofs.OperationLemmas.{is_store-added}
use Rattle.wire_strings.specs.Literals.{IsLiteral}
use Rattle.imap_replies.specs.declared.response.Code.TheVariants as codes_of
use Rattle.imap_session.specs.Mailboxes.{FarMailbox, mailbox_at}
use Rattle.imap_session.specs.Servers.{Condition, Server, is_logged_in}
use Rattle.imap_session.specs.Answering.{done_with}
use Rattle.imap_session.specs.AppendCommand.{grown, appended, AppendsAt, Appends, AppendsIf}
use Rattle.imap_session.specs.Boxes.{far_of, all_of, store_of, IsServed, AreServed}
use Rattle.imap_server.specs.Places.{IsPlace, changed_there}
use Rattle.imap_server.specs.Writing.{Wrote, AnsweredBy}
use Rattle.imap_server.proofs.WritingLemmas.{wrote_then}

-- ---- the mailboxes, where one of them is changed

pub all_of-set : (raw : List StoredMailbox) (n : ℕ) (m d : StoredMailbox) (c : Store → Store) → n < length raw → far_of m ≡ record (far_of (get_or raw n d)) { store = c (store_of (get_or raw n d)) }
    → all_of (slice_set raw n m) ≡ changed_there c n (all_of raw)
all_of-set [] n m d c h e = absurd (omega arith)
all_of-set (x ∷ xs) zero m d c h e = ap (λ (f : FarMailbox). f ∷ all_of xs) e
all_of-set (x ∷ xs) (suc n) m d c h e = ap (λ (l : List FarMailbox). far_of x ∷ l) (all_of-set xs n m d c (omega arith) e)

pub served_set : (raw : List StoredMailbox) (n : ℕ) (m : StoredMailbox) → AreServed (all_of raw) → IsServed (far_of m) → AreServed (all_of (slice_set raw n m))
served_set [] n m are is = are
served_set (x ∷ xs) zero m are is = All-cons IsServed (far_of m) (all_of xs) is (λ k d within. are (suc k) d (omega arith))
served_set (x ∷ xs) (suc n) m are is =
    All-cons IsServed (far_of x) (all_of (slice_set xs n m)) (are 0 (far_of x) (omega arith)) (served_set xs n m (λ k d within. are (suc k) d (omega arith)) is)

-- ---- a mailbox with a message more is served

pub served_added : (m : FarMailbox) (uid flags : ℕ) (bytes : List ℕ) → IsServed m → uid ≡ m.store.next → 0 < uid → uid + 1 < 2 ^ 32 → flags < 2 ^ FLAGS → IsLiteral bytes
    → IsServed (record m { store = added uid flags bytes m.store })
served_added m uid flags bytes is e positive below set octets =
    let x : Message = record { uid = uid; flags = flags; bytes = bytes } in
    record {
      name = is.name;
      store = is_store-added m.store uid flags bytes (omega arith) is.store;
      range = record {
        validity = is.range.validity;
        next = record { positive = omega arith; below = below };
        messages = record {
          uids = All-append (λ (y : Message). 0 < y.uid) m.store.messages (x ∷ []) is.range.messages.uids (All-cons (λ (y : Message). 0 < y.uid) x [] positive (All-nil (λ (y : Message). 0 < y.uid)));
          last = All-append (λ (y : Message). y.uid + 1 < 2 ^ 32) m.store.messages (x ∷ []) is.range.messages.last (All-cons (λ (y : Message). y.uid + 1 < 2 ^ 32) x [] below (All-nil (λ (y : Message). y.uid + 1 < 2 ^ 32)));
          flags = All-append (λ (y : Message). y.flags < 2 ^ FLAGS) m.store.messages (x ∷ []) is.range.messages.flags (All-cons (λ (y : Message). y.flags < 2 ^ FLAGS) x [] set (All-nil (λ (y : Message). y.flags < 2 ^ FLAGS)));
        };
      };
      bodies = All-append (λ (y : Message). IsLiteral y.bytes) m.store.messages (x ∷ []) is.bodies (All-cons (λ (y : Message). IsLiteral y.bytes) x [] octets (All-nil (λ (y : Message). IsLiteral y.bytes)));
    }

-- ---- the answer

pub append_there : (s new : Server) (tag name : List ℕ) (names : List (List ℕ)) (message : List ℕ) (m : FarMailbox) (n uid : ℕ) (a b c : List ℕ) → IsPlace name s.mailboxes n → slice_get s.mailboxes n ≡ Some m
    → m.store.next ≡ uid → uid < 4294967295 → Wrote (grown s.condition name (length m.store.messages + 1)) a b → Wrote (done_with tag (codes_of.AppendUid m.store.validity uid) ∷ []) b c
    → new ≡ record s { mailboxes = changed_there (added uid (named_set s.keywords names) message) n s.mailboxes }
    → AnsweredBy (AppendsAt (mailbox_at name s.mailboxes) s tag name names message) a c new
append_there s new tag name names message m n uid a b c place at next below grow said is =
    subst (λ (o : Option FarMailbox). AnsweredBy (AppendsAt o s tag name names message) a c new) (sym (place.found ∙ at)) (record {
      replies = (appended s m uid tag name names message).replies;
      wrote = wrote_then _ _ a b c grow said;
      gives_them = inr (record {
        uid = uid;
        may = record { at_least = omega arith; below = below };
        gives = (refl, is ∙ ap (λ (l : List FarMailbox). record s { mailboxes = l }) (sym (place.change (added uid (named_set s.keywords names) message))));
      });
    })

pub append_if : (s new : Server) (tag name : List ℕ) (names : List (List ℕ)) (message : List ℕ) (a c : List ℕ) → is_logged_in s.condition ≡ true
    → AnsweredBy (AppendsAt (mailbox_at name s.mailboxes) s tag name names message) a c new → AnsweredBy (Appends s tag name names message) a c new
append_if s new tag name names message a c on h =
    subst (λ (b : Bool). AnsweredBy (AppendsIf b s tag name names message) a c new) (sym on) h

-- ---- by cases on whether memory was there

pub served_after : (r : Result (Unit {0}) AllocError) (raw : List StoredMailbox) (n : ℕ) (m d : StoredMailbox) (store : Store) → AreServed (all_of raw) → IsServed (far_of d)
    → OnOk r (far_of m ≡ record (far_of d) { store = store }) → OnErr r (m ≡ d) → IsServed (record (far_of d) { store = store }) → AreServed (all_of (slice_set raw n m))
served_after (Ok x) raw n m d store are is ok err more = served_set raw n m are (subst IsServed (sym ok) more)
served_after (Err e) raw n m d store are is ok err more = served_set raw n m are (subst (λ (y : StoredMailbox). IsServed (far_of y)) (sym err) is)

same_server : (s v : Server) (mailboxes : List FarMailbox) → v.user ≡ s.user → v.password ≡ s.password → v.mailboxes ≡ mailboxes → v.keywords ≡ s.keywords → v.condition ≡ s.condition → v.has_news ≡ s.has_news → v ≡ record s { mailboxes = mailboxes }
same_server s v mailboxes a b c k d e = λ i. record { user = a i; password = b i; mailboxes = c i; keywords = k i; condition = d i; has_news = e i }

pub view_set : (s v : Server) (raw : List StoredMailbox) (n : ℕ) (m d : StoredMailbox) (c : Store → Store) → all_of raw ≡ s.mailboxes
    → v.user ≡ s.user → v.password ≡ s.password → v.keywords ≡ s.keywords → v.condition ≡ s.condition → v.has_news ≡ s.has_news → v.mailboxes ≡ all_of (slice_set raw n m) → n < length raw → d ≡ get_or raw n d
    → far_of m ≡ record (far_of d) { store = c (store_of d) } → v ≡ record s { mailboxes = changed_there c n s.mailboxes }
view_set s v raw n m d c all user password keywords condition news set h at is =
    let there : far_of m ≡ record (far_of (get_or raw n d)) { store = c (store_of (get_or raw n d)) } = is ∙ ap (λ (y : StoredMailbox). record (far_of y) { store = c (store_of y) }) at in
    same_server s v _ user password (set ∙ all_of-set raw n m d c h there ∙ ap (changed_there c n) all) keywords condition news

pub view_after : (r : Result (Unit {0}) AllocError) (s v : Server) (raw : List StoredMailbox) (n : ℕ) (m d : StoredMailbox) (c : Store → Store) → all_of raw ≡ s.mailboxes
    → v.user ≡ s.user → v.password ≡ s.password → v.keywords ≡ s.keywords → v.condition ≡ s.condition → v.has_news ≡ s.has_news → v.mailboxes ≡ all_of (slice_set raw n m) → n < length raw → d ≡ get_or raw n d
    → OnOk r (far_of m ≡ record (far_of d) { store = c (store_of d) }) → OnOk r (v ≡ record s { mailboxes = changed_there c n s.mailboxes })
view_after (Ok x) s v raw n m d c all user password keywords condition news set h at is = view_set s v raw n m d c all user password keywords condition news set h at is
view_after (Err e) s v raw n m d c all user password keywords condition news set h at is = tt

pub append_ok : (r : Result (Unit {0}) AllocError) (s new : Server) (tag name at : List ℕ) (names : List (List ℕ)) (message : List ℕ) (a c : List ℕ) → is_logged_in s.condition ≡ true → at ≡ name
    → OnOk r (AnsweredBy (AppendsAt (mailbox_at at s.mailboxes) s tag at names message) a c new) → OnOk r (AnsweredBy (Appends s tag name names message) a c new)
append_ok (Ok x) s new tag name at names message a c on e h =
    append_if s new tag name names message a c on (subst (λ (n : List ℕ). AnsweredBy (AppendsAt (mailbox_at n s.mailboxes) s tag n names message) a c new) e h)
append_ok (Err x) s new tag name at names message a c on e h = tt

pub append_at_ok : (r : Result (Unit {0}) AllocError) (s new : Server) (tag name : List ℕ) (names : List (List ℕ)) (flags : ℕ) (message : List ℕ) (m : FarMailbox) (n uid count validity : ℕ) (k : Condition) (a b c : List ℕ)
    → flags ≡ named_set s.keywords names → IsPlace name s.mailboxes n → slice_get s.mailboxes n ≡ Some m → m.store.next ≡ uid → uid + 1 < 2 ^ 32 → k ≡ s.condition → count ≡ length m.store.messages → validity ≡ m.store.validity
    → Wrote (grown k name (count + 1)) a b → Wrote (done_with tag (codes_of.AppendUid validity uid) ∷ []) b c
    → OnOk r (new ≡ record s { mailboxes = changed_there (added uid flags message) n s.mailboxes })
    → OnOk r (AnsweredBy (AppendsAt (mailbox_at name s.mailboxes) s tag name names message) a c new)
append_at_ok (Ok x) s new tag name names flags message m n uid count validity k a b c set place at next below e f g grow said is =
    append_there s new tag name names message m n uid a b c place at next (omega arith)
    (subst (λ (j : Condition). Wrote (grown j name (length m.store.messages + 1)) a b) e (subst (λ (j : ℕ). Wrote (grown k name (j + 1)) a b) f grow))
    (subst (λ (j : ℕ). Wrote (done_with tag (codes_of.AppendUid j uid) ∷ []) b c) g said)
    (subst (λ (f : ℕ). new ≡ record s { mailboxes = changed_there (added uid f message) n s.mailboxes }) set is)
append_at_ok (Err x) s new tag name names flags message m n uid count validity k a b c set place at next below e f g grow said is = tt
