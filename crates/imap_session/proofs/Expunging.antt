-- What UID EXPUNGE takes.
use Rattle.std.proofs.Common.{◌≡◌, ◌<◌, inl, inr, ℕ, suc, Bool, true, false, ◌||◌, cond, eqb, List, [], ◌∷◌, map, filter, refl, sym, ◌∙◌, ap, subst, Option, Some, None, arith}
use Rattle.std.specs.Prelude.{find, All, IsSomeAnd}
use Rattle.std.proofs.lemmas.Bool.{cases_Bool, and_parts}
use Rattle.mailcore.specs.declared.mailbox.Message.{Message}
use Rattle.mailcore.specs.FlagSet.{has, DELETED}
use Rattle.mailcore.specs.Listed.{AreRising}
use Rattle.mailcore.specs.Stores.{IsStore}
use Rattle.wire_tokens.specs.declared.uid_set.SetItem.{SetItem}
use Rattle.imap_replies.specs.declared.reply.Reply.{Reply}
use Rattle.imap_session.specs.Mailboxes.{FarMailbox}
use Rattle.imap_session.specs.NamedMessages.{greatest, named_in, goes, swept, uids_going}
use Rattle.imap_session.specs.Servers.{Server, selected}
use Rattle.imap_session.specs.Answering.{Gives}
use Rattle.imap_session.specs.MessageCommands.{expunges_in}
use Rattle.imap_session.specs.SessionLaws.{TakesNamed, TakesIn}
use Rattle.imap_session.proofs.Messages.{has_uid, is_among, find-stays, find-gone}
use Rattle.wire_tokens.proofs.SetTests.{tested}
use Rattle.imap_session.proofs.Giving.{selected-changed}

-- the message under this UID is one that goes
pub record Going (named : ℕ → Bool) (uid : ℕ) (ms : List Message) : Type 0 where
  pub is_named : named uid ≡ true
  pub deleted : IsSomeAnd (find (has_uid uid) ms) (λ m. has m.flags DELETED ≡ true)

going_uids : (ℕ → Bool) → List Message → List ℕ
going_uids named ms = map (λ (m : Message). m.uid) (filter (goes named) ms)

tail_rises : (m : Message) (ms : List Message) → AreRising (m ∷ ms) → AreRising ms
tail_rises m ms r i j d less within = r (suc i) (suc j) d (omega arith) (omega arith)

-- a UID among them is not that of an earlier message
later_uid : (named : ℕ → Bool) (uid n : ℕ) (ms : List Message) → All (λ (x : Message). n < x.uid) ms → is_among (going_uids named ms) uid ≡ true → n < uid
unfolding going_uids
later_uid named uid n [] above h = cc
later_uid named uid n (m ∷ ms) above h =
    let rest : All (λ (x : Message). n < x.uid) ms = λ k d within. above (suc k) d (omega arith) in
    let here : n < m.uid = above 0 m (omega arith) in
    by_test (goes named m) h (later_uid named uid n ms rest) here
  where
    by_test : (b : Bool) → is_among (map (λ (x : Message). x.uid) (cond b (m ∷ filter (goes named) ms) (filter (goes named) ms))) uid ≡ true
        → (is_among (map (λ (x : Message). x.uid) (filter (goes named) ms)) uid ≡ true → n < uid) → n < m.uid → n < uid
    by_test true k rest here = elim (cases_Bool (eqb uid m.uid)) [
      | inl same ↦ let equal : uid ≡ m.uid = grind arith in omega arith
      | inr other ↦ rest (sym (ap (λ (c : Bool). c || is_among (map (λ (x : Message). x.uid) (filter (goes named) ms)) uid) other) ∙ k)
    ]
    by_test false k rest here = rest k

going : (named : ℕ → Bool) (uid : ℕ) (ms : List Message) → AreRising ms → is_among (going_uids named ms) uid ≡ true → Going named uid ms
unfolding going_uids
going named uid [] r h = cc
going named uid (m ∷ ms) r h = by_test (goes named m) refl h (going named uid ms (tail_rises m ms r))
    (later_uid named uid m.uid ms (λ k d within. r 0 (suc k) d (omega arith) (omega arith)))
  where
    past : eqb m.uid uid ≡ false → Going named uid ms → Going named uid (m ∷ ms)
    past other g = record {
      is_named = g.is_named;
      deleted = subst (λ (b : Bool). IsSomeAnd (cond b (Some m) (find (has_uid uid) ms)) (λ (x : Message). has x.flags DELETED ≡ true)) (sym other) g.deleted;
    }

    by_test : (b : Bool) → goes named m ≡ b → is_among (map (λ (x : Message). x.uid) (cond b (m ∷ filter (goes named) ms) (filter (goes named) ms))) uid ≡ true
        → (is_among (map (λ (x : Message). x.uid) (filter (goes named) ms)) uid ≡ true → Going named uid ms)
        → (is_among (map (λ (x : Message). x.uid) (filter (goes named) ms)) uid ≡ true → m.uid < uid) → Going named uid (m ∷ ms)
    by_test true is k rest later = elim (cases_Bool (eqb uid m.uid)) [
      | inl same ↦
          let equal : uid ≡ m.uid = grind arith in
          let found : eqb m.uid uid ≡ true = grind arith in
          let parts = and_parts (named m.uid) (has m.flags DELETED) is in
          record {
            is_named = ap named equal ∙ parts.0;
            deleted = subst (λ (b : Bool). IsSomeAnd (cond b (Some m) (find (has_uid uid) ms)) (λ (x : Message). has x.flags DELETED ≡ true)) (sym found) parts.1;
          }
      | inr other ↦
          let among : is_among (map (λ (x : Message). x.uid) (filter (goes named) ms)) uid ≡ true =
          sym (ap (λ (c : Bool). c || is_among (map (λ (x : Message). x.uid) (filter (goes named) ms)) uid) other) ∙ k in
          let less = later among in
          past (let e : eqb m.uid uid ≡ false = grind arith in e) (rest among)
    ]
    by_test false is k rest later =
        let less = later k in
        past (let e : eqb m.uid uid ≡ false = grind arith in e) (rest k)

swept_takes : (set : List SetItem) (m : FarMailbox) → IsStore m.store → TakesNamed set m (record m { store = swept set m.store })
unfolding going_uids
swept_takes set m is = record {
  each = λ uid. elim (cases_Bool (is_among (uids_going set m.store) uid)) [
    | inl among ↦
        let g = going (named_in m.store set) uid m.store.messages is.rising among in
        inr (record {
          gone = find-gone (uids_going set m.store) uid m.store.messages among;
          named = (tested (greatest m.store.messages) set uid).0 g.is_named;
          deleted = g.deleted;
        })
    | inr not_among ↦ inl (find-stays (uids_going set m.store) uid m.store.messages not_among)
  ];
}

expunges_take : (s new : Server) (m : FarMailbox) (tag : List ℕ) (set : List SetItem) (rs : List Reply) (at : Option FarMailbox) → selected s ≡ at → at ≡ Some m
    → IsStore m.store → Gives (expunges_in at s tag set) rs new → TakesIn set m new
expunges_take s new m tag set rs None e at is g = cc
expunges_take s new m tag set rs (Some n) e at is g = record {
  after = record m { store = swept set m.store };
  is = ap selected g.1 ∙ selected-changed (swept set) s.condition s.mailboxes m (e ∙ at);
  takes = swept_takes set m is;
}

pub expunge_takes : (old new : Server) (m : FarMailbox) (tag : List ℕ) (set : List SetItem) (replies : List Reply) → selected old ≡ Some m → IsStore m.store
    → Gives (expunges_in (selected old) old tag set) replies new → TakesIn set m new
expunge_takes old new m tag set replies at is g = expunges_take old new m tag set replies (selected old) refl at is g
