-- The mailbox that a command changes, and the UID that an APPEND gives.
use Rattle.std.proofs.Common.{◌≡◌, ◌≤◌, inl, inr, ℕ, ◌+◌, Bool, true, false, cond, List, [], ◌∷◌, ◌++◌, refl, sym, ◌∙◌, ap, subst, Option, Some, None}
use Rattle.mailcore.specs.KeywordNames.{named_set}
use Rattle.mailcore.specs.Stores.{Store}
use Rattle.mailcore.specs.Operations.{added}
use Rattle.imap_replies.specs.declared.reply.Reply.{Reply}
use Rattle.imap_replies.specs.declared.reply.Reply.TheVariants.{Exists}
use Rattle.imap_replies.specs.declared.response.Code.TheVariants as codes_of
use Rattle.imap_session.specs.Mailboxes.{FarMailbox, same_name, mailbox_at, changed}
use Rattle.imap_session.specs.Servers.{Condition, NotAuthenticated, Authenticated, Selected, LoggedOut, Server, selected_in, changed_in}
use Rattle.imap_session.specs.Answering.{Gives, done_with}
use Rattle.imap_session.specs.AppendCommand.{grown, appended, AppendsAt, AppendsIf}
use Rattle.imap_session.specs.SessionLaws.{GivesUid, says}

-- the mailbox that was changed is found under its name
pub mailbox_at-changed : (change : Store → Store) (name : List ℕ) (ms : List FarMailbox) (m : FarMailbox) → mailbox_at name ms ≡ Some m
    → mailbox_at name (changed change name ms) ≡ Some (record m { store = change m.store })
mailbox_at-changed change name [] m h = cc
mailbox_at-changed change name (x ∷ ms) m h = by_test (same_name x.name name) refl (λ k. mailbox_at-changed change name ms m k) h
  where
    by_test : (b : Bool) → same_name x.name name ≡ b → (mailbox_at name ms ≡ Some m → mailbox_at name (changed change name ms) ≡ Some (record m { store = change m.store }))
        → cond b (Some x) (mailbox_at name ms) ≡ Some m
        → mailbox_at name (cond b (record x { store = change x.store } ∷ ms) (x ∷ changed change name ms)) ≡ Some (record m { store = change m.store })
    by_test true is rest k =
        let same : x ≡ m = cc in
        ap (λ (c : Bool). cond c (Some (record x { store = change x.store })) (mailbox_at name ms)) is ∙ ap (λ (y : FarMailbox). Some (record y { store = change y.store })) same
    by_test false is rest k =
        ap (λ (c : Bool). cond c (Some x) (mailbox_at name (changed change name ms))) is ∙ rest k

pub selected-changed : (change : Store → Store) (c : Condition) (ms : List FarMailbox) (m : FarMailbox) → selected_in ms c ≡ Some m
    → selected_in (changed_in c change ms) c ≡ Some (record m { store = change m.store })
selected-changed change NotAuthenticated ms m h = cc
selected-changed change Authenticated ms m h = cc
selected-changed change (Selected name) ms m h = mailbox_at-changed change name ms m h
selected-changed change LoggedOut ms m h = cc

-- ---- APPEND

not_grown : (c : Condition) (name : List ℕ) (n : ℕ) (tag : List ℕ) (v u : ℕ) (others : List Reply)
    → says (done_with tag (codes_of.AppendUid v u)) (grown c name n ++ others) → says (done_with tag (codes_of.AppendUid v u)) others
not_grown NotAuthenticated name n tag v u others h = h
not_grown Authenticated name n tag v u others h = h
not_grown (Selected at) name n tag v u others h = by_test (same_name at name) h
  where
    by_test : (b : Bool) → says (done_with tag (codes_of.AppendUid v u)) (cond b (Exists n ∷ []) [] ++ others) → says (done_with tag (codes_of.AppendUid v u)) others
    by_test true (inl odd) = cc
    by_test true (inr k) = k
    by_test false k = k
not_grown LoggedOut name n tag v u others h = h

module _ (s : Server) (tag name message : List ℕ) (flags : List (List ℕ)) (v u : ℕ) (new : Server) where
  gives_it : (m : FarMailbox) (uid : ℕ) → mailbox_at name s.mailboxes ≡ Some m → m.store.next ≤ uid → new ≡ (appended s m uid tag name flags message).after
      → v ≡ m.store.validity → u ≡ uid → GivesUid name v u s new
  gives_it m uid at above is ve ue = record {
    before = m;
    was = at;
    validity_is = ve;
    at_least = subst (λ (n : ℕ). m.store.next ≤ n) (sym ue) above;
    after = record m { store = added uid (named_set s.keywords flags) message m.store };
    is = ap (λ (t : Server). mailbox_at name t.mailboxes) is ∙ mailbox_at-changed (added uid (named_set s.keywords flags) message) name s.mailboxes m at;
    next = ap (λ (n : ℕ). n + 1) (sym ue);
  }

  appended_gives : (m : FarMailbox) (uid : ℕ) (rs : List Reply) → mailbox_at name s.mailboxes ≡ Some m → m.store.next ≤ uid → Gives (appended s m uid tag name flags message) rs new
      → says (done_with tag (codes_of.AppendUid v u)) rs → GivesUid name v u s new
  appended_gives m uid rs at above g h =
      last (not_grown s.condition name _ tag v u (done_with tag (codes_of.AppendUid m.store.validity uid) ∷ []) (subst (says (done_with tag (codes_of.AppendUid v u))) g.0 h))
    where
      last : says (done_with tag (codes_of.AppendUid v u)) (done_with tag (codes_of.AppendUid m.store.validity uid) ∷ []) → GivesUid name v u s new
      last (inl same) = gives_it m uid at above g.1 (let ve : v ≡ m.store.validity = cc in ve) (let ue : u ≡ uid = cc in ue)
      last (inr none) = absurd none

  appends_at_gives : (at : Option FarMailbox) (rs : List Reply) → mailbox_at name s.mailboxes ≡ at → AppendsAt at s tag name flags message rs new
      → says (done_with tag (codes_of.AppendUid v u)) rs → GivesUid name v u s new
  appends_at_gives None rs e g h = let k = subst (says (done_with tag (codes_of.AppendUid v u))) g.0 h in elim k [ inl odd ↦ cc | inr none ↦ absurd none ]
  appends_at_gives (Some m) rs e (inl g) h = let k = subst (says (done_with tag (codes_of.AppendUid v u))) g.gives.0 h in elim k [ inl odd ↦ cc | inr none ↦ absurd none ]
  appends_at_gives (Some m) rs e (inr g) h = appended_gives m g.uid rs e g.may.at_least g.gives h

  pub appends_give : (b : Bool) (rs : List Reply) → AppendsIf b s tag name flags message rs new → says (done_with tag (codes_of.AppendUid v u)) rs → GivesUid name v u s new
  appends_give false rs g h = let k = subst (says (done_with tag (codes_of.AppendUid v u))) g.0 h in elim k [ inl odd ↦ cc | inr none ↦ absurd none ]
  appends_give true rs g h = appends_at_gives (mailbox_at name s.mailboxes) rs refl g h
