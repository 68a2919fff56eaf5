-- From what a call of the far box does at the server to what the trait says of it.
use Rattle.std.proofs.Common.{◌≡◌, ◌≤◌, ◌+◌, ◌^◌, ℕ, Bool, List, [], ◌++◌, Option, Some, None, Result, Ok, Err, false, sym, ap, subst, ◌∙◌, inl, inr, refl, arith}
use Rattle.std.proofs.lemmas.List.{append-nil}
use Rattle.device.specs.Calls.{Effect, Follows, Leaves, Nothing, Went}
use Rattle.mailcore.specs.declared.keywords.Keyword.{Keyword}
use Rattle.mailcore.specs.declared.mailbox.Message.{Message}
use Rattle.mailcore.specs.declared.side.Side.TheVariants.{Far}
use Rattle.mailcore.specs.KeywordNames.{kept}
use Rattle.mailcore.specs.Operations.{added}
use Rattle.mailcore.specs.Stores.{Store}
use Rattle.mailcore.specs.Mailboxes.{Mailbox}
use Rattle.imap_link.specs.declared.fault.FarFault.{FarFault}
use Rattle.imap_link.specs.declared.fault.FarFault.TheVariants as far
use Rattle.imap_link.specs.Outcomes.{Outcome, Never as Unrefused}
use Rattle.imap_session.specs.Servers.{Server, with_selected}
use Rattle.imap_session.specs.Ends.{MayHave}
use Rattle.imap_client.specs.Appending as appending
use Rattle.imap_client.specs.Boxes.{Becomes}
use Rattle.imap_client.specs.Seen.{seen_through}
use Rattle.outside.proofs.Admitted.{admits_all}
use Rattle.outside.specs.MailboxOperations.{Reports, Admits, Answers, Appends, NoRoom, Turns}
use Rattle.outside.specs.declared.box_fault.BoxFault.{BoxFault}
use Rattle.outside.specs.declared.box_fault.BoxFault.TheVariants as boxes
use Rattle.outside.specs.BoxArrivals.{Arrives}
use Rattle.outside.specs.MailboxCalls.{DoesSome, LeavesBy, Never, Seen}
use Rattle.mail_sides.specs.Chosen.{IsChosen, KeepsMailboxes, box_at, settled, store_at}
use Rattle.mail_sides.specs.FarFaults.{reported}
use Rattle.mail_sides.proofs.Mailboxes.{changed_store, store_is}
use Rattle.mail_sides.proofs.SeenThrough.{added_seen}
use Rattle.mail_sides.proofs.Visited.{arrives_none}
use Rattle.mailcore.specs.Visitors.{Visitors}

-- a call that does nothing
pub rests : (v : Visitors) (honest : Type 0) (does : Effect Mailbox) (seen : Seen) → seen.is_broken ≡ false → does seen.stored seen.stored → Went honest (Follows (Arrives Far v.ours v.alone) does) seen seen
rests v honest does seen whole done = record {
  was_whole = whole;
  is_whole = whole;
  stops = refl;
  effect = λ h. record { mid = seen.stored; before = arrives_none v seen.stored; following = done };
}

-- nothing waits, so that nothing is admitted
pub none_admitted : (alone : Bool) (s : Store) → Admits alone [] (settled s) (settled s)
none_admitted alone s =
    let none : s.next + 0 ≡ s.next = omega arith in
    admits_all alone (settled s) (settled s)
    (sym (ap (λ (n : ℕ). settled (record s { next = n; messages = s.messages ++ [] })) none
    ∙ ap (λ (ms : List Message). settled (record s { messages = ms })) (append-nil s.messages)))

-- ---- by its answer, or by what its fault leaves

abbrev pub Did : {T : Type 0} → (does : T → Effect Mailbox) → (part : Effect Mailbox) → (because : BoxFault → Mailbox → Type 0) → Result T FarFault → Mailbox → Mailbox → Type 0
Did does part because (Ok answer) b b' = does answer b b'
Did does part because (Err e) b b' = LeavesBy does part because (reported e) b b'

module _ (keywords : List Keyword) (name : List ℕ) (old new : Server) where
  stays : KeepsMailboxes old new → box_at keywords name new ≡ box_at keywords name old
  stays e = ap (λ ms. settled (seen_through keywords (store_at name ms))) e

  -- ---- a call that changes no mailbox

  module _ {T : Type 0} (does : T → Server → Server → Type 0) (refuses effect : Server → Server → Type 0) (states : T → Mailbox → Type 0) (because : BoxFault → Mailbox → Type 0)
      (done : (answer : T) → does answer old new → KeepsMailboxes old new × states answer (box_at keywords name old)) (keeps : effect old new → KeepsMailboxes old new)
      (refused : refuses old new → KeepsMailboxes old new × because boxes.Refused (box_at keywords name old)) where
    may_read : MayHave effect old new → Leaves (DoesSome (Answers states)) Nothing (box_at keywords name old) (box_at keywords name new)
    may_read (inl quiet) = inl (stays (ap (λ (s : Server). s.mailboxes) quiet))
    may_read (inr e) = inl (stays (keeps e))

    pub read_did : (r : Result T FarFault) → Outcome does refuses effect r old new → Did (Answers states) Nothing because r (box_at keywords name old) (box_at keywords name new)
    read_did (Ok a) o = let d = done a o in (stays d.0, d.1)
    read_did (Err far.Stopped) o = may_read o
    read_did (Err far.Refused) o = let d = refused o in (stays d.0, d.1)
    read_did (Err far.Protocol) o = absurd o
    read_did (Err far.TooLong) o = absurd o
    read_did (Err far.NoRev2) o = absurd o
    read_did (Err far.ReadOnly) o = absurd o
    read_did (Err far.NoMemory) o = may_read o

  -- ---- a call that changes the selected mailbox

  module _ (change own : Store → Store) (c : IsChosen name old) (same : with_selected change old ≡ with_selected own old) (sees : (s : Store) → seen_through keywords (own s) ≡ own (seen_through keywords s)) where
    became : Becomes change old new → box_at keywords name new ≡ settled (own (seen_through keywords (store_at name old.mailboxes)))
    became is = ap (box_at keywords name) (is ∙ same) ∙ ap (λ (s : Store). settled (seen_through keywords s)) (changed_store own name old c) ∙ ap settled (sees (store_at name old.mailboxes))

    may_change : MayHave (Becomes change) old new → Leaves (DoesSome {T = Unit {0}} (λ _. Turns own)) Nothing (box_at keywords name old) (box_at keywords name new)
    may_change (inl quiet) = inl (ap (box_at keywords name) quiet)
    may_change (inr is) = inr (inl (record { answer = tt; done = became is }))

    pub change_did : (r : Result (Unit {0}) FarFault) → Outcome (λ _. Becomes change) Unrefused (Becomes change) r old new → Did (λ _. Turns own) Nothing Never r (box_at keywords name old) (box_at keywords name new)
    change_did (Ok x) o = became o
    change_did (Err far.Stopped) o = may_change o
    change_did (Err far.Refused) o = absurd o
    change_did (Err far.Protocol) o = absurd o
    change_did (Err far.TooLong) o = absurd o
    change_did (Err far.NoRev2) o = absurd o
    change_did (Err far.ReadOnly) o = absurd o
    change_did (Err far.NoMemory) o = may_change o

  -- ---- a message is added

  module _ (bytes : List ℕ) (flags : ℕ) (c : IsChosen name old) where
    reported_so : (reported : Option ℕ) (uid : ℕ) → appending.IsReported reported uid → Reports reported uid
    reported_so None uid t = tt
    reported_so (Some n) uid t = t

    appends : (reported : Option ℕ) (uid : ℕ) → appending.AddsUnder c.mailbox (kept keywords flags) bytes uid old new → appending.IsReported reported uid → Appends Far bytes (kept keywords flags) reported (box_at keywords name old) (box_at keywords name new)
    appends reported uid u t = record {
      uid = uid;
      gives = (subst (λ (s : Store). s.next ≤ uid) (sym (store_is name old c)) u.may.at_least, reported_so reported uid t);
      now =
          ap (box_at keywords name) u.after ∙ ap (λ (s : Store). settled (seen_through keywords s)) (changed_store (added uid (kept keywords flags) bytes) name old c)
          ∙ ap settled (added_seen keywords uid flags bytes (store_at name old.mailboxes));
    }

    may_add : MayHave (appending.AddsSome c.mailbox (kept keywords flags) bytes) old new → Leaves (DoesSome (Appends Far bytes (kept keywords flags))) Nothing (box_at keywords name old) (box_at keywords name new)
    may_add (inl quiet) = inl (ap (box_at keywords name) quiet)
    may_add (inr a) = inr (inl (record { answer = None; done = appends None a.uid a.under tt }))

    full : c.mailbox.store.next ≡ 4294967295 → 2 ^ 32 ≤ (store_at name old.mailboxes).next + 1
    full last = let n = ap (λ (s : Store). s.next) (store_is name old c) in omega (arith, n, last)

    pub add_did : (r : Result (Option ℕ) FarFault) → Outcome (appending.Adds c.mailbox (kept keywords flags) bytes) (appending.NoUidLeft c.mailbox) (appending.AddsSome c.mailbox (kept keywords flags) bytes) r old new
        → Did (Appends Far bytes (kept keywords flags)) Nothing (NoRoom Far (λ _. 1)) r (box_at keywords name old) (box_at keywords name new)
    add_did (Ok reported) a = appends reported a.uid a.under a.is_reported
    add_did (Err far.Stopped) o = may_add o
    add_did (Err far.Refused) o = (ap (box_at keywords name) o.0, (refl, full o.1))
    add_did (Err far.Protocol) o = absurd o
    add_did (Err far.TooLong) o = absurd o
    add_did (Err far.NoRev2) o = absurd o
    add_did (Err far.ReadOnly) o = absurd o
    add_did (Err far.NoMemory) o = may_add o
