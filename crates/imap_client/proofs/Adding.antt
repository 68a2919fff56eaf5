-- A message is added to the selected mailbox.
use Rattle.std.proofs.Common.{◌≡◌, ◌⊎◌, ◌<◌, ◌≤◌, inl, inr, ℕ, ◌+◌, Bool, true, false, List, [], ◌∷◌, ◌++◌, refl, sym, ◌∙◌, ap, subst, arith, length, Option, Some, None, Result, Ok, Err}
use Rattle.std.specs.Prelude.{filter, ◌==◌, ◌&&◌, nat_le, nat_lt, if◌then◌else◌}
use Rattle.std.specs.Option.{option_map}
use Rattle.std.proofs.lemmas.Bool.{cases_Bool, le-leb, leb-true}
use Rattle.mailcore.specs.KeywordNames.{IsMap, kept, named_set}
use Rattle.mailcore.specs.declared.keywords.Keyword.{Keyword}
use Rattle.mailcore.specs.Stores.{Store}
use Rattle.mailcore.specs.Operations.{added}
use Rattle.imap_commands.specs.declared.command.Command.{Command}
use Rattle.imap_commands.specs.declared.command.Request.TheVariants as requests
use Rattle.imap_replies.specs.declared.word.Status.{Status}
use Rattle.imap_replies.specs.declared.word.Status.TheVariants as statuses
use Rattle.imap_replies.specs.declared.response.Code.TheVariants as codes_of
use Rattle.imap_replies.specs.declared.reply.Reply.{Reply}
use Rattle.imap_replies.specs.declared.reply.Reply.TheVariants.{Exists}
use Rattle.imap_session.specs.Mailboxes.{FarMailbox, same_name, mailbox_at, changed}
use Rattle.imap_session.specs.Servers.{Condition, NotAuthenticated, Authenticated, Selected, LoggedOut, Server, is_logged_in, selected, selected_in, changed_in, with_selected}
use Rattle.imap_session.specs.Answering.{done_with}
use Rattle.imap_session.specs.AppendCommand.{grown, AppendsUnder, NoneLeft, AppendsAt, AppendsIf}
use Rattle.imap_session.specs.Heard.{AreHeardAs, AreReplies, IsHeardAs}
use Rattle.imap_session.specs.Steps.{Step}
use Rattle.imap_session.specs.Ends.{MayHave}
use Rattle.imap_link.specs.declared.fault.FarFault.{FarFault}
use Rattle.imap_link.specs.declared.fault.FarFault.TheVariants as faults
use Rattle.imap_link.specs.UsedReplies.{answer_alone, is_used}
use Rattle.imap_link.specs.Outcomes.{Outcome}
use Rattle.imap_link.specs.Sinks.{any_replies}
use Rattle.imap_link.specs.Exchanges.{Performs, Replied}
use Rattle.imap_answers.specs.declared.given.Given.{Given}
use Rattle.imap_client.specs.Tags.{tag_text}
use Rattle.imap_client.specs.Exchanged.{command_at, Exchanged}
use Rattle.imap_client.specs.Saying.{final_status, HeardOf}
use Rattle.imap_client.specs.States.{State, EndsSo}
use Rattle.imap_answers.specs.Given.{given_more, given_in, uid_reported}
use Rattle.imap_client.specs.Boxes.{selected_name, is_next, IsSelected}
use Rattle.imap_client.specs.Appending.{AddsUnder, AddsSome, Adds, IsReported, NoUidLeft, next_known}
use Rattle.imap_answers.proofs.Unread.{given_in_read}
use Rattle.mailcore.specs.Visitors.{Visitors}
use Rattle.imap_session.specs.Visits.{Visits, Among}
use Rattle.imap_client.specs.Seen.{HasMap, flags_sent}
use Rattle.imap_client.proofs.Mapped.{sent_kept}
use Rattle.imap_client.proofs.Visited.{at_once}
use Rattle.imap_client.proofs.Answered.{final_last, said_of}
use Rattle.imap_client.proofs.Changed.{with_store, selected_changed, there_of}

-- ---- the mailbox that is selected

-- with a mailbox of this name selected
pub record At (name : List ℕ) (mailboxes : List FarMailbox) (c : Condition) : Type 0 where
  pub logged_in : is_logged_in c ≡ true
  pub there : selected_in mailboxes c ≡ mailbox_at name mailboxes
  pub changes : (change : Store → Store) → changed_in c change mailboxes ≡ changed change name mailboxes

at_by : (name at : List ℕ) (mailboxes : List FarMailbox) → at ≡ name → At name mailboxes (Selected at)
at_by name at mailboxes e = record {
  logged_in = refl;
  there = ap (λ (n : List ℕ). mailbox_at n mailboxes) e;
  changes = λ change. ap (λ (n : List ℕ). changed change n mailboxes) e;
}

same_some : (a b : List ℕ) → (let x : Option (List ℕ) = Some a in x) ≡ Some b → a ≡ b
same_some a b e = cc

at_of : (name : List ℕ) (mailboxes : List FarMailbox) (c : Condition) → selected_name c ≡ Some name → At name mailboxes c
at_of name mailboxes NotAuthenticated e = cc
at_of name mailboxes Authenticated e = cc
at_of name mailboxes (Selected at) e = at_by name at mailboxes (same_some at name e)
at_of name mailboxes LoggedOut e = cc

-- ---- what was done

-- the message was added, and the bytes are what was said of it
pub record AddedSo (n : ℕ) (name : List ℕ) (m : FarMailbox) (flags : ℕ) (message bytes : List ℕ) (old new : Server) : Type 0 where
  pub uid : ℕ
  pub under : AddsUnder m flags message uid old new
  pub heard : HeardOf old.keywords answer_alone any_replies (grown old.condition name (length m.store.messages + 1) ++ done_with (tag_text n) (codes_of.AppendUid m.store.validity uid) ∷ []) bytes

module _ (n : ℕ) (name : List ℕ) (names : List (List ℕ)) (message : List ℕ) (old : Server) (m : FarMailbox) (named : selected_name old.condition ≡ Some name) (is : selected old ≡ Some m) where
  abbrev this : Command
  this = command_at n (requests.Append name names message)

  -- those of the flags with these names that the server has
  abbrev sent : ℕ
  sent = named_set old.keywords names

  -- it was added, or no UID is left
  by_step : (said : List Reply) (new : Server) → Step old this said new → NoneLeft old m (tag_text n) said new ⊎ AppendsUnder old m (tag_text n) name names message said new
  by_step said new step =
      let at = at_of name old.mailboxes old.condition named in
      subst (λ (x : Option FarMailbox). AppendsAt x old (tag_text n) name names message said new) (sym at.there ∙ is)
      (subst (λ (b : Bool). AppendsIf b old (tag_text n) name names message said new) at.logged_in step)

  under_of : (said : List Reply) (new : Server) → (a : AppendsUnder old m (tag_text n) name names message said new) → AddsUnder m sent message a.uid old new
  under_of said new a =
      let at = at_of name old.mailboxes old.condition named in
      record { may = a.may; after = a.gives.1 ∙ ap (λ (ms : List FarMailbox). record old { mailboxes = ms }) (sym (at.changes (added a.uid sent message))) }

  added_status : (said : List Reply) (new : Server) (status : Status) → AppendsUnder old m (tag_text n) name names message said new → final_status said ≡ Some status → statuses.Ok ≡ status
  added_status said new status a e =
      let last : final_status said ≡ Some statuses.Ok = ap final_status a.gives.0 ∙ final_last (grown old.condition name (length m.store.messages + 1)) (done_with (tag_text n) (codes_of.AppendUid m.store.validity a.uid)) in
      cc

  none_status : (said : List Reply) (new : Server) (status : Status) → NoneLeft old m (tag_text n) said new → final_status said ≡ Some status → statuses.No ≡ status
  none_status said new status l e = let last : final_status said ≡ Some statuses.No = ap final_status l.gives.0 in cc

  ok_so : (bytes : List ℕ) (new : Server) → Replied this statuses.Ok any_replies bytes old new → AddedSo n name m sent message bytes old new
  ok_so bytes new r =
      let s = said_of any_replies this statuses.Ok bytes old new r in
      elim (by_step s.said new s.step) [
        | inl l ↦ (let both = none_status s.said new statuses.Ok l s.status_is in cc)
        | inr a ↦ record { uid = a.uid; under = under_of s.said new a; heard = subst (λ (rs : List Reply). HeardOf old.keywords answer_alone any_replies rs bytes) a.gives.0 s.heard }
      ]

  no_so : (bytes : List ℕ) (new : Server) → Replied this statuses.No any_replies bytes old new → NoUidLeft m old new
  no_so bytes new r =
      let s = said_of any_replies this statuses.No bytes old new r in
      elim (by_step s.said new s.step) [
        | inl l ↦ (l.gives.1, l.last)
        | inr a ↦ (let both = added_status s.said new statuses.No a s.status_is in cc)
      ]

  bad_so : (bytes : List ℕ) (new : Server) → Replied this statuses.Bad any_replies bytes old new → ⊥
  bad_so bytes new r =
      let s = said_of any_replies this statuses.Bad bytes old new r in
      elim (by_step s.said new s.step) [
        | inl l ↦ (let both = none_status s.said new statuses.Bad l s.status_is in cc)
        | inr a ↦ (let both = added_status s.said new statuses.Bad a s.status_is in cc)
      ]

  may_so : (new : Server) → MayHave (Performs this) old new → MayHave (AddsSome m sent message) old new
  may_so new (inl q) = inl q
  may_so new (inr d) =
      elim (by_step d.said new d.step) [
        | inl l ↦ inl l.gives.1
        | inr a ↦ inr (record { uid = a.uid; under = under_of d.said new a })
      ]

  pub add_exchanged : (result : Result (Unit {0}) FarFault) (heard : List ℕ) (new : Server) → Exchanged this any_replies result heard old new
      → Outcome {T = Unit {0}} (λ _. AddedSo n name m sent message heard) (NoUidLeft m) (AddsSome m sent message) result old new
  add_exchanged (Ok x) heard new h = ok_so heard new h
  add_exchanged (Err faults.Stopped) heard new h = may_so new h
  add_exchanged (Err faults.Refused) heard new h = no_so h.bytes new h.replied
  add_exchanged (Err faults.Protocol) heard new h = bad_so h.bytes new h.replied
  add_exchanged (Err faults.TooLong) heard new h = h
  add_exchanged (Err faults.NoRev2) heard new h = h
  add_exchanged (Err faults.ReadOnly) heard new h = h
  add_exchanged (Err faults.NoMemory) heard new h = may_so new h

  pub some_of : (bytes : List ℕ) (new : Server) → AddedSo n name m sent message bytes old new → AddsSome m sent message old new
  some_of bytes new a = record { uid = a.uid; under = a.under }

-- ---- what is reported about it

by_same : (b : Bool) (n : ℕ) → ((if b then Exists n ∷ [] else []) ≡ []) ⊎ ((if b then Exists n ∷ [] else []) ≡ Exists n ∷ [])
by_same true n = inr refl
by_same false n = inl refl

none_or_one : (c : Condition) (name : List ℕ) (n : ℕ) → (grown c name n ≡ []) ⊎ (grown c name n ≡ Exists n ∷ [])
none_or_one NotAuthenticated name n = inl refl
none_or_one Authenticated name n = inl refl
none_or_one (Selected at) name n = by_same (same_name at name) n
none_or_one LoggedOut name n = inl refl

-- nothing, or its validity and its UID
abbrev IsOf : (validity uid : ℕ) → Option Given → Type 0
IsOf validity uid given = (given ≡ None) ⊎ (given ≡ Some (record { validity = validity; uid = uid }))

module _ (keywords : List Keyword) (tag : List ℕ) (validity uid : ℕ) where
  abbrev ends : Reply
  ends = done_with tag (codes_of.AppendUid validity uid)

  last_given : (h : Reply) → IsHeardAs keywords h ends → IsOf validity uid (given_more None h)
  last_given h (inl e) = inr (ap (given_more None) e)
  last_given h (inr (inl w)) = inl (ap (given_more None) w.heard_is)
  last_given h (inr (inr (inl w))) = let said = w.said_is in cc
  last_given h (inr (inr (inr (inl w)))) = let said = w.said_is in cc
  last_given h (inr (inr (inr (inr w)))) = let said = w.said_is in cc

  given_alone : (hs : List Reply) → AreHeardAs keywords hs (ends ∷ []) → IsOf validity uid (given_in hs)
  given_alone [] l = absurd l
  given_alone (h ∷ []) l = last_given h l.0
  given_alone (h ∷ i ∷ hs) l = absurd l.1

  passed : (n : ℕ) (h : Reply) → IsHeardAs keywords h (Exists n) → given_more None h ≡ None
  passed n h (inl e) = ap (given_more None) e
  passed n h (inr (inl w)) = let said = w.said_is in cc
  passed n h (inr (inr (inl w))) = let said = w.said_is in cc
  passed n h (inr (inr (inr (inl w)))) = let said = w.said_is in cc
  passed n h (inr (inr (inr (inr w)))) = let said = w.said_is in cc

  given_after : (n : ℕ) (hs : List Reply) → AreHeardAs keywords hs (Exists n ∷ ends ∷ []) → IsOf validity uid (given_in hs)
  given_after n [] l = absurd l
  given_after n (h ∷ []) l = absurd l.1
  given_after n (h ∷ i ∷ []) l = subst (λ (g : Option Given). IsOf validity uid (given_more g i)) (sym (passed n h l.0)) (last_given i l.1.0)
  given_after n (h ∷ i ∷ j ∷ hs) l = absurd l.1.1

  given_of : (c : Condition) (name : List ℕ) (n : ℕ) (hs : List Reply) → AreHeardAs keywords hs (grown c name n ++ ends ∷ []) → IsOf validity uid (given_in hs)
  given_of c name n hs l = elim (none_or_one c name n) [
    | inl e ↦ given_alone hs (subst (λ (xs : List Reply). AreHeardAs keywords hs (xs ++ ends ∷ [])) e l)
    | inr e ↦ given_after n hs (subst (λ (xs : List Reply). AreHeardAs keywords hs (xs ++ ends ∷ [])) e l)
  ]

-- the UID is reported, or none
pub record ReportedSo (uid : ℕ) (r : Result (Option ℕ) FarFault) : Type 0 where
  pub reported : Option ℕ
  pub is : r ≡ Ok reported
  pub is_reported : IsReported reported uid

reported_by : (validity next known uid : ℕ) (given : Option Given) → known ≡ validity → next ≤ uid → uid < 4294967295 → IsOf validity uid given → ReportedSo uid (uid_reported given known next)
reported_by validity next known uid given e least below (inl g) = record { reported = None; is = ap (λ (x : Option Given). uid_reported x known next) g; is_reported = tt }
reported_by validity next known uid given e least below (inr g) =
    let fits : (validity == known && nat_le next uid && nat_lt uid 4294967295) ≡ true = grind (arith, e, least, below) in
    record {
      reported = Some uid;
      is = ap (λ (x : Option Given). uid_reported x known next) g ∙ ap (λ (b : Bool). if b then (let x : Result (Option ℕ) FarFault = Ok (Some uid) in x) else Err faults.Protocol) fits;
      is_reported = refl;
    }

validity_is : (m : FarMailbox) (x : Option FarMailbox) (v : ℕ) → x ≡ Some m → option_map (λ y. y.store.validity) x ≡ Some v → v ≡ m.store.validity
validity_is m x v e h = let both : (let y : Option ℕ = Some m.store.validity in y) ≡ Some v = sym (ap (option_map (λ y. y.store.validity)) e) ∙ h in cc

pub next_at_most : (m : FarMailbox) (x : Option FarMailbox) (n : ℕ) → x ≡ Some m → is_next n x ≡ true → n ≤ m.store.next
next_at_most m x n e h = leb-true n m.store.next (sym (ap (is_next n) e) ∙ h)

pub reported_so : (n : ℕ) (name : List ℕ) (m : FarMailbox) (flags : ℕ) (message bytes : List ℕ) (old new : Server) (validity next : ℕ) → IsSelected name validity next old → selected old ≡ Some m
    → (a : AddedSo n name m flags message bytes old new) → (given : Option Given) → ((rs : List Reply) → AreReplies rs bytes → given ≡ given_in rs) → ReportedSo a.uid (uid_reported given validity next)
reported_so n name m flags message bytes old new validity next sel is a given reported =
    let least = next_at_most m (selected old) next is sel.2 in
    let may = a.under.may in
    let at_least = may.at_least in
    reported_by m.store.validity next validity a.uid given (validity_is m (selected old) validity is sel.1) (omega (arith, least, at_least)) may.below
    (subst (IsOf m.store.validity a.uid) (sym (reported (filter (is_used answer_alone) a.heard.replies) a.heard.spelled ∙ given_in_read a.heard.replies)) (given_of old.keywords (tag_text n) m.store.validity a.uid old.condition name (length m.store.messages + 1) a.heard.replies a.heard.heard_as))

same_reported : (a b : Option ℕ) → (let x : Result (Option ℕ) FarFault = Ok a in x) ≡ Ok b → a ≡ b
same_reported a b e = cc

never_err : (a : Option ℕ) (f : FarFault) → (let x : Result (Option ℕ) FarFault = Ok a in x) ≡ Err f → ⊥
never_err a f e = cc

pub adds_so : (n : ℕ) (name : List ℕ) (m : FarMailbox) (flags : ℕ) (message bytes : List ℕ) (old new : Server) (r : Result (Option ℕ) FarFault) (reported : Option ℕ)
    → (a : AddedSo n name m flags message bytes old new) → ReportedSo a.uid r → r ≡ Ok reported → Adds m flags message reported old new
adds_so n name m flags message bytes old new r reported a t e =
    record { uid = a.uid; under = a.under; is_reported = subst (λ (x : Option ℕ). IsReported x a.uid) (same_reported t.reported reported (sym t.is ∙ e)) t.is_reported }

pub never_protocol : (uid : ℕ) (r : Result (Option ℕ) FarFault) (f : FarFault) → ReportedSo uid r → r ≡ Err f → ⊥
never_protocol uid r f t e = never_err t.reported f (sym t.is ∙ e)

-- and else it breaks the protocol
fails_by : (b : Bool) (uid : ℕ) (f : FarFault) → (if b then (let x : Result (Option ℕ) FarFault = Ok (Some uid) in x) else Err faults.Protocol) ≡ Err f → f ≡ faults.Protocol
fails_by true uid f e = cc
fails_by false uid f e = cc

pub reported_fails : (given : Option Given) (validity next : ℕ) (f : FarFault) → uid_reported given validity next ≡ Err f → f ≡ faults.Protocol
reported_fails None validity next f e = absurd (never_err None f e)
reported_fails (Some given) validity next f e = fails_by (given.validity == validity && nat_le next given.uid && nat_lt given.uid 4294967295) given.uid f e

-- ---- the mailbox stays selected

known_least : (next uid : ℕ) (reported : Option ℕ) → next ≤ uid → IsReported reported uid → next_known next reported ≤ uid + 1
known_least next uid None least t = omega (arith, least)
known_least next uid (Some u) least t = omega (arith, t)

under_selected : (name : List ℕ) (validity next now : ℕ) (m : FarMailbox) (flags : ℕ) (message : List ℕ) (uid : ℕ) (old new : Server) → IsSelected name validity next old → selected old ≡ Some m
    → AddsUnder m flags message uid old new → now ≤ uid + 1 → IsSelected name validity now new
under_selected name validity next now m flags message uid old new h is a most =
    let change = added uid flags message in
    let there : selected (with_selected change old) ≡ Some (with_store change m) = selected_changed change name old h.0 ∙ ap (option_map (with_store change)) is in
    subst (IsSelected name validity now) (sym a.after)
    (h.0, ap (option_map (λ y. y.store.validity)) there ∙ ap (λ (v : ℕ). Some v) (sym (validity_is m (selected old) validity is h.1)), ap (is_next now) there ∙ le-leb now (uid + 1) most)

pub reported_selected : (name : List ℕ) (validity next : ℕ) (m : FarMailbox) (flags : ℕ) (message : List ℕ) (reported : Option ℕ) (old new : Server) → IsSelected name validity next old → selected old ≡ Some m
    → Adds m flags message reported old new → IsSelected name validity (next_known next reported) new
reported_selected name validity next m flags message reported old new h is a =
    let least = next_at_most m (selected old) next is h.2 in
    let may = a.under.may in
    let at_least = may.at_least in
    let below : next ≤ a.uid = omega (arith, least, at_least) in
    under_selected name validity next (next_known next reported) m flags message a.uid old new h is a.under (known_least next a.uid reported below a.is_reported)

-- where a call ended so
module _ (T : Type 0) (was now : State) (old new : Server) where
  not_ready : (b : Bool) → b ≡ true → b ≡ false → ⊥
  not_ready b e f = let both : true ≡ false = sym e ∙ f in cc

  -- of a session that had failed
  stuck_outcome : (does : T → Server → Server → Type 0) (refuses effect : Server → Server → Type 0) (r : Result T FarFault) → EndsSo 1 was now r → was.is_ready ≡ false → new ≡ old → Outcome does refuses effect r old new
  stuck_outcome does refuses effect (Ok x) e f same = absurd (not_ready was.is_ready e.was_ready f)
  stuck_outcome does refuses effect (Err faults.Stopped) e f same = inl same
  stuck_outcome does refuses effect (Err faults.Refused) e f same = absurd (not_ready was.is_ready e.was_ready f)
  stuck_outcome does refuses effect (Err faults.Protocol) e f same = absurd (not_ready was.is_ready e.was_ready f)
  stuck_outcome does refuses effect (Err faults.TooLong) e f same = absurd (not_ready was.is_ready e.was_ready f)
  stuck_outcome does refuses effect (Err faults.NoRev2) e f same = absurd (not_ready was.is_ready e.was_ready f)
  stuck_outcome does refuses effect (Err faults.ReadOnly) e f same = absurd (not_ready was.is_ready e.was_ready f)
  stuck_outcome does refuses effect (Err faults.NoMemory) e f same = inl same

  -- among what others do, where something is known of the server if the session had not failed
  pub among_where : (v : Visitors) (Q : Server → Type 0) (does : FarMailbox → T → Server → Server → Type 0) (refuses effect : FarMailbox → Server → Server → Type 0) (r : Result T FarFault) → EndsSo 1 was now r
      → (was.is_ready ≡ false → new ≡ old) → (was.is_ready ≡ true → (mid : Server) → Visits v old mid → Q mid)
      → Among v (λ s t. Q s → (m : FarMailbox) → selected s ≡ Some m → Outcome (does m) (refuses m) (effect m) r s t) old new
      → Among v (λ s t. (m : FarMailbox) → selected s ≡ Some m → Outcome (does m) (refuses m) (effect m) r s t) old new
  among_where v Q does refuses effect r e same known a =
      elim (cases_Bool was.is_ready) [
        | inl t ↦ record { mid = a.mid; visits = a.visits; then = λ m is. a.then (known t a.mid a.visits) m is }
        | inr f ↦ at_once v (λ s t. (m : FarMailbox) → selected s ≡ Some m → Outcome (does m) (refuses m) (effect m) r s t) old new (λ m is. stuck_outcome (does m) (refuses m) (effect m) r e f (same f))
      ]

-- what is sent to a server with the map are those of the flags that have a name
pub where_mapped : (v : Visitors) (keywords : List Keyword) (flags : ℕ) (message : List ℕ) (r : Result (Option ℕ) FarFault) → IsMap keywords → (Q : Server → Type 0) (old new : Server)
    → Among v (λ s t. Q s → (m : FarMailbox) → selected s ≡ Some m → Outcome (Adds m (flags_sent keywords flags s) message) (NoUidLeft m) (AddsSome m (flags_sent keywords flags s) message) r s t) old new
    → Among v (λ s t. (Q s × HasMap keywords s) → (m : FarMailbox) → selected s ≡ Some m → Outcome (Adds m (kept keywords flags) message) (NoUidLeft m) (AddsSome m (kept keywords flags) message) r s t) old new
where_mapped v keywords flags message r map Q old new a = record {
  mid = a.mid;
  visits = a.visits;
  then = λ q m is.
      subst (λ (f : ℕ). Outcome {T = Option ℕ} (Adds m f message) (NoUidLeft m) (AddsSome m f message) r a.mid new) (sent_kept keywords flags a.mid map q.1) (a.then q.0 m is);
}

-- of a session that goes on after a fault
module _ (was now : State) (old new : Server) (name : List ℕ) (validity next flags : ℕ) (message : List ℕ) where
  no_more : (b : Bool) → b ≡ true → b ≡ false → ⊥
  no_more b e f = let both : true ≡ false = sym e ∙ f in cc

  abbrev OutSo : FarFault → Type 0
  OutSo f = IsSelected name validity next old → (m : FarMailbox) → selected old ≡ Some m → Outcome {T = Option ℕ} (Adds m flags message) (NoUidLeft m) (AddsSome m flags message) (Err f) old new

  -- what holds of the server
  pub err_keeps : (P : Server → Type 0) (f : FarFault) → EndsSo {T = Option ℕ} 1 was now (Err f) → now.is_ready ≡ true → (was.is_ready ≡ true → IsSelected name validity next old) → (was.is_ready ≡ true → P old) → OutSo f → P new
  err_keeps P faults.Stopped e ready sel holds out = absurd (no_more now.is_ready ready e.is_ready)
  err_keeps P faults.Refused e ready sel holds out =
      let is = sel e.was_ready in
      let there = there_of name validity next old is in
      subst P (sym (out is there.mailbox there.is).0) (holds e.was_ready)
  err_keeps P faults.Protocol e ready sel holds out = absurd (no_more now.is_ready ready e.is_ready)
  err_keeps P faults.TooLong e ready sel holds out = absurd (no_more now.is_ready ready e.is_ready)
  err_keeps P faults.NoRev2 e ready sel holds out = absurd (no_more now.is_ready ready e.is_ready)
  err_keeps P faults.ReadOnly e ready sel holds out =
      let is = sel e.was_ready in
      let there = there_of name validity next old is in
      absurd (out is there.mailbox there.is)
  err_keeps P faults.NoMemory e ready sel holds out = absurd (no_more now.is_ready ready e.is_ready)

  pub err_selected : (f : FarFault) → EndsSo {T = Option ℕ} 1 was now (Err f) → now.is_ready ≡ true → (was.is_ready ≡ true → IsSelected name validity next old) → OutSo f → IsSelected name validity next new
  err_selected f e ready sel out = err_keeps (IsSelected name validity next) f e ready sel sel out

  -- and after an answer
  pub ok_selected : (reported : Option ℕ) → EndsSo 1 was now (Ok reported) → (was.is_ready ≡ true → IsSelected name validity next old)
      → (IsSelected name validity next old → (m : FarMailbox) → selected old ≡ Some m → Adds m flags message reported old new) → IsSelected name validity (next_known next reported) new
  ok_selected reported e sel out =
      let is = sel e.was_ready in
      let there = there_of name validity next old is in
      reported_selected name validity next there.mailbox flags message reported old new is there.is (out is there.mailbox there.is)

pub none_known : (next : ℕ) (reported : Option ℕ) → ((x : ℕ) → reported ≡ Some x → ⊥) → next_known next reported ≡ next
none_known next None n = refl
none_known next (Some x) n = absurd (n x refl)
