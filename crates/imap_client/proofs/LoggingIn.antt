-- Capabilities are asked for, somebody logs in, and the revision is enabled.
use Rattle.std.proofs.Common.{◌≡◌, ◌≤◌, inl, inr, ℕ, ◌+◌, Bool, true, false, List, [], ◌∷◌, ◌++◌, refl, sym, ◌∙◌, ap, subst, arith, Option, Some, None, Result, Ok, Err}
use Rattle.std.specs.Prelude.{codes, filter, nat_eq, ◌&&◌, ◌||◌, if◌then◌else◌}
use Rattle.std.specs.Cmp.Lexicographic.{pointwise}
use Rattle.mailcore.specs.Visitors.{Visitors}
use Rattle.mailcore.specs.declared.keywords.Keyword.{Keyword}
use Rattle.std.specs.List.{list_any}
use Rattle.imap_commands.specs.declared.command.Request.TheVariants as requests
use Rattle.imap_replies.specs.declared.reply.Reply.{Reply}
use Rattle.imap_replies.specs.declared.reply.Reply.TheVariants.{Continue, Tagged, Notice, Capability, Enabled, List as Listed, Flags, Exists, Expunge, Fetch, Other, OtherNumbered}
use Rattle.wire_tokens.specs.Names.{has_name}
use Rattle.imap_session.specs.Mailboxes.{FarMailbox}
use Rattle.imap_session.specs.Servers.{Condition, Server, Authenticated, is_before_login, is_logged_in}
use Rattle.imap_session.specs.Visits.{AllGain, Among}
use Rattle.imap_session.specs.Answering.{Gives, done, refused_with, out_of_place}
use Rattle.imap_session.specs.SessionCommands.{REV2, lets_in, logs_in}
use Rattle.imap_session.specs.Heard.{AreHeardAs, AreReplies, IsHeardAs}
use Rattle.imap_session.proofs.HeardAs.{reads_same}
use Rattle.imap_link.specs.declared.fault.FarFault.{FarFault}
use Rattle.imap_link.specs.declared.fault.FarFault.TheVariants as faults
use Rattle.imap_link.specs.UsedReplies.{answer_alone, abilities_read, is_used}
use Rattle.imap_link.specs.Outcomes.{Outcome, Never}
use Rattle.imap_link.specs.Sinks.{any_replies}
use Rattle.imap_client.specs.Tags.{tag_text}
use Rattle.imap_replies.specs.declared.word.Status.{Status}
use Rattle.imap_replies.specs.declared.word.Status.TheVariants as statuses
use Rattle.imap_client.specs.Exchanged.{command_at, AnsweredSo, Exchanged}
use Rattle.imap_client.specs.Saying.{HeardOf}
use Rattle.imap_client.specs.States.{State, StopCause, Failed, Broken, Bye, UsedUp, Goes, EndsSo, AskedSo}
use Rattle.imap_client.specs.Logins.{reports_rev2, is_known, Authenticates, Rejects, Remains}
use Rattle.imap_client.proofs.Answered.{Sure, status_so, after_so, heard_so, answered, refused}

-- ---- CAPABILITY

abbrev pub abilities : List Reply
abilities = Capability (Some (REV2 ∷ [])) ∷ []

module _ (n : ℕ) (old : Server) where
  ability_sure : Sure (command_at n requests.Capability) old abilities (done (tag_text n)) old
  ability_sure = record { each = λ said new step. step }

  ability_by : (heard : List ℕ) (new : Server) (result : Result (Unit {0}) FarFault)
      → Outcome {T = Unit {0}} (λ _ s t. HeardOf old.keywords abilities_read any_replies (abilities ++ done (tag_text n) ∷ []) heard × (t ≡ old)) Never (λ s t. t ≡ old) result old new
      → Outcome {T = Unit {0}} (λ _ s t. HeardOf old.keywords abilities_read any_replies (abilities ++ done (tag_text n) ∷ []) heard × Remains s t) Never Remains result old new
  ability_by heard new (Ok x) h = h
  ability_by heard new (Err faults.Stopped) h = h
  ability_by heard new (Err faults.Refused) h = h
  ability_by heard new (Err faults.Protocol) h = h
  ability_by heard new (Err faults.TooLong) h = h
  ability_by heard new (Err faults.NoRev2) h = h
  ability_by heard new (Err faults.ReadOnly) h = h
  ability_by heard new (Err faults.NoMemory) h = h

  pub ability_exchanged : (result : Result (Unit {0}) FarFault) (heard : List ℕ) (new : Server) → Exchanged (command_at n requests.Capability) any_replies result heard old new
      → Outcome {T = Unit {0}} (λ _ s t. HeardOf old.keywords abilities_read any_replies (abilities ++ done (tag_text n) ∷ []) heard × Remains s t) Never Remains result old new
  ability_exchanged result heard new h =
      ability_by heard new result (answered any_replies (command_at n requests.Capability) old abilities (done (tag_text n)) old ability_sure refl result heard new h)

module _ (keywords : List Keyword) where
  same_reports : (h s : Reply) → IsHeardAs keywords h s → reports_rev2 h ≡ reports_rev2 s
  same_reports = reads_same keywords reports_rev2 (record {
    without_uid = λ tag text validity uid. refl;
    flags = λ heard said same. refl;
    permanent = λ kind text heard said same star. refl;
    message = λ place heard said same. refl;
  })

  heard_reports : (hs ss : List Reply) → AreHeardAs keywords hs ss → list_any reports_rev2 hs ≡ list_any reports_rev2 ss
  heard_reports [] [] l = refl
  heard_reports [] (s ∷ ss) l = absurd l
  heard_reports (h ∷ hs) [] l = absurd l
  heard_reports (h ∷ hs) (s ∷ ss) l = ap (λ (b : Bool). b || list_any reports_rev2 hs) (same_reports h s l.0) ∙ ap (λ (b : Bool). reports_rev2 s || b) (heard_reports hs ss l.1)

-- what is not read names nothing
reports_none : (r : Reply) → is_used abilities_read r ≡ false → reports_rev2 r ≡ false
reports_none (Capability names) e = cc
reports_none (Continue text) e = refl
reports_none (Tagged tag status text) e = refl
reports_none (Notice kind text) e = refl
reports_none (Enabled names) e = refl
reports_none (Listed attributes delimiter name) e = refl
reports_none (Flags flags) e = refl
reports_none (Exists n) e = refl
reports_none (Expunge n) e = refl
reports_none (Fetch n items) e = refl
reports_none (Other word text) e = refl
reports_none (OtherNumbered n event text) e = refl

reports_by : (b : Bool) (r : Reply) (rs : List Reply) → is_used abilities_read r ≡ b → list_any reports_rev2 (filter (is_used abilities_read) rs) ≡ list_any reports_rev2 rs
    → list_any reports_rev2 (if b then r ∷ filter (is_used abilities_read) rs else filter (is_used abilities_read) rs) ≡ list_any reports_rev2 (r ∷ rs)
reports_by true r rs e h = ap (λ (t : Bool). reports_rev2 r || t) h
reports_by false r rs e h = h ∙ sym (ap (λ (t : Bool). t || list_any reports_rev2 rs) (reports_none r e))

reports_read : (rs : List Reply) → list_any reports_rev2 (filter (is_used abilities_read) rs) ≡ list_any reports_rev2 rs
reports_read [] = refl
reports_read (r ∷ rs) = reports_by (is_used abilities_read r) r rs refl (reports_read rs)

-- an honest server names the revision
pub named_so : (keywords : List Keyword) (tag bytes : List ℕ) (reported : Bool) → HeardOf keywords abilities_read any_replies (abilities ++ done tag ∷ []) bytes → ((rs : List Reply) → AreReplies rs bytes → reported ≡ list_any reports_rev2 rs) → reported ≡ true
named_so keywords tag bytes reported h t = t (filter (is_used abilities_read) h.replies) h.spelled ∙ reports_read h.replies ∙ heard_reports keywords h.replies (abilities ++ done tag ∷ []) h.heard_as

-- ---- LOGIN

module _ (n : ℕ) (user password : List ℕ) (old : Server) (before : is_before_login old.condition ≡ true) where
  stepped : (b : Bool) → is_known user password old ≡ b → (said : List Reply) (new : Server) → Gives (logs_in old (tag_text n) user password) said new
      → Gives (if b then record { replies = done (tag_text n) ∷ []; after = record old { condition = Authenticated } } else record { replies = refused_with (tag_text n) (codes "AUTHENTICATIONFAILED") (codes "login") ∷ []; after = old }) said new
  stepped b is said new step =
      subst (λ (k : Bool). Gives (if k then record { replies = done (tag_text n) ∷ []; after = record old { condition = Authenticated } } else record { replies = refused_with (tag_text n) (codes "AUTHENTICATIONFAILED") (codes "login") ∷ []; after = old }) said new) is
      (subst (λ (k : Bool). Gives (if k then lets_in old (tag_text n) user password else out_of_place old (tag_text n)) said new) before step)

  in_sure : is_known user password old ≡ true → Sure (command_at n (requests.Login user password)) old [] (done (tag_text n)) (record old { condition = Authenticated })
  in_sure is = record { each = λ said new step. stepped true is said new step }

  out_sure : is_known user password old ≡ false → Sure (command_at n (requests.Login user password)) old [] (refused_with (tag_text n) (codes "AUTHENTICATIONFAILED") (codes "login")) old
  out_sure is = record { each = λ said new step. stepped false is said new step }

  in_by : is_known user password old ≡ true → (heard : List ℕ) (new : Server) (result : Result (Unit {0}) FarFault)
      → Outcome {T = Unit {0}} (λ _ s t. HeardOf old.keywords answer_alone any_replies (done (tag_text n) ∷ []) heard × (t ≡ record old { condition = Authenticated })) Never (λ s t. t ≡ record old { condition = Authenticated }) result old new
      → Outcome {T = Unit {0}} (λ _. Authenticates user password) (Rejects user password) (Authenticates user password) result old new
  in_by is heard new (Ok x) h = (is, h.1)
  in_by is heard new (Err faults.Stopped) (inl q) = inl q
  in_by is heard new (Err faults.Stopped) (inr e) = inr (is, e)
  in_by is heard new (Err faults.Refused) h = absurd h
  in_by is heard new (Err faults.Protocol) h = h
  in_by is heard new (Err faults.TooLong) h = h
  in_by is heard new (Err faults.NoRev2) h = h
  in_by is heard new (Err faults.ReadOnly) h = h
  in_by is heard new (Err faults.NoMemory) (inl q) = inl q
  in_by is heard new (Err faults.NoMemory) (inr e) = inr (is, e)

  out_by : is_known user password old ≡ false → (heard : List ℕ) (new : Server) (result : Result (Unit {0}) FarFault)
      → Outcome {T = Unit {0}} (λ _ s t. ⊥) (λ s t. t ≡ old) (λ s t. t ≡ old) result old new
      → Outcome {T = Unit {0}} (λ _. Authenticates user password) (Rejects user password) (Authenticates user password) result old new
  out_by is heard new (Ok x) h = absurd h
  out_by is heard new (Err faults.Stopped) (inl q) = inl q
  out_by is heard new (Err faults.Stopped) (inr e) = inl e
  out_by is heard new (Err faults.Refused) h = (is, h)
  out_by is heard new (Err faults.Protocol) h = h
  out_by is heard new (Err faults.TooLong) h = h
  out_by is heard new (Err faults.NoRev2) h = h
  out_by is heard new (Err faults.ReadOnly) h = h
  out_by is heard new (Err faults.NoMemory) (inl q) = inl q
  out_by is heard new (Err faults.NoMemory) (inr e) = inl e

  by_known : (b : Bool) → is_known user password old ≡ b → (result : Result (Unit {0}) FarFault) (heard : List ℕ) (new : Server) → Exchanged (command_at n (requests.Login user password)) any_replies result heard old new
      → Outcome {T = Unit {0}} (λ _. Authenticates user password) (Rejects user password) (Authenticates user password) result old new
  by_known true is result heard new h =
      in_by is heard new result (answered any_replies (command_at n (requests.Login user password)) old [] (done (tag_text n)) (record old { condition = Authenticated }) (in_sure is) refl result heard new h)
  by_known false is result heard new h =
      out_by is heard new result (refused any_replies (command_at n (requests.Login user password)) old [] (refused_with (tag_text n) (codes "AUTHENTICATIONFAILED") (codes "login")) old (out_sure is) refl (λ _ s t. ⊥) result heard new h)

  pub login_exchanged : (result : Result (Unit {0}) FarFault) (heard : List ℕ) (new : Server) → Exchanged (command_at n (requests.Login user password)) any_replies result heard old new
      → Outcome {T = Unit {0}} (λ _. Authenticates user password) (Rejects user password) (Authenticates user password) result old new
  login_exchanged = by_known (is_known user password old) refl

-- ---- ENABLE

pub same_status : (s : Status) → (let x : Option Status = Some statuses.Ok in x) ≡ Some s → s ≡ statuses.Ok
same_status s e = cc

module _ (n : ℕ) (old : Server) (logged : is_logged_in old.condition ≡ true) where
  enable_sure : Sure (command_at n (requests.Enable (REV2 ∷ []))) old (Enabled (Some (REV2 ∷ [])) ∷ []) (done (tag_text n)) old
  enable_sure = record {
    each = λ said new step.
        subst (λ (b : Bool). Gives (if b then record { replies = Enabled (if has_name REV2 (REV2 ∷ []) then Some (REV2 ∷ []) else None) ∷ done (tag_text n) ∷ []; after = old } else out_of_place old (tag_text n)) said new) logged step;
  }

  pub enable_answered : (result : Result Status FarFault) (heard : List ℕ) (new : Server) → AnsweredSo (command_at n (requests.Enable (REV2 ∷ []))) any_replies result heard old new
      → Outcome {T = Status} (λ a s t. (a ≡ statuses.Ok) × Remains s t) Never Remains result old new
  enable_answered (Ok a) heard new h =
      let c = command_at n (requests.Enable (REV2 ∷ [])) in
      let xs = Enabled (Some (REV2 ∷ [])) ∷ [] in
      let status = status_so any_replies c old xs (done (tag_text n)) old enable_sure a heard new h in
      (same_status a status, (heard_so any_replies c old xs (done (tag_text n)) old enable_sure a heard new h).1)
  enable_answered (Err faults.Stopped) heard new h = after_so any_replies (command_at n (requests.Enable (REV2 ∷ []))) old (Enabled (Some (REV2 ∷ [])) ∷ []) (done (tag_text n)) old enable_sure new h
  enable_answered (Err faults.Refused) heard new h = h
  enable_answered (Err faults.Protocol) heard new h = h
  enable_answered (Err faults.TooLong) heard new h = h
  enable_answered (Err faults.NoRev2) heard new h = h
  enable_answered (Err faults.ReadOnly) heard new h = h
  enable_answered (Err faults.NoMemory) heard new h = after_so any_replies (command_at n (requests.Enable (REV2 ∷ []))) old (Enabled (Some (REV2 ∷ [])) ∷ []) (done (tag_text n)) old enable_sure new h

-- ---- one after another

module _ (user password : List ℕ) where
  abbrev Ends : Result (Unit {0}) FarFault → Server → Server → Type 0
  Ends = Outcome (λ x. Authenticates user password) (Rejects user password) (Authenticates user password)

  -- before anybody was let in
  pub not_yet : (f : FarFault) (old new : Server) → Outcome {T = Unit {0}} (λ x. Remains) Never Remains (Err f) old new → Ends (Err f) old new
  not_yet faults.Stopped old new (inl q) = inl q
  not_yet faults.Stopped old new (inr e) = inl e
  not_yet faults.Refused old new h = absurd h
  not_yet faults.Protocol old new h = h
  not_yet faults.TooLong old new h = h
  not_yet faults.NoRev2 old new h = h
  not_yet faults.ReadOnly old new h = h
  not_yet faults.NoMemory old new (inl q) = inl q
  not_yet faults.NoMemory old new (inr e) = inl e

  -- after that
  pub let_in : (result : Result (Unit {0}) FarFault) (old mid new : Server) → Authenticates user password old mid → Outcome (λ x. Remains) Never Remains result mid new → Ends result old new
  let_in (Ok x) old mid new a h = (a.0, h ∙ a.1)
  let_in (Err faults.Stopped) old mid new a (inl q) = inr (a.0, q ∙ a.1)
  let_in (Err faults.Stopped) old mid new a (inr e) = inr (a.0, e ∙ a.1)
  let_in (Err faults.Refused) old mid new a h = absurd h
  let_in (Err faults.Protocol) old mid new a h = h
  let_in (Err faults.TooLong) old mid new a h = h
  let_in (Err faults.NoRev2) old mid new a h = h
  let_in (Err faults.ReadOnly) old mid new a h = h
  let_in (Err faults.NoMemory) old mid new a (inl q) = inr (a.0, q ∙ a.1)
  let_in (Err faults.NoMemory) old mid new a (inr e) = inr (a.0, e ∙ a.1)

  -- the same, where others acted in between: they might as well have acted before
  pub let_in_among : (v : Visitors) (result : Result (Unit {0}) FarFault) (old mid new : Server) → Authenticates user password old mid → Among v (Outcome (λ x. Remains) Never Remains result) mid new → Among v (Ends result) old new
  let_in_among v result old mid new a h =
      let late : Server = h.mid in
      let before : Server = record late { condition = old.condition } in
      let user_is : late.user ≡ old.user = h.visits.user ∙ ap (λ (s : Server). s.user) a.1 in
      let password_is : late.password ≡ old.password = h.visits.password ∙ ap (λ (s : Server). s.password) a.1 in
      let in_is : late.condition ≡ Authenticated = h.visits.condition ∙ ap (λ (s : Server). s.condition) a.1 in
      let boxes : mid.mailboxes ≡ old.mailboxes = ap (λ (s : Server). s.mailboxes) a.1 in
      let known : is_known user password before ≡ true =
      ap (λ (u : List ℕ). pointwise nat_eq user u && pointwise nat_eq password late.password) user_is ∙ ap (λ (p : List ℕ). pointwise nat_eq user old.user && pointwise nat_eq password p) password_is ∙ a.0 in
      let after : late ≡ record before { condition = Authenticated } = ap (λ (c : Condition). record late { condition = c }) in_is in
      record {
        mid = before;
        visits = record {
          user = user_is;
          password = password_is;
          keywords = h.visits.keywords ∙ ap (λ (s : Server). s.keywords) a.1;
          condition = refl;
          gains = subst (λ (ms : List FarMailbox). AllGain v ms late.mailboxes) boxes h.visits.gains;
          nobody = λ alone. h.visits.nobody alone ∙ boxes;
        };
        then = let_in result before late new (known, after) h.then;
      }

-- ---- how calls of several commands end

goes_cause : (k : ℕ) (old mid new : State) → Goes k old mid → StopCause mid new → StopCause old new
goes_cause k old mid new g (Failed f) = let both : false ≡ true = sym f ∙ g.is_ready in cc
goes_cause k old mid new g (Broken b) = let same = g.stops in Broken (omega (arith, same, b))
goes_cause k old mid new g (Bye b) = Bye b
goes_cause k old mid new g (UsedUp r u) = UsedUp g.was_ready u

-- so many commands were done, and then so many more
pub then_ends : (T : Type 0) (j k : ℕ) (old mid new : State) (result : Result T FarFault) → Goes j old mid → EndsSo {T = T} k mid new result → EndsSo {T = T} (j + k) old new result
then_ends T j k old mid new (Ok x) g e = let a = g.tags in let b = e.tags in record { was_ready = g.was_ready; is_ready = e.is_ready; stops = e.stops ∙ g.stops; tags = omega (arith, a, b) }
then_ends T j k old mid new (Err faults.Stopped) g e = record { is_ready = e.is_ready; cause = goes_cause j old mid new g e.cause }
then_ends T j k old mid new (Err faults.Refused) g e = let a = g.tags in let b = e.some in let c = e.most in record { was_ready = g.was_ready; is_ready = e.is_ready; stops = e.stops ∙ g.stops; some = omega (arith, a, b); most = omega (arith, a, c) }
then_ends T j k old mid new (Err faults.Protocol) g e = record { was_ready = g.was_ready; is_ready = e.is_ready }
then_ends T j k old mid new (Err faults.TooLong) g e = record { was_ready = g.was_ready; is_ready = e.is_ready }
then_ends T j k old mid new (Err faults.NoRev2) g e = record { was_ready = g.was_ready; is_ready = e.is_ready }
then_ends T j k old mid new (Err faults.ReadOnly) g e = let a = g.tags in let b = e.some in let c = e.most in record { was_ready = g.was_ready; is_ready = e.is_ready; stops = e.stops ∙ g.stops; some = omega (arith, a, b); most = omega (arith, a, c) }
then_ends T j k old mid new (Err faults.NoMemory) g e = record { was_ready = g.was_ready; is_ready = e.is_ready }

-- a call that failed, as one of more commands
pub ends_more : (T U : Type 0) (j k : ℕ) (old new : State) (f : FarFault) → j ≤ k → EndsSo {T = T} j old new (Err f) → EndsSo {T = U} k old new (Err f)
ends_more T U j k old new faults.Stopped le e = e
ends_more T U j k old new faults.Refused le e = let c = e.most in record { was_ready = e.was_ready; is_ready = e.is_ready; stops = e.stops; some = e.some; most = omega (arith, le, c) }
ends_more T U j k old new faults.Protocol le e = e
ends_more T U j k old new faults.TooLong le e = e
ends_more T U j k old new faults.NoRev2 le e = e
ends_more T U j k old new faults.ReadOnly le e = let c = e.most in record { was_ready = e.was_ready; is_ready = e.is_ready; stops = e.stops; some = e.some; most = omega (arith, le, c) }
ends_more T U j k old new faults.NoMemory le e = e

pub asked_ends : (T U : Type 0) (old new : State) (f : FarFault) → AskedSo {T = T} old new (Err f) → EndsSo {T = U} 1 old new (Err f)
asked_ends T U old new faults.Stopped e = e
asked_ends T U old new faults.Refused e = let a = e.tags in record { was_ready = e.was_ready; is_ready = e.is_ready; stops = e.stops; some = omega (arith, a); most = omega (arith, a) }
asked_ends T U old new faults.Protocol e = e
asked_ends T U old new faults.TooLong e = e
asked_ends T U old new faults.NoRev2 e = absurd e
asked_ends T U old new faults.ReadOnly e = absurd e
asked_ends T U old new faults.NoMemory e = e
