-- The names of a server's mailboxes are returned.
use Rattle.std.proofs.Common.{◌≡◌, inr, ℕ, Bool, true, false, List, [], ◌∷◌, ◌++◌, refl, sym, ◌∙◌, ap, subst, append_assoc, append-nil, Some, None, Result, Err}
use Rattle.std.specs.Prelude.{map, filter, if◌then◌else◌}
use Rattle.std.specs.List.{fold, list_all}
use Rattle.std.proofs.lemmas.Bool.{and_from}
use Rattle.std.proofs.lemmas.List.Folds.{list_all-append}
use Rattle.mailcore.specs.MailboxNames.{is_mailbox_name, within_limits}
use Rattle.wire_strings.specs.Quotes.{unescaped}
use Rattle.wire_strings.specs.Strings.{value_of}
use Rattle.imap_commands.specs.declared.command.Request.TheVariants as requests
use Rattle.imap_replies.specs.declared.reply.Reply.{Reply}
use Rattle.imap_replies.specs.declared.reply.Reply.TheVariants.{Continue, Tagged, Notice, Capability, Enabled, List as Listed, Flags, Exists, Expunge, Fetch, Other, OtherNumbered}
use Rattle.imap_session.specs.Servers.{Server, is_logged_in}
use Rattle.imap_session.specs.Answering.{Gives, listed, done, out_of_place}
use Rattle.imap_session.specs.MailboxCommands.{names_matched}
use Rattle.imap_session.specs.Heard.{AreReplies}
use Rattle.imap_session.proofs.HeardAs.{gathers_same}
use Rattle.imap_link.specs.declared.fault.FarFault.{FarFault}
use Rattle.imap_link.specs.declared.fault.FarFault.TheVariants as faults
use Rattle.imap_link.specs.UsedReplies.{names_read, is_used}
use Rattle.imap_link.specs.Outcomes.{Outcome, Never}
use Rattle.imap_link.specs.Sinks.{any_replies}
use Rattle.imap_client.specs.Tags.{tag_text}
use Rattle.imap_client.specs.Exchanged.{command_at, Exchanged}
use Rattle.imap_client.specs.Saying.{HeardOf}
use Rattle.imap_client.specs.Logins.{Remains}
use Rattle.imap_client.specs.States.{State, Asked, EndsSo}
use Rattle.imap_answers.specs.MailboxNames.{with_name, names_more, names_in, names_of, ReportsNames}
use Rattle.imap_answers.proofs.HeardSame.{names_same}
use Rattle.imap_answers.proofs.Unread.{names_in_read}
use Rattle.imap_client.proofs.Answered.{Sure, answered}

-- ---- what was said

-- all but the tagged reply
abbrev pub reported_first : Server → List Reply
reported_first s = map listed (names_matched (42 ∷ []) s.mailboxes)

module _ (n : ℕ) (old : Server) (logged : is_logged_in old.condition ≡ true) where
  names_sure : Sure (command_at n (requests.List (42 ∷ []))) old (reported_first old) (done (tag_text n)) old
  names_sure = record {
    each = λ said new step. subst (λ (b : Bool). Gives (if b then record { replies = reported_first old ++ done (tag_text n) ∷ []; after = old } else out_of_place old (tag_text n)) said new) logged step;
  }

  pub names_exchanged : (result : Result (Unit {0}) FarFault) (heard : List ℕ) (new : Server) → Exchanged (command_at n (requests.List (42 ∷ []))) any_replies result heard old new
      → Outcome {T = Unit {0}} (λ _ s t. HeardOf old.keywords names_read any_replies (reported_first old ++ done (tag_text n) ∷ []) heard × (t ≡ old)) Never (λ s t. t ≡ old) result old new
  names_exchanged result heard new h = answered any_replies (command_at n (requests.List (42 ∷ []))) old (reported_first old) (done (tag_text n)) old names_sure refl result heard new h

-- ---- what it returns

by_limits : (b : Bool) (names rest : List (List ℕ)) (x : List ℕ) → with_name names (if b then Some x else None) ++ rest ≡ names ++ (if b then x ∷ rest else rest)
by_limits true names rest x = append_assoc names (x ∷ []) rest
by_limits false names rest x = refl

listed_names : (tag : List ℕ) (names ns : List (List ℕ)) → fold names_more names (map listed ns ++ done tag ∷ []) ≡ names ++ filter is_mailbox_name (map unescaped ns)
listed_names tag names [] = sym (append-nil names)
listed_names tag names (n ∷ ns) =
    let x = unescaped n in
    listed_names tag (with_name names (within_limits x)) ns ∙ by_limits (is_mailbox_name x) names (filter is_mailbox_name (map unescaped ns)) x

pub names_reported : (tag bytes : List ℕ) (old : Server) (names : List (List ℕ)) → HeardOf old.keywords names_read any_replies (reported_first old ++ done tag ∷ []) bytes → ((rs : List Reply) → AreReplies rs bytes → names ≡ names_in rs) → names ≡ names_of old
names_reported tag bytes old names h reported =
    reported (filter (is_used names_read) h.replies) h.spelled ∙ names_in_read h.replies ∙ gathers_same old.keywords names_more (names_same old.keywords) [] h.replies (reported_first old ++ done tag ∷ []) h.heard_as ∙ listed_names tag [] (names_matched (42 ∷ []) old.mailboxes)

-- ---- the limits

by_limit : (b : Bool) (names : List (List ℕ)) (x : List ℕ) → is_mailbox_name x ≡ b → list_all is_mailbox_name names ≡ true → list_all is_mailbox_name (with_name names (if b then Some x else None)) ≡ true
by_limit true names x e h = list_all-append is_mailbox_name names (x ∷ []) ∙ and_from (list_all is_mailbox_name names) (list_all is_mailbox_name (x ∷ [])) h (and_from (is_mailbox_name x) true e refl)
by_limit false names x e h = h

more_within : (names : List (List ℕ)) (r : Reply) → list_all is_mailbox_name names ≡ true → list_all is_mailbox_name (names_more names r) ≡ true
more_within names (Listed attributes delimiter name) h = by_limit (is_mailbox_name (value_of name)) names (value_of name) refl h
more_within names (Continue text) h = h
more_within names (Tagged tag status text) h = h
more_within names (Notice kind text) h = h
more_within names (Capability abilities) h = h
more_within names (Enabled abilities) h = h
more_within names (Flags flags) h = h
more_within names (Exists n) h = h
more_within names (Expunge n) h = h
more_within names (Fetch n items) h = h
more_within names (Other word text) h = h
more_within names (OtherNumbered n event text) h = h

within_from : (names : List (List ℕ)) (rs : List Reply) → list_all is_mailbox_name names ≡ true → list_all is_mailbox_name (fold names_more names rs) ≡ true
within_from names [] h = h
within_from names (r ∷ rs) h = within_from (names_more names r) rs (more_within names r h)

pub names_within : (names : List (List ℕ)) (rs : List Reply) → names ≡ names_in rs → list_all is_mailbox_name names ≡ true
names_within names rs e = ap (list_all is_mailbox_name) e ∙ within_from [] rs refl

-- ---- how the call ends

module _ (T : Type 0) (r : Result T FarFault) (items : T → List (List ℕ)) (old new : Server) where
  by_fault : (f : FarFault) (said : List Reply) (heard : List ℕ) → Outcome {T = Unit {0}} (λ _ s t. HeardOf old.keywords names_read any_replies said heard × (t ≡ old)) Never (λ s t. t ≡ old) (Err f) old new
      → Outcome {T = T} (λ x. ReportsNames (items x)) Never Remains (Err f) old new
  by_fault faults.Stopped said heard h = h
  by_fault faults.Refused said heard h = h
  by_fault faults.Protocol said heard h = h
  by_fault faults.TooLong said heard h = h
  by_fault faults.NoRev2 said heard h = h
  by_fault faults.ReadOnly said heard h = h
  by_fault faults.NoMemory said heard h = h

  pub not_answered : (f : FarFault) (said : List Reply) (heard : List ℕ) → r ≡ Err f → Outcome {T = Unit {0}} (λ _ s t. HeardOf old.keywords names_read any_replies said heard × (t ≡ old)) Never (λ s t. t ≡ old) (Err f) old new
      → Outcome {T = T} (λ x. ReportsNames (items x)) Never Remains r old new
  not_answered f said heard e h = subst (λ (q : Result T FarFault). Outcome {T = T} (λ x. ReportsNames (items x)) Never Remains q old new) (sym e) (by_fault f said heard h)

  pub not_read : r ≡ Err faults.NoMemory → new ≡ old → Outcome {T = T} (λ x. ReportsNames (items x)) Never Remains r old new
  not_read e same = subst (λ (q : Result T FarFault). Outcome {T = T} (λ x. ReportsNames (items x)) Never Remains q old new) (sym e) (inr same)

pub not_read_ends : (T : Type 0) (r : Result T FarFault) (old new : State) → r ≡ Err faults.NoMemory → Asked old new → EndsSo 1 old new r
not_read_ends T r old new e a = subst (λ (q : Result T FarFault). EndsSo 1 old new q) (sym e) (record { was_ready = a.was_ready; is_ready = a.begun })
