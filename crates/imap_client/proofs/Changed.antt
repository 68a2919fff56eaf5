-- Calls that change the selected mailbox.
use Rattle.std.proofs.Common.{◌≡◌, ℕ, Bool, true, false, List, [], ◌∷◌, ◌++◌, refl, sym, ◌∙◌, ap, subst, Option, Some, None, Result, Ok, Err}
use Rattle.std.specs.Prelude.{nat_le, if◌then◌else◌}
use Rattle.std.specs.Option.{option_map}
use Rattle.mailcore.specs.KeywordNames.{named_set, names_of}
use Rattle.mailcore.specs.Stores.{Store}
use Rattle.wire_tokens.specs.declared.uid_set.SetItem.{SetItem}
use Rattle.imap_commands.specs.declared.command.StoreMode.{StoreMode}
use Rattle.imap_commands.specs.declared.command.Request.TheVariants as requests
use Rattle.imap_replies.specs.declared.reply.Reply.{Reply}
use Rattle.imap_session.specs.Mailboxes.{FarMailbox, same_name, mailbox_at, changed}
use Rattle.imap_commands.specs.declared.command.StoreMode.TheVariants as modes
use Rattle.imap_commands.specs.declared.command.Command.{Command}
use Rattle.imap_session.specs.NamedMessages.{named_in, uids_named, flags_changed, each_changed, stored, swept}
use Rattle.imap_session.specs.Servers.{Condition, NotAuthenticated, Authenticated, Selected, LoggedOut, Server, selected, selected_in, changed_in, with_selected}
use Rattle.imap_session.specs.Answering.{Gives, done}
use Rattle.imap_session.specs.MessageCommands.{stores_in, removed, expunges_in}
use Rattle.imap_link.specs.declared.fault.FarFault.{FarFault}
use Rattle.imap_link.specs.declared.fault.FarFault.TheVariants as faults
use Rattle.imap_link.specs.declared.uses.Uses.{Uses}
use Rattle.imap_link.specs.UsedReplies.{uses_of}
use Rattle.imap_link.specs.Outcomes.{Outcome, Never}
use Rattle.imap_link.specs.Sinks.{any_replies}
use Rattle.imap_client.specs.declared.call.Call.{Call}
use Rattle.imap_client.specs.declared.call.Call.TheVariants as calls
use Rattle.imap_client.specs.Tags.{tag_text}
use Rattle.imap_client.specs.Calls.{request_of, each_one}
use Rattle.imap_client.specs.Exchanged.{command_at, Exchanged}
use Rattle.imap_client.specs.Saying.{HeardOf}
use Rattle.imap_client.specs.States.{State, EndsSo}
use Rattle.imap_client.specs.Boxes.{selected_name, is_next, IsSelected, Becomes, one_uid, Changing}
use Rattle.imap_client.specs.Seen.{flags_sent}
use Rattle.imap_client.proofs.Answered.{Sure, answered}

-- ---- outcomes

module _ (T U : Type 0) (does : T → Server → Server → Type 0) (does_now : U → Server → Server → Type 0) (refuses effect : Server → Server → Type 0) (old new : Server) where
  pub outcome_err : (f : FarFault) → Outcome {T = T} does refuses effect (Err f) old new → Outcome {T = U} does_now refuses effect (Err f) old new
  outcome_err faults.Stopped h = h
  outcome_err faults.Refused h = h
  outcome_err faults.Protocol h = h
  outcome_err faults.TooLong h = h
  outcome_err faults.NoRev2 h = h
  outcome_err faults.ReadOnly h = h
  outcome_err faults.NoMemory h = h

module _ (T : Type 0) (does does_now : T → Server → Server → Type 0) (refuses effect : Server → Server → Type 0) (old new : Server) where
  pub outcome_so : ((x : T) → does x old new → does_now x old new) → (r : Result T FarFault) → Outcome does refuses effect r old new → Outcome does_now refuses effect r old new
  outcome_so to (Ok x) h = to x h
  outcome_so to (Err f) h = outcome_err T T does does_now refuses effect old new f h

-- ---- the commands

module _ (n : ℕ) (old : Server) (m : FarMailbox) (is : selected old ≡ Some m) where
  sure_store : (set : List SetItem) (mode : StoreMode) (flags : List (List ℕ)) → Sure (command_at n (requests.Store set mode flags)) old [] (done (tag_text n)) (with_selected (stored mode (named_set old.keywords flags) set) old)
  sure_store set mode flags = record {
    each = λ said new step. subst (λ (x : Option FarMailbox). Gives (stores_in x old (tag_text n) set mode flags) said new) is step;
  }

  sure_expunge : (set : List SetItem) → Sure (command_at n (requests.Expunge set)) old (removed (named_in m.store set) 1 m.store.messages) (done (tag_text n)) (with_selected (swept set) old)
  sure_expunge set = record {
    each = λ said new step. subst (λ (x : Option FarMailbox). Gives (expunges_in x old (tag_text n) set) said new) is step;
  }

  becomes_by : (uses : Uses) (xs : List Reply) (change : Store → Store) (heard : List ℕ) (new : Server) (result : Result (Unit {0}) FarFault)
      → Outcome {T = Unit {0}} (λ _ s t. HeardOf old.keywords uses any_replies xs heard × (t ≡ with_selected change old)) Never (λ s t. t ≡ with_selected change old) result old new
      → Outcome {T = Unit {0}} (λ _. Becomes change) Never (Becomes change) result old new
  becomes_by uses xs change heard new (Ok x) h = h.1
  becomes_by uses xs change heard new (Err faults.Stopped) h = h
  becomes_by uses xs change heard new (Err faults.Refused) h = h
  becomes_by uses xs change heard new (Err faults.Protocol) h = h
  becomes_by uses xs change heard new (Err faults.TooLong) h = h
  becomes_by uses xs change heard new (Err faults.NoRev2) h = h
  becomes_by uses xs change heard new (Err faults.ReadOnly) h = h
  becomes_by uses xs change heard new (Err faults.NoMemory) h = h

  becomes : (xs : List Reply) (c : Command) (change : Store → Store) → Sure c old xs (done (tag_text n)) (with_selected change old) → (result : Result (Unit {0}) FarFault) (heard : List ℕ) (new : Server) → Exchanged c any_replies result heard old new
      → Outcome {T = Unit {0}} (λ _. Becomes change) Never (Becomes change) result old new
  becomes xs c change sure result heard new h = becomes_by (uses_of c.request) (xs ++ done (tag_text n) ∷ []) change heard new result (answered any_replies c old xs (done (tag_text n)) (with_selected change old) sure refl result heard new h)

  pub changes : (call : Call) (change : Store → Store) → Changing old call change → (result : Result (Unit {0}) FarFault) (heard : List ℕ) (new : Server) → Exchanged (command_at n (request_of call)) any_replies result heard old new
      → Outcome {T = Unit {0}} (λ _. Becomes change) Never (Becomes change) result old new
  changes calls.Capability change h result heard new x = absurd h
  changes (calls.Login user password) change h result heard new x = absurd h
  changes calls.Enable change h result heard new x = absurd h
  changes calls.Names change h result heard new x = absurd h
  changes (calls.Create name) change h result heard new x = absurd h
  changes (calls.Select name) change h result heard new x = absurd h
  changes calls.Listing change h result heard new x = absurd h
  changes (calls.Body uid) change h result heard new x = absurd h
  changes (calls.Heads from) change h result heard new x = absurd h
  changes (calls.Store uid mode flags keywords) change h result heard new x =
      subst (λ (f : Store → Store). Outcome {T = Unit {0}} (λ _. Becomes f) Never (Becomes f) result old new) (sym h)
      (becomes [] (command_at n (requests.Store (one_uid uid) mode (names_of keywords.now flags))) (stored mode (flags_sent keywords.now flags old) (one_uid uid)) (sure_store (one_uid uid) mode (names_of keywords.now flags)) result heard new x)
  changes (calls.Expunge uids) change h result heard new x =
      subst (λ (f : Store → Store). Outcome {T = Unit {0}} (λ _. Becomes f) Never (Becomes f) result old new) (sym h)
      (becomes (removed (named_in m.store (each_one uids.now)) 1 m.store.messages) (command_at n (requests.Expunge (each_one uids.now))) (swept (each_one uids.now)) (sure_expunge (each_one uids.now)) result heard new x)

-- ---- the mailbox stays selected

abbrev pub with_store : (Store → Store) → FarMailbox → FarMailbox
with_store change m = record m { store = change m.store }

changed_by : (change : Store → Store) (name : List ℕ) (m : FarMailbox) (ms : List FarMailbox) (b : Bool) → same_name m.name name ≡ b
    → mailbox_at name (changed change name ms) ≡ option_map (with_store change) (mailbox_at name ms)
    → mailbox_at name (if b then with_store change m ∷ ms else m ∷ changed change name ms) ≡ option_map (with_store change) (if b then Some m else mailbox_at name ms)
changed_by change name m ms true e next = ap (λ (t : Bool). if t then Some (with_store change m) else mailbox_at name ms) e
changed_by change name m ms false e next = ap (λ (t : Bool). if t then Some m else mailbox_at name (changed change name ms)) e ∙ next

changed_at : (change : Store → Store) (name : List ℕ) (ms : List FarMailbox) → mailbox_at name (changed change name ms) ≡ option_map (with_store change) (mailbox_at name ms)
changed_at change name [] = refl
changed_at change name (m ∷ ms) = changed_by change name m ms (same_name m.name name) refl (changed_at change name ms)

by_condition : (change : Store → Store) (name : List ℕ) (ms : List FarMailbox) (c : Condition) → selected_name c ≡ Some name → selected_in (changed_in c change ms) c ≡ option_map (with_store change) (selected_in ms c)
by_condition change name ms NotAuthenticated e = refl
by_condition change name ms Authenticated e = refl
by_condition change name ms (Selected at) e = changed_at change at ms
by_condition change name ms LoggedOut e = refl

pub selected_changed : (change : Store → Store) (name : List ℕ) (s : Server) → selected_name s.condition ≡ Some name → selected (with_selected change s) ≡ option_map (with_store change) (selected s)
selected_changed change name s e = by_condition change name s.mailboxes s.condition e

-- its validity stays, and its next UID does not fall
pub record Keeps (change : Store → Store) : Type 0 where
  pub validity : (s : Store) → (change s).validity ≡ s.validity
  pub next : (n : ℕ) (s : Store) → nat_le n s.next ≡ true → nat_le n (change s).next ≡ true

kept_validity : (change : Store → Store) → Keeps change → (x : Option FarMailbox) (v : ℕ) → option_map (λ m. m.store.validity) x ≡ Some v → option_map (λ m. m.store.validity) (option_map (with_store change) x) ≡ Some v
kept_validity change k None v e = e
kept_validity change k (Some m) v e = ap (λ (n : ℕ). Some n) (k.validity m.store) ∙ e

kept_next : (change : Store → Store) → Keeps change → (x : Option FarMailbox) (n : ℕ) → is_next n x ≡ true → is_next n (option_map (with_store change) x) ≡ true
kept_next change k None n e = e
kept_next change k (Some m) n e = k.next n m.store e

pub still_selected : (change : Store → Store) → Keeps change → (name : List ℕ) (validity next : ℕ) (s : Server) → IsSelected name validity next s → IsSelected name validity next (with_selected change s)
still_selected change k name validity next s h =
    let same = selected_changed change name s h.0 in (
      h.0,
      ap (option_map (λ m. m.store.validity)) same ∙ kept_validity change k (selected s) validity h.1,
      ap (is_next next) same ∙ kept_next change k (selected s) next h.2,
    )

-- there is one
pub record There (s : Server) : Type 0 where
  pub mailbox : FarMailbox
  pub is : selected s ≡ Some mailbox

there_by : (s : Server) (x : Option FarMailbox) (next : ℕ) → selected s ≡ x → is_next next x ≡ true → There s
there_by s None next e h = cc
there_by s (Some m) next e h = record { mailbox = m; is = e }

pub there_of : (name : List ℕ) (validity next : ℕ) (s : Server) → IsSelected name validity next s → There s
there_of name validity next s h = there_by s (selected s) next refl h.2

-- the session goes on, and the mailbox was changed
pub record Became (change : Store → Store) (name : List ℕ) (validity next : ℕ) (was : State) (old new : Server) : Type 0 where
  pub was_ready : was.is_ready ≡ true
  pub was_selected : IsSelected name validity next old
  pub after : new ≡ with_selected change old

-- after a call that ended so, where the session goes on
pub became : (T : Type 0) (change : Store → Store) (name : List ℕ) (validity next commands : ℕ) (was now : State) (old new : Server) (result : Result T FarFault) → EndsSo commands was now result → now.is_ready ≡ true
    → (was.is_ready ≡ true → IsSelected name validity next old)
    → ((m : FarMailbox) → selected old ≡ Some m → Outcome {T = T} (λ x. Becomes change) Never (Becomes change) result old new)
    → Became change name validity next was old new
became T change name validity next commands was now old new (Ok x) e ready sel out =
    let is = sel e.was_ready in let there = there_of name validity next old is in
    record { was_ready = e.was_ready; was_selected = is; after = out there.mailbox there.is }
became T change name validity next commands was now old new (Err faults.Stopped) e ready sel out = let f = e.is_ready in let both : false ≡ true = sym f ∙ ready in cc
became T change name validity next commands was now old new (Err faults.Refused) e ready sel out = let there = there_of name validity next old (sel e.was_ready) in absurd (out there.mailbox there.is)
became T change name validity next commands was now old new (Err faults.Protocol) e ready sel out = let f = e.is_ready in let both : false ≡ true = sym f ∙ ready in cc
became T change name validity next commands was now old new (Err faults.TooLong) e ready sel out = let f = e.is_ready in let both : false ≡ true = sym f ∙ ready in cc
became T change name validity next commands was now old new (Err faults.NoRev2) e ready sel out = let f = e.is_ready in let both : false ≡ true = sym f ∙ ready in cc
became T change name validity next commands was now old new (Err faults.ReadOnly) e ready sel out = let there = there_of name validity next old (sel e.was_ready) in absurd (out there.mailbox there.is)
became T change name validity next commands was now old new (Err faults.NoMemory) e ready sel out = let f = e.is_ready in let both : false ≡ true = sym f ∙ ready in cc

pub goes_on : (change : Store → Store) → Keeps change → (name : List ℕ) (validity next : ℕ) (was : State) (old new : Server) → Became change name validity next was old new → IsSelected name validity next new
goes_on change k name validity next was old new b = subst (IsSelected name validity next) (sym b.after) (still_selected change k name validity next old b.was_selected)

-- ---- what flags and removals keep

same_next : (n a b : ℕ) → a ≡ b → nat_le n b ≡ true → nat_le n a ≡ true
same_next n a b e h = ap (nat_le n) e ∙ h

each_validity : (mode : StoreMode) (flags : ℕ) (uids : List ℕ) (s : Store) → ((each_changed mode flags uids s).validity ≡ s.validity) × ((each_changed mode flags uids s).next ≡ s.next)
each_validity mode flags [] s = (refl, refl)
each_validity modes.Add flags (u ∷ uids) s = each_validity modes.Add flags uids (flags_changed modes.Add u flags s)
each_validity modes.Remove flags (u ∷ uids) s = each_validity modes.Remove flags uids (flags_changed modes.Remove u flags s)

pub store_keeps : (mode : StoreMode) (flags : ℕ) (set : List SetItem) → Keeps (stored mode flags set)
store_keeps mode flags set = record {
  validity = λ s. (each_validity mode flags (uids_named set s) s).0;
  next = λ n s h. same_next n _ s.next (each_validity mode flags (uids_named set s) s).1 h;
}

pub sweep_keeps : (set : List SetItem) → Keeps (swept set)
sweep_keeps set = record { validity = λ s. refl; next = λ n s h. h }

abbrev pub state_of_parts : (is_ready : Bool) (tags stops : ℕ) (heard : List ℕ) → State
state_of_parts is_ready tags stops heard = record { is_ready = is_ready; tags = tags; stops = stops; heard = heard }
