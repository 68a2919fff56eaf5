-- What is answered NO or BAD changes no mailbox.
use Rattle.std.proofs.Common.{◌≡◌, inl, inr, ◌⊎◌, ℕ, ◌+◌, Bool, true, false, ◌&&◌, cond, List, [], ◌∷◌, ◌++◌, refl, sym, ◌∙◌, ap, subst, Option, Some, None, if◌then◌else◌}
use Rattle.std.specs.Prelude.{nat_eq, nat_le}
use Rattle.std.specs.List.{list_any}
use Rattle.std.specs.Cmp.Lexicographic.{pointwise}
use Rattle.mailcore.specs.declared.mailbox.Message.{Message}
use Rattle.mailcore.specs.MailboxNames.{is_mailbox_name}
use Rattle.wire_tokens.specs.declared.uid_set.SetItem.{SetItem}
use Rattle.imap_commands.specs.declared.command.FetchItems.{FetchItems}
use Rattle.imap_commands.specs.declared.command.StoreMode.{StoreMode}
use Rattle.imap_commands.specs.declared.command.Request.{Request}
use Rattle.imap_commands.specs.declared.command.Request.TheVariants as requests
use Rattle.imap_replies.specs.declared.reply.Reply.{Reply}
use Rattle.imap_replies.specs.declared.reply.Reply.TheVariants.{Expunge, Exists}
use Rattle.imap_replies.specs.declared.response.Code.{Code}
use Rattle.imap_session.specs.Mailboxes.{FarMailbox, same_name, mailbox_at}
use Rattle.imap_session.specs.NamedMessages.{goes, named_in}
use Rattle.imap_session.specs.Servers.{Condition, NotAuthenticated, Authenticated, Selected, LoggedOut, Server, is_logged_in, is_before_login, selected}
use Rattle.imap_session.specs.Answering.{Answer, Gives, done, done_with}
use Rattle.imap_session.specs.SessionCommands.{logs_in}
use Rattle.imap_session.specs.MailboxCommands.{makes, creates_at, selects_at, next_validity}
use Rattle.imap_session.specs.AppendCommand.{grown, AppendsAt, AppendsIf}
use Rattle.imap_session.specs.MessageCommands.{removed, fetches_in, stores_in, expunges_in}
use Rattle.imap_session.specs.Steps.{StepOf}
use Rattle.imap_session.specs.Portions.{Item, Asks, Faulty, Ends, Late}
use Rattle.imap_session.specs.Serving.{Does}
use Rattle.imap_session.specs.SessionLaws.{is_refusal}

-- nothing changes, or nothing is refused
abbrev Fine : Server → Answer → Type 0
Fine s a = (a.after.mailboxes ≡ s.mailboxes) ⊎ (list_any is_refusal a.replies ≡ false)

abbrev Settled : Server → List Reply → Server → Type 0
Settled s rs new = list_any is_refusal rs ≡ true → new.mailboxes ≡ s.mailboxes

given : (s : Server) (a : Answer) (rs : List Reply) (new : Server) → Gives a rs new → Fine s a → Settled s rs new
given s a rs new h (inl same) r = ap (λ (v : Server). v.mailboxes) h.1 ∙ same
given s a rs new h (inr none) r = let odd : false ≡ true = sym none ∙ ap (list_any is_refusal) (sym h.0) ∙ r in cc

either : (b : Bool) (s : Server) (x y : Answer) → Fine s x → Fine s y → Fine s (if b then x else y)
either true s x y h k = h
either false s x y h k = k

removed_fine : (named : ℕ → Bool) (place : ℕ) (ms : List Message) (tag : List ℕ) → list_any is_refusal (removed named place ms ++ done tag ∷ []) ≡ false
removed_fine named place [] tag = refl
removed_fine named place (m ∷ ms) tag =
    elim (goes named m) as (λ b. list_any is_refusal (cond b (Expunge place ∷ removed named place ms) (removed named (place + 1) ms) ++ done tag ∷ []) ≡ false)
    [ true ↦ removed_fine named place ms tag | false ↦ removed_fine named (place + 1) ms tag ]

grown_fine : (c : Condition) (name : List ℕ) (n : ℕ) (tag : List ℕ) (code : Code) → list_any is_refusal (grown c name n ++ done_with tag code ∷ []) ≡ false
grown_fine NotAuthenticated name n tag code = refl
grown_fine Authenticated name n tag code = refl
grown_fine (Selected at) name n tag code =
    elim (same_name at name) as (λ b. list_any is_refusal (cond b (Exists n ∷ []) [] ++ done_with tag code ∷ []) ≡ false) [ true ↦ refl | false ↦ refl ]
grown_fine LoggedOut name n tag code = refl

module _ (s : Server) (tag : List ℕ) where
  makes_fine : (name : List ℕ) (validity : ℕ) → Fine s (makes s tag name validity)
  makes_fine name validity = either (nat_le validity 4294967295) s _ _ (inr refl) (inl refl)

  creates_fine : (m : Option FarMailbox) (name : List ℕ) → Fine s (creates_at m s tag name)
  creates_fine (Some m) name = inl refl
  creates_fine None name = either (is_mailbox_name name) s _ _ (makes_fine name (next_validity s.mailboxes)) (inl refl)

  selects_fine : (m : Option FarMailbox) (name : List ℕ) → Fine s (selects_at m s tag name)
  selects_fine (Some m) name = inl refl
  selects_fine None name = inl refl

  logs_in_fine : (user password : List ℕ) → Fine s (logs_in s tag user password)
  logs_in_fine user password =
      either (is_before_login s.condition) s _ _ (either (pointwise nat_eq user s.user && pointwise nat_eq password s.password) s _ _ (inl refl) (inl refl)) (inl refl)

  fetches_fine : (m : Option FarMailbox) (set : List SetItem) (what : FetchItems) → Fine s (fetches_in m s tag set what)
  fetches_fine None set what = inl refl
  fetches_fine (Some m) set what = inl refl

  stores_fine : (m : Option FarMailbox) (set : List SetItem) (mode : StoreMode) (flags : List (List ℕ)) → Fine s (stores_in m s tag set mode flags)
  stores_fine None set mode flags = inl refl
  stores_fine (Some m) set mode flags = inr refl

  expunges_fine : (m : Option FarMailbox) (set : List SetItem) → Fine s (expunges_in m s tag set)
  expunges_fine None set = inl refl
  expunges_fine (Some m) set = inr (removed_fine (named_in m.store set) 1 m.store.messages tag)

  appends_fine : (b : Bool) (at : Option FarMailbox) (name : List ℕ) (flags : List (List ℕ)) (message : List ℕ) (rs : List Reply) (new : Server)
      → mailbox_at name s.mailboxes ≡ at → AppendsIf b s tag name flags message rs new → Settled s rs new
  appends_fine false at name flags message rs new e h = given s _ rs new h (inl refl)
  appends_fine true at name flags message rs new e h = at_fine at (subst (λ (o : Option FarMailbox). AppendsAt o s tag name flags message rs new) e h)
    where
      at_fine : (o : Option FarMailbox) → AppendsAt o s tag name flags message rs new → Settled s rs new
      at_fine None g = given s _ rs new g (inl refl)
      at_fine (Some m) (inl g) = given s _ rs new g.gives (inl refl)
      at_fine (Some m) (inr g) = given s _ rs new g.gives (inr (grown_fine s.condition name _ tag _))

  step_fine : (r : Request) (rs : List Reply) (new : Server) → StepOf s tag r rs new → Settled s rs new
  step_fine requests.Capability rs new h = given s _ rs new h (inl refl)
  step_fine requests.Noop rs new h = given s _ rs new h (inl refl)
  step_fine requests.Logout rs new h = given s _ rs new h (inl refl)
  step_fine (requests.Login user password) rs new h = given s _ rs new h (logs_in_fine user password)
  step_fine (requests.Enable names) rs new h = given s _ rs new h (either (is_logged_in s.condition) s _ _ (inl refl) (inl refl))
  step_fine (requests.List pattern) rs new h = given s _ rs new h (either (is_logged_in s.condition) s _ _ (inl refl) (inl refl))
  step_fine (requests.Create name) rs new h = given s _ rs new h (either (is_logged_in s.condition) s _ _ (creates_fine (mailbox_at name s.mailboxes) name) (inl refl))
  step_fine (requests.Select name) rs new h = given s _ rs new h (either (is_logged_in s.condition) s _ _ (selects_fine (mailbox_at name s.mailboxes) name) (inl refl))
  step_fine (requests.Append name flags message) rs new h = appends_fine (is_logged_in s.condition) (mailbox_at name s.mailboxes) name flags message rs new refl h
  step_fine (requests.Fetch set what) rs new h = given s _ rs new h (fetches_fine (selected s) set what)
  step_fine (requests.Store set mode flags) rs new h = given s _ rs new h (stores_fine (selected s) set mode flags)
  step_fine (requests.Expunge set) rs new h = given s _ rs new h (expunges_fine (selected s) set)

pub does_fine : (old new : Server) (item : Item) (rs : List Reply) → Does old item rs new → Settled old rs new
does_fine old new (Asks command) rs h = step_fine old command.tag command.request rs new h
does_fine old new (Faulty fault) rs h = given old _ rs new h (inl refl)
does_fine old new Ends rs h = given old _ rs new h (inl refl)
does_fine old new Late rs h = given old _ rs new h (inl refl)
