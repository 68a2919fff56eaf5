-- Whatever is sent, the mailboxes go on.
use Rattle.std.proofs.Common.{◌≡◌, ◌<◌, ◌≤◌, inl, inr, ℕ, Bool, true, false, ◌&&◌, List, [], ◌∷◌, refl, sym, ◌∙◌, subst, Option, Some, None, if◌then◌else◌, arith}
use Rattle.std.specs.Prelude.{nat_eq, nat_le}
use Rattle.std.specs.Cmp.Lexicographic.{pointwise}
use Rattle.std.proofs.lemmas.List.Elements.{All-nil}
use Rattle.mailcore.specs.declared.mailbox.Message.{Message}
use Rattle.mailcore.specs.KeywordNames.{named_set}
use Rattle.mailcore.specs.Stores.{IsStore}
use Rattle.mailcore.specs.Operations.{added}
use Rattle.mailcore.specs.MailboxNames.{is_mailbox_name}
use Rattle.wire_tokens.specs.declared.uid_set.SetItem.{SetItem}
use Rattle.imap_commands.specs.declared.command.FetchItems.{FetchItems}
use Rattle.imap_commands.specs.declared.command.StoreMode.{StoreMode}
use Rattle.imap_commands.specs.declared.command.Request.{Request}
use Rattle.imap_commands.specs.declared.command.Request.TheVariants as requests
use Rattle.imap_replies.specs.declared.reply.Reply.{Reply}
use Rattle.imap_session.specs.Mailboxes.{FarMailbox, mailbox_at, changed}
use Rattle.imap_session.specs.NamedMessages.{stored, swept}
use Rattle.imap_session.specs.Servers.{Server, is_logged_in, is_before_login, selected, Quiet, reported}
use Rattle.imap_session.specs.Answering.{Answer, Gives}
use Rattle.imap_session.specs.SessionCommands.{logs_in}
use Rattle.imap_session.specs.MailboxCommands.{makes, creates_at, selects_at, next_validity, empty_mailbox}
use Rattle.imap_session.specs.AppendCommand.{AppendsAt, AppendsIf}
use Rattle.imap_session.specs.MessageCommands.{fetches_in, stores_in, expunges_in}
use Rattle.imap_session.specs.Steps.{StepOf}
use Rattle.imap_session.specs.Portions.{Item, Asks, Faulty, Ends, Late}
use Rattle.imap_session.specs.Serving.{Portion, Does, Takes, Serve}
use Rattle.imap_session.specs.SessionLaws.{AreStores, GoOn}
use Rattle.imap_session.proofs.Continuing.{all-trans, one_more, changed_goes_on, same_goes_on, changed_in_goes_on, added_on, stored_on, swept_on}

abbrev On : Server → Answer → Type 0
On s a = GoOn s.mailboxes a.after.mailboxes

either : (b : Bool) (s : Server) (x y : Answer) → On s x → On s y → On s (if b then x else y)
either true s x y h k = h
either false s x y h k = k

given : (s : Server) (a : Answer) (rs : List Reply) (new : Server) → Gives a rs new → On s a → GoOn s.mailboxes new.mailboxes
given s a rs new h on = subst (λ (v : Server). GoOn s.mailboxes v.mailboxes) (sym h.1) on

empty_is_store : (name : List ℕ) (validity : ℕ) → IsStore (empty_mailbox name validity).store
empty_is_store name validity = record { rising = λ i j d less within. absurd (omega arith); below = All-nil (λ (m : Message). m.uid < 1) }

module _ (s : Server) (tag : List ℕ) (are : AreStores s.mailboxes) where
  same : GoOn s.mailboxes s.mailboxes
  same = same_goes_on s.mailboxes are

  makes_on : (name : List ℕ) (validity : ℕ) → On s (makes s tag name validity)
  makes_on name validity = either (nat_le validity 4294967295) s _ _ (one_more s.mailboxes (empty_mailbox name validity) are (empty_is_store name validity)) same

  creates_at_on : (m : Option FarMailbox) (name : List ℕ) → On s (creates_at m s tag name)
  creates_at_on (Some m) name = same
  creates_at_on None name = either (is_mailbox_name name) s _ _ (makes_on name (next_validity s.mailboxes)) same

  selects_at_on : (m : Option FarMailbox) (name : List ℕ) → On s (selects_at m s tag name)
  selects_at_on (Some m) name = same
  selects_at_on None name = same

  logs_in_on : (user password : List ℕ) → On s (logs_in s tag user password)
  logs_in_on user password =
      either (is_before_login s.condition) s _ _ (either (pointwise nat_eq user s.user && pointwise nat_eq password s.password) s _ _ same same) same

  fetches_on : (m : Option FarMailbox) (set : List SetItem) (what : FetchItems) → On s (fetches_in m s tag set what)
  fetches_on None set what = same
  fetches_on (Some m) set what = same

  stores_on : (m : Option FarMailbox) (set : List SetItem) (mode : StoreMode) (flags : List (List ℕ)) → On s (stores_in m s tag set mode flags)
  stores_on None set mode flags = same
  stores_on (Some m) set mode flags = changed_in_goes_on (stored mode (named_set s.keywords flags) set) s.condition s.mailboxes (stored_on mode (named_set s.keywords flags) set) are

  expunges_on : (m : Option FarMailbox) (set : List SetItem) → On s (expunges_in m s tag set)
  expunges_on None set = same
  expunges_on (Some m) set = changed_in_goes_on (swept set) s.condition s.mailboxes (swept_on set) are

  added_goes_on : (m : FarMailbox) (name : List ℕ) (uid flags : ℕ) (message : List ℕ) → mailbox_at name s.mailboxes ≡ Some m → m.store.next ≤ uid
      → GoOn s.mailboxes (changed (added uid flags message) name s.mailboxes)
  added_goes_on m name uid flags message at above =
      changed_goes_on (added uid flags message) name s.mailboxes
      (λ n at_n is. let e : Some m ≡ Some n = sym at ∙ at_n in let one : m ≡ n = cc in
      added_on uid flags message n.store (subst (λ (x : FarMailbox). x.store.next ≤ uid) one above) is)
      are

  appends_at_on : (at : Option FarMailbox) (name : List ℕ) (flags : List (List ℕ)) (message : List ℕ) (rs : List Reply) (new : Server)
      → mailbox_at name s.mailboxes ≡ at → AppendsAt at s tag name flags message rs new → GoOn s.mailboxes new.mailboxes
  appends_at_on None name flags message rs new e h = given s _ rs new h same
  appends_at_on (Some m) name flags message rs new e (inl h) = given s _ rs new h.gives same
  appends_at_on (Some m) name flags message rs new e (inr h) = given s _ rs new h.gives (added_goes_on m name h.uid (named_set s.keywords flags) message e h.may.at_least)

  appends_on : (b : Bool) (name : List ℕ) (flags : List (List ℕ)) (message : List ℕ) (rs : List Reply) (new : Server)
      → AppendsIf b s tag name flags message rs new → GoOn s.mailboxes new.mailboxes
  appends_on false name flags message rs new h = given s _ rs new h same
  appends_on true name flags message rs new h = appends_at_on (mailbox_at name s.mailboxes) name flags message rs new refl h

  pub step_goes_on : (r : Request) (rs : List Reply) (new : Server) → StepOf s tag r rs new → GoOn s.mailboxes new.mailboxes
  step_goes_on requests.Capability rs new h = given s _ rs new h same
  step_goes_on requests.Noop rs new h = given s _ rs new h same
  step_goes_on requests.Logout rs new h = given s _ rs new h same
  step_goes_on (requests.Login user password) rs new h = given s _ rs new h (logs_in_on user password)
  step_goes_on (requests.Enable names) rs new h = given s _ rs new h (either (is_logged_in s.condition) s _ _ same same)
  step_goes_on (requests.List pattern) rs new h = given s _ rs new h (either (is_logged_in s.condition) s _ _ same same)
  step_goes_on (requests.Create name) rs new h = given s _ rs new h (either (is_logged_in s.condition) s _ _ (creates_at_on (mailbox_at name s.mailboxes) name) same)
  step_goes_on (requests.Select name) rs new h = given s _ rs new h (either (is_logged_in s.condition) s _ _ (selects_at_on (mailbox_at name s.mailboxes) name) same)
  step_goes_on (requests.Append name flags message) rs new h = appends_on (is_logged_in s.condition) name flags message rs new h
  step_goes_on (requests.Fetch set what) rs new h = given s _ rs new h (fetches_on (selected s) set what)
  step_goes_on (requests.Store set mode flags) rs new h = given s _ rs new h (stores_on (selected s) set mode flags)
  step_goes_on (requests.Expunge set) rs new h = given s _ rs new h (expunges_on (selected s) set)

does_goes_on : (s : Server) (item : Item) (rs : List Reply) (new : Server) → AreStores s.mailboxes → Does s item rs new → GoOn s.mailboxes new.mailboxes
does_goes_on s (Asks command) rs new are h = step_goes_on s command.tag are command.request rs new h
does_goes_on s (Faulty fault) rs new are h = given s _ rs new h (same_goes_on s.mailboxes are)
does_goes_on s Ends rs new are h = given s _ rs new h (same_goes_on s.mailboxes are)
does_goes_on s Late rs new are h = given s _ rs new h (same_goes_on s.mailboxes are)

quiet_goes_on : (old new : Server) → AreStores old.mailboxes → Quiet old new → GoOn old.mailboxes new.mailboxes
quiet_goes_on old new are q = subst (λ (v : Server). GoOn old.mailboxes v.mailboxes) (sym q) (same_goes_on old.mailboxes are)

go_on-trans : (a b c : List FarMailbox) → GoOn a b → GoOn b c → GoOn a c
go_on-trans a b c h k = record { stores = k.stores; continue = all-trans a b c h.continue k.continue }

takes_goes_on : (old : Server) (p : Portion) (rs : List Reply) (new : Server) → AreStores old.mailboxes → Takes old p rs new → GoOn old.mailboxes new.mailboxes
takes_goes_on old p rs new are t =
    let first = quiet_goes_on old t.before are t.quiet in
    go_on-trans old.mailboxes t.before.mailboxes new.mailboxes first (does_goes_on (reported t.before) p.item t.own new first.stores t.does)

pub serve_goes_on : (old new : Server) (ps : List Portion) (rs : List Reply) → AreStores old.mailboxes → Serve old ps rs new → GoOn old.mailboxes new.mailboxes
serve_goes_on old new [] rs are s = quiet_goes_on old new are s.0
serve_goes_on old new (p ∷ ps) rs are s =
    let first = takes_goes_on old p s.0 s.2 are s.3 in
    go_on-trans old.mailboxes s.2.mailboxes new.mailboxes first (serve_goes_on s.2 new ps s.1 first.stores s.4)
