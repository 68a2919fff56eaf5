-- The replies to a command are an answer to it.
use Rattle.std.proofs.Common.{◌≡◌, inl, inr, ℕ, ◌+◌, Bool, true, false, ◌&&◌, List, [], ◌∷◌, ◌++◌, map, refl, sym, ◌∙◌, subst, Option, Some, None, if◌then◌else◌}
use Rattle.std.specs.Prelude.{nat_eq, nat_le}
use Rattle.std.specs.Cmp.Lexicographic.{pointwise}
use Rattle.mailcore.specs.declared.keywords.Keyword.{Keyword}
use Rattle.mailcore.specs.declared.mailbox.Message.{Message}
use Rattle.mailcore.specs.MailboxNames.{is_mailbox_name}
use Rattle.wire_tokens.specs.declared.uid_set.SetItem.{SetItem}
use Rattle.imap_commands.specs.declared.command.FetchItems.{FetchItems}
use Rattle.imap_commands.specs.declared.command.StoreMode.{StoreMode}
use Rattle.imap_commands.specs.declared.command.Command.{Command}
use Rattle.imap_commands.specs.declared.command.Request.{Request}
use Rattle.imap_commands.specs.declared.command.Request.TheVariants as requests
use Rattle.imap_replies.specs.declared.word.NoticeKind.{NoticeKind}
use Rattle.imap_replies.specs.declared.word.NoticeKind.TheVariants as notices
use Rattle.imap_replies.specs.declared.response.Code.TheVariants as codes_of
use Rattle.imap_replies.specs.declared.response.ResponseText.TheVariants.{Coded}
use Rattle.imap_replies.specs.declared.reply.Reply.{Reply}
use Rattle.imap_replies.specs.declared.reply.Reply.TheVariants.{Notice, Fetch, Expunge, Exists}
use Rattle.imap_session.specs.Mailboxes.{FarMailbox, mailbox_at, same_name}
use Rattle.imap_session.specs.NamedMessages.{goes}
use Rattle.imap_session.specs.Servers.{Condition, NotAuthenticated, Authenticated, Selected, LoggedOut, Server, is_logged_in, is_before_login, selected, news, reported}
use Rattle.imap_session.specs.Answering.{Answer, Gives, listed}
use Rattle.imap_session.specs.SessionCommands.{lets_in, logs_in, enables}
use Rattle.imap_session.specs.MailboxCommands.{lists, makes, creates_at, creates, closes, opening, selects_at, selects, next_validity}
use Rattle.imap_session.specs.AppendCommand.{grown, AppendsAt, AppendsIf}
use Rattle.imap_session.specs.MessageCommands.{fetched, removed, shown, fetches_in, stores_in, expunges_in}
use Rattle.imap_session.specs.Steps.{StepOf}
use Rattle.imap_session.specs.Heard.{tag_of, is_passed, IsAnswer, AreUntagged, IsHeardAs, AreHeardAs}
use Rattle.imap_session.specs.Ends.{Did}
use Rattle.imap_session.proofs.HeardAs.{reads_same}
use Rattle.imap_session.proofs.Others.{news_untagged}

pub answer-append : (tag : List ℕ) (a b : List Reply) → AreUntagged a → IsAnswer tag b → IsAnswer tag (a ++ b)
answer-append tag [] b h k = k
answer-append tag (r ∷ a) b h k = inr (h.0, answer-append tag a b h.1 k)

pub answer_last : (tag : List ℕ) (a : List Reply) (r : Reply) → AreUntagged a → tag_of r ≡ Some tag → IsAnswer tag (a ++ r ∷ [])
answer_last tag a r h e = answer-append tag a (r ∷ []) h (inl (e, refl))

-- ---- lists of untagged replies

listed_untagged : (names : List (List ℕ)) → AreUntagged (map listed names)
listed_untagged [] = tt
listed_untagged (n ∷ names) = (refl, listed_untagged names)

fetched_untagged : (keywords : List Keyword) (named : ℕ → Bool) (what : FetchItems) (place : ℕ) (ms : List Message) → AreUntagged (fetched keywords named what place ms)
fetched_untagged keywords named what place [] = tt
fetched_untagged keywords named what place (m ∷ ms) =
    elim (named m.uid) as (λ b. AreUntagged (if b then Fetch place (shown keywords what m) ∷ fetched keywords named what (place + 1) ms else fetched keywords named what (place + 1) ms))
    [ true ↦ (refl, fetched_untagged keywords named what (place + 1) ms) | false ↦ fetched_untagged keywords named what (place + 1) ms ]

removed_untagged : (named : ℕ → Bool) (place : ℕ) (ms : List Message) → AreUntagged (removed named place ms)
removed_untagged named place [] = tt
removed_untagged named place (m ∷ ms) =
    elim (goes named m) as (λ b. AreUntagged (if b then Expunge place ∷ removed named place ms else removed named (place + 1) ms))
    [ true ↦ (refl, removed_untagged named place ms) | false ↦ removed_untagged named (place + 1) ms ]

closes_untagged : (c : Condition) → AreUntagged (closes c)
closes_untagged NotAuthenticated = tt
closes_untagged Authenticated = tt
closes_untagged (Selected name) = (refl, tt)
closes_untagged LoggedOut = tt

grown_untagged : (c : Condition) (name : List ℕ) (n : ℕ) → AreUntagged (grown c name n)
grown_untagged NotAuthenticated name n = tt
grown_untagged Authenticated name n = tt
grown_untagged (Selected at) name n =
    elim (same_name at name) as (λ b. AreUntagged (if b then Exists n ∷ [] else [])) [ true ↦ (refl, tt) | false ↦ tt ]
grown_untagged LoggedOut name n = tt

-- ---- one command at a time

-- of two answers, by a test
either : (b : Bool) (tag : List ℕ) (x y : Answer) → IsAnswer tag x.replies → IsAnswer tag y.replies → IsAnswer tag (if b then x else y).replies
either true tag x y h k = h
either false tag x y h k = k

lets_in_answer : (s : Server) (tag user password : List ℕ) → IsAnswer tag (lets_in s tag user password).replies
lets_in_answer s tag user password = either (pointwise nat_eq user s.user && pointwise nat_eq password s.password) tag _ _ (inl (refl, refl)) (inl (refl, refl))

logs_in_answer : (s : Server) (tag user password : List ℕ) → IsAnswer tag (logs_in s tag user password).replies
logs_in_answer s tag user password = either (is_before_login s.condition) tag _ _ (lets_in_answer s tag user password) (inl (refl, refl))

enables_answer : (s : Server) (tag : List ℕ) (names : List (List ℕ)) → IsAnswer tag (enables s tag names).replies
enables_answer s tag names = either (is_logged_in s.condition) tag _ _ (inr (refl, inl (refl, refl))) (inl (refl, refl))

lists_answer : (s : Server) (tag pattern : List ℕ) → IsAnswer tag (lists s tag pattern).replies
lists_answer s tag pattern = either (is_logged_in s.condition) tag _ _ (answer_last tag _ _ (listed_untagged _) refl) (inl (refl, refl))

makes_answer : (s : Server) (tag name : List ℕ) (validity : ℕ) → IsAnswer tag (makes s tag name validity).replies
makes_answer s tag name validity = either (nat_le validity 4294967295) tag _ _ (inl (refl, refl)) (inl (refl, refl))

creates_at_answer : (m : Option FarMailbox) (s : Server) (tag name : List ℕ) → IsAnswer tag (creates_at m s tag name).replies
creates_at_answer (Some m) s tag name = inl (refl, refl)
creates_at_answer None s tag name = either (is_mailbox_name name) tag _ _ (makes_answer s tag name (next_validity s.mailboxes)) (inl (refl, refl))

creates_answer : (s : Server) (tag name : List ℕ) → IsAnswer tag (creates s tag name).replies
creates_answer s tag name = either (is_logged_in s.condition) tag _ _ (creates_at_answer (mailbox_at name s.mailboxes) s tag name) (inl (refl, refl))

opening_answer : (keywords : List Keyword) (m : FarMailbox) (tag : List ℕ) → IsAnswer tag (opening keywords m tag)
opening_answer keywords m tag = inr (refl, inr (refl, inr (refl, inr (refl, inr (refl, inr (refl, inl (refl, refl)))))))

selects_at_answer : (m : Option FarMailbox) (s : Server) (tag name : List ℕ) → IsAnswer tag (selects_at m s tag name).replies
selects_at_answer (Some m) s tag name = answer-append tag (closes s.condition) (opening s.keywords m tag) (closes_untagged s.condition) (opening_answer s.keywords m tag)
selects_at_answer None s tag name = answer_last tag (closes s.condition) _ (closes_untagged s.condition) refl

selects_answer : (s : Server) (tag name : List ℕ) → IsAnswer tag (selects s tag name).replies
selects_answer s tag name = either (is_logged_in s.condition) tag _ _ (selects_at_answer (mailbox_at name s.mailboxes) s tag name) (inl (refl, refl))

fetches_answer : (m : Option FarMailbox) (s : Server) (tag : List ℕ) (set : List SetItem) (what : FetchItems) → IsAnswer tag (fetches_in m s tag set what).replies
fetches_answer None s tag set what = inl (refl, refl)
fetches_answer (Some m) s tag set what = answer_last tag _ _ (fetched_untagged s.keywords _ what 1 m.store.messages) refl

stores_answer : (m : Option FarMailbox) (s : Server) (tag : List ℕ) (set : List SetItem) (mode : StoreMode) (flags : List (List ℕ)) → IsAnswer tag (stores_in m s tag set mode flags).replies
stores_answer None s tag set mode flags = inl (refl, refl)
stores_answer (Some m) s tag set mode flags = inl (refl, refl)

expunges_answer : (m : Option FarMailbox) (s : Server) (tag : List ℕ) (set : List SetItem) → IsAnswer tag (expunges_in m s tag set).replies
expunges_answer None s tag set = inl (refl, refl)
expunges_answer (Some m) s tag set = answer_last tag _ _ (removed_untagged _ 1 m.store.messages) refl

given : (tag : List ℕ) (a : Answer) (rs : List Reply) (new : Server) → Gives a rs new → IsAnswer tag a.replies → IsAnswer tag rs
given tag a rs new h k = subst (IsAnswer tag) (sym h.0) k

appends_at_answer : (m : Option FarMailbox) (s : Server) (tag name : List ℕ) (flags : List (List ℕ)) (message : List ℕ) (rs : List Reply) (new : Server) → AppendsAt m s tag name flags message rs new → IsAnswer tag rs
appends_at_answer None s tag name flags message rs new h = given tag _ rs new h (inl (refl, refl))
appends_at_answer (Some m) s tag name flags message rs new (inl h) = given tag _ rs new h.gives (inl (refl, refl))
appends_at_answer (Some m) s tag name flags message rs new (inr h) = given tag _ rs new h.gives (answer_last tag _ _ (grown_untagged s.condition name _) refl)

appends_answer : (b : Bool) (s : Server) (tag name : List ℕ) (flags : List (List ℕ)) (message : List ℕ) (rs : List Reply) (new : Server) → AppendsIf b s tag name flags message rs new → IsAnswer tag rs
appends_answer false s tag name flags message rs new h = given tag _ rs new h (inl (refl, refl))
appends_answer true s tag name flags message rs new h = appends_at_answer (mailbox_at name s.mailboxes) s tag name flags message rs new h

pub step_answer : (s : Server) (tag : List ℕ) (r : Request) (rs : List Reply) (new : Server) → StepOf s tag r rs new → IsAnswer tag rs
step_answer s tag requests.Capability rs new h = given tag _ rs new h (inr (refl, inl (refl, refl)))
step_answer s tag requests.Noop rs new h = given tag _ rs new h (inl (refl, refl))
step_answer s tag requests.Logout rs new h = given tag _ rs new h (inr (refl, inl (refl, refl)))
step_answer s tag (requests.Login user password) rs new h = given tag _ rs new h (logs_in_answer s tag user password)
step_answer s tag (requests.Enable names) rs new h = given tag _ rs new h (enables_answer s tag names)
step_answer s tag (requests.List pattern) rs new h = given tag _ rs new h (lists_answer s tag pattern)
step_answer s tag (requests.Create name) rs new h = given tag _ rs new h (creates_answer s tag name)
step_answer s tag (requests.Select name) rs new h = given tag _ rs new h (selects_answer s tag name)
step_answer s tag (requests.Append name flags message) rs new h = appends_answer (is_logged_in s.condition) s tag name flags message rs new h
step_answer s tag (requests.Fetch set what) rs new h = given tag _ rs new h (fetches_answer (selected s) s tag set what)
step_answer s tag (requests.Store set mode flags) rs new h = given tag _ rs new h (stores_answer (selected s) s tag set mode flags)
step_answer s tag (requests.Expunge set) rs new h = given tag _ rs new h (expunges_answer (selected s) s tag set)

pub did_answer : (c : Command) (old : Server) (said : List Reply) (new : Server) → Did c [] old said new → IsAnswer c.tag said
did_answer c old said new d =
    subst (IsAnswer c.tag) (sym d.replies_are) (answer-append c.tag (news d.before) d.own (news_untagged d.before) (step_answer (reported d.before) c.tag c.request d.own d.after d.step))

-- ---- as they are heard

-- PERMANENTFLAGS is passed or not by the word before it alone
by_kind : (kind : NoticeKind) (heard said : List (List ℕ)) (text : List ℕ)
    → is_passed (Notice kind (Coded (codes_of.PermanentFlags heard) text)) ≡ is_passed (Notice kind (Coded (codes_of.PermanentFlags said) text))
by_kind notices.Ok heard said text = refl
by_kind notices.No heard said text = refl
by_kind notices.Bad heard said text = refl
by_kind notices.Bye heard said text = refl
by_kind notices.Preauth heard said text = refl

module _ (keywords : List Keyword) where
  same_tag : (heard said : Reply) → IsHeardAs keywords heard said → tag_of heard ≡ tag_of said
  same_tag = reads_same keywords tag_of (record {
    without_uid = λ tag text validity uid. refl;
    flags = λ heard said same. refl;
    permanent = λ kind text heard said same star. refl;
    message = λ place heard said same. refl;
  })

  same_passed : (heard said : Reply) → IsHeardAs keywords heard said → is_passed heard ≡ is_passed said
  same_passed = reads_same keywords is_passed (record {
    without_uid = λ tag text validity uid. refl;
    flags = λ heard said same. refl;
    permanent = λ kind text heard said same star. by_kind kind heard said text;
    message = λ place heard said same. refl;
  })

  pub heard_none : (hs ss : List Reply) → AreHeardAs keywords hs ss → ss ≡ [] → hs ≡ []
  heard_none [] ss l e = refl
  heard_none (h ∷ hs) [] l e = absurd l
  heard_none (h ∷ hs) (s ∷ ss) l e = cc

  pub heard_answer : (tag : List ℕ) (hs ss : List Reply) → AreHeardAs keywords hs ss → IsAnswer tag ss → IsAnswer tag hs
  heard_answer tag [] [] l a = a
  heard_answer tag [] (s ∷ ss) l a = absurd l
  heard_answer tag (h ∷ hs) [] l a = absurd l
  heard_answer tag (h ∷ hs) (s ∷ ss) l (inl a) = inl (same_tag h s l.0 ∙ a.0, heard_none hs ss l.1 a.1)
  heard_answer tag (h ∷ hs) (s ∷ ss) l (inr a) = inr (same_passed h s l.0 ∙ a.0, heard_answer tag hs ss l.1 a.1)
