-- An example: a session with a server that has one mailbox with one message, computed from the definitions. Each command
-- is shown with the replies to it and the server after it.
use Rattle.std.specs.Prelude.{◌≡◌, ℕ, true, false, List, [], ◌∷◌, codes, None, Some, refl}
use mathlib.Core.Logic.{inr}
use Rattle.wire_tokens.specs.declared.uid_set.SetEnd.TheVariants.{Number, Greatest}
use Rattle.wire_tokens.specs.declared.uid_set.SetItem.TheVariants.{One, Range}
use Rattle.wire_strings.specs.declared.string.WireString.TheVariants.{Literal}
use Rattle.mailcore.specs.declared.mailbox.Message.{Message}
use Rattle.mailcore.specs.FlagSet.{union}
use Rattle.mailcore.specs.KeywordNames.{named_set}
use Rattle.imap_commands.specs.declared.command.Command.{Command}
use Rattle.imap_commands.specs.declared.command.Request.{Request}
use Rattle.imap_commands.specs.declared.command.Request.TheVariants as requests
use Rattle.imap_commands.specs.declared.command.FetchItems.TheVariants as wanted
use Rattle.imap_commands.specs.declared.command.StoreMode.TheVariants as modes
use Rattle.imap_replies.specs.declared.fetch.FetchItem.TheVariants as items
use Rattle.imap_replies.specs.declared.word.NoticeKind.TheVariants as notices
use Rattle.imap_replies.specs.declared.response.Code.TheVariants as codes_of
use Rattle.imap_replies.specs.declared.response.ResponseText.TheVariants.{Plain}
use Rattle.imap_replies.specs.declared.reply.Reply.TheVariants.{Notice, Capability, Enabled, Flags, Exists, Expunge, Fetch}
use Rattle.imap_session.specs.Servers.{Condition, NotAuthenticated, Authenticated, Selected, LoggedOut, Server, news, reported}
use Rattle.imap_session.specs.Mailboxes.{FarMailbox}
use Rattle.imap_session.specs.AppendCommand.{MayGive}
use Rattle.imap_session.specs.Answering.{done, done_with, go, listed, note, bad, refused, refused_with, word_code}
use Rattle.imap_session.specs.MailboxCommands.{all_names}
use Rattle.imap_session.specs.Steps.{Step}
use Rattle.imap_session.specs.Portions.{Syntax, goes_in}
use Rattle.imap_session.specs.Serving.{fault_reply}

abbrev message : (uid flags : ℕ) (bytes : List ℕ) → Message
message uid flags bytes = record { uid = uid; flags = flags; bytes = bytes }

abbrev mailbox : (name : List ℕ) (validity next : ℕ) → List Message → FarMailbox
mailbox name validity next messages = record { name = name; store = record { validity = validity; next = next; messages = messages } }

abbrev inbox : (next : ℕ) → List Message → FarMailbox
inbox = mailbox (codes "INBOX") 1

abbrev with_mailboxes : List FarMailbox → Condition → Server
with_mailboxes mailboxes c = record { user = codes "u"; password = codes "p"; mailboxes = mailboxes; keywords = []; condition = c; has_news = false }

abbrev with_inbox : FarMailbox → Condition → Server
with_inbox m = with_mailboxes (m ∷ [])

abbrev asked : (tag : List ℕ) → Request → Command
asked tag request = record { tag = tag; request = request }

abbrev at_inbox : Condition
at_inbox = Selected (codes "INBOX")

-- ---- a session

-- \Seen is the bit of 16
abbrev one : FarMailbox
one = inbox 3 (message 1 16 (codes "ab") ∷ [])

abbrev two : FarMailbox
two = inbox 4 (message 1 16 (codes "ab") ∷ message 3 0 (codes "xy") ∷ [])

capability : Step (with_inbox one NotAuthenticated) (asked (codes "A1") requests.Capability)
    (Capability (Some (codes "IMAP4rev2" ∷ [])) ∷ done (codes "A1") ∷ []) (with_inbox one NotAuthenticated)
capability = (refl, refl)

login : Step (with_inbox one NotAuthenticated) (asked (codes "A2") (requests.Login (codes "u") (codes "p")))
    (done (codes "A2") ∷ []) (with_inbox one Authenticated)
login = (refl, refl)

select : Step (with_inbox one Authenticated) (asked (codes "A3") (requests.Select (codes "INBOX")))
    (Flags (all_names []) ∷ Exists 1 ∷ listed (codes "INBOX") ∷ note (codes_of.PermanentFlags (all_names [])) (codes "flags")
    ∷ note (codes_of.UidNext 3) (codes "next") ∷ note (codes_of.UidValidity 1) (codes "validity")
    ∷ done_with (codes "A3") codes_of.ReadWrite ∷ [])
    (with_inbox one at_inbox)
select = (refl, refl)

listing : Step (with_inbox one at_inbox) (asked (codes "A4") (requests.Fetch (Range (Number 559) Greatest ∷ []) wanted.Listing))
    (Fetch 1 (items.Uid 1 ∷ items.Flags (codes "\\Seen" ∷ []) ∷ items.Size 2 ∷ []) ∷ done (codes "A4") ∷ []) (with_inbox one at_inbox)
listing = (refl, refl)

append_waits : goes_in (codes "A5 APPEND \"INBOX\" () {2}\r\nxy\r\n") ≡ go ∷ []
append_waits = refl

append_waits_not : goes_in (codes "A5 APPEND \"INBOX\" () {2+}\r\nxy\r\n") ≡ []
append_waits_not = refl

append : MayGive one.store 3 → Step (with_inbox one at_inbox) (asked (codes "A5") (requests.Append (codes "INBOX") [] (codes "xy")))
    (Exists 2 ∷ done_with (codes "A5") (codes_of.AppendUid 1 3) ∷ []) (with_inbox two at_inbox)
append may = inr (record { uid = 3; may = may; gives = (refl, refl) })

body : Step (with_inbox two at_inbox) (asked (codes "A6") (requests.Fetch (One (Number 3) ∷ []) wanted.Body))
    (Fetch 2 (items.Uid 3 ∷ items.Body (Some (Literal (codes "xy"))) ∷ []) ∷ done (codes "A6") ∷ []) (with_inbox two at_inbox)
body = (refl, refl)

syntax : fault_reply (Syntax (Some (codes "A7"))) ≡ bad (codes "A7") (codes "syntax")
syntax = refl

logout : Step (with_inbox two at_inbox) (asked (codes "A8") requests.Logout)
    (Notice notices.Bye (Plain (codes "bye")) ∷ done (codes "A8") ∷ []) (with_inbox two LoggedOut)
logout = (refl, refl)

-- ---- UID EXPUNGE: what is deleted goes, with its place at that moment (\Deleted is the bit of 32)

expunge : Step (with_inbox (inbox 9 (message 3 32 [] ∷ message 5 0 [] ∷ message 8 32 [] ∷ [])) at_inbox)
    (asked (codes "A3") (requests.Expunge (Range (Number 1) Greatest ∷ [])))
    (Expunge 1 ∷ Expunge 2 ∷ done (codes "A3") ∷ []) (with_inbox (inbox 9 (message 5 0 [] ∷ [])) at_inbox)
expunge = (refl, refl)

expunge_named : Step (with_inbox (inbox 9 (message 3 32 [] ∷ message 5 0 [] ∷ message 8 32 [] ∷ [])) at_inbox)
    (asked (codes "A3") (requests.Expunge (One (Number 5) ∷ One (Number 8) ∷ [])))
    (Expunge 3 ∷ done (codes "A3") ∷ []) (with_inbox (inbox 9 (message 3 32 [] ∷ message 5 0 [] ∷ [])) at_inbox)
expunge_named = (refl, refl)

-- ---- UID STORE

store : Step (with_inbox (inbox 9 (message 3 1 [] ∷ message 5 2 [] ∷ [])) at_inbox)
    (asked (codes "A3") (requests.Store (Range (Number 4) (Number 6) ∷ []) modes.Add (codes "\\Seen" ∷ [])))
    (done (codes "A3") ∷ []) (with_inbox (inbox 9 (message 3 1 [] ∷ message 5 (union 2 (named_set [] (codes "\\Seen" ∷ []))) [] ∷ [])) at_inbox)
store = (refl, refl)

-- ---- what is refused

no_login : Step (with_inbox one NotAuthenticated) (asked (codes "A1") (requests.Login (codes "u") (codes "P")))
    (refused_with (codes "A1") (codes "AUTHENTICATIONFAILED") (codes "login") ∷ []) (with_inbox one NotAuthenticated)
no_login = (refl, refl)

login_twice : Step (with_inbox one at_inbox) (asked (codes "A1") (requests.Login (codes "u") (codes "p")))
    (bad (codes "A1") (codes "state") ∷ []) (with_inbox one at_inbox)
login_twice = (refl, refl)

fetch_early : Step (with_inbox one Authenticated) (asked (codes "A1") (requests.Fetch (One Greatest ∷ []) wanted.Body))
    (bad (codes "A1") (codes "state") ∷ []) (with_inbox one Authenticated)
fetch_early = (refl, refl)

select_none : Step (with_inbox one at_inbox) (asked (codes "A1") (requests.Select (codes "Spam")))
    (note (word_code (codes "CLOSED")) (codes "closed") ∷ refused_with (codes "A1") (codes "NONEXISTENT") (codes "no mailbox") ∷ [])
    (with_inbox one Authenticated)
select_none = (refl, refl)

create_again : Step (with_inbox one Authenticated) (asked (codes "A1") (requests.Create (codes "inbox")))
    (refused_with (codes "A1") (codes "ALREADYEXISTS") (codes "exists") ∷ []) (with_inbox one Authenticated)
create_again = (refl, refl)

create_badly : Step (with_inbox one Authenticated) (asked (codes "A1") (requests.Create (codes "a/../b")))
    (refused (codes "A1") (codes "name") ∷ []) (with_inbox one Authenticated)
create_badly = (refl, refl)

create_last : Step (with_mailboxes (mailbox (codes "a") 4294967295 1 [] ∷ []) Authenticated) (asked (codes "A1") (requests.Create (codes "b")))
    (refused (codes "A1") (codes "limit") ∷ []) (with_mailboxes (mailbox (codes "a") 4294967295 1 [] ∷ []) Authenticated)
create_last = (refl, refl)

-- ---- CREATE and LIST

create : Step (with_mailboxes (mailbox (codes "b") 7 3 [] ∷ []) Authenticated) (asked (codes "A1") (requests.Create (codes "a/c")))
    (done (codes "A1") ∷ []) (with_mailboxes (mailbox (codes "b") 7 3 [] ∷ mailbox (codes "a/c") 8 1 [] ∷ []) Authenticated)
create = (refl, refl)

list_all_names : Step (with_mailboxes (mailbox (codes "b") 7 3 [] ∷ mailbox (codes "a/c") 8 1 [] ∷ []) Authenticated) (asked (codes "A1") (requests.List (codes "*")))
    (listed (codes "a/c") ∷ listed (codes "b") ∷ done (codes "A1") ∷ []) (with_mailboxes (mailbox (codes "b") 7 3 [] ∷ mailbox (codes "a/c") 8 1 [] ∷ []) Authenticated)
list_all_names = (refl, refl)

list_level : Step (with_mailboxes (mailbox (codes "b") 7 3 [] ∷ mailbox (codes "a/c") 8 1 [] ∷ []) Authenticated) (asked (codes "A1") (requests.List (codes "%")))
    (listed (codes "b") ∷ done (codes "A1") ∷ []) (with_mailboxes (mailbox (codes "b") 7 3 [] ∷ mailbox (codes "a/c") 8 1 [] ∷ []) Authenticated)
list_level = (refl, refl)

enable : Step (with_inbox one Authenticated) (asked (codes "A1") (requests.Enable (codes "x" ∷ codes "imap4REV2" ∷ [])))
    (Enabled (Some (codes "IMAP4rev2" ∷ [])) ∷ done (codes "A1") ∷ []) (with_inbox one Authenticated)
enable = (refl, refl)

enable_none : Step (with_inbox one Authenticated) (asked (codes "A1") (requests.Enable (codes "x" ∷ [])))
    (Enabled None ∷ done (codes "A1") ∷ []) (with_inbox one Authenticated)
enable_none = (refl, refl)

-- ---- a message arrived in the selected mailbox

arrived : Server
arrived = record (with_inbox two at_inbox) { has_news = true }

arrival_reported : news arrived ≡ Exists 2 ∷ []
unfolding arrived
arrival_reported = refl

reported_once : news (reported arrived) ≡ []
unfolding arrived
reported_once = refl

none_selected : news (record (with_inbox two Authenticated) { has_news = true }) ≡ []
none_selected = refl
