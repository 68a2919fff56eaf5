-- LIST, CREATE, SELECT (RFC 9051, sections 6.3.9, 6.3.4 and 6.3.2).
use Rattle.std.specs.Prelude.{ℕ, ◌+◌, max, nat_le, List, [], ◌∷◌, ◌++◌, length, map, filter, fold, codes, Option, None, Some, if◌then◌else◌}
use Rattle.mailcore.specs.declared.keywords.Keyword.{Keyword}
use Rattle.mailcore.specs.KeywordNames.{known_set, names_of}
use Rattle.mailcore.specs.MailboxNames.{is_mailbox_name}
use Rattle.mailcore.specs.MailboxPatterns.{matches}
use Rattle.imap_replies.specs.declared.response.Code.TheVariants as codes_of
use Rattle.imap_replies.specs.declared.reply.Reply.{Reply}
use Rattle.imap_replies.specs.declared.reply.Reply.TheVariants.{Flags, Exists}
use Rattle.imap_session.specs.Mailboxes.{FarMailbox, mailbox_at}
use Rattle.imap_session.specs.Servers.{Condition, NotAuthenticated, Authenticated, Selected, LoggedOut, Server, is_logged_in}
use Rattle.imap_session.specs.Answering.{Answer, done, done_with, refused, refused_with, note, listed, only, out_of_place, word_code}
use Rattle.imap_session.specs.NameOrder.{in_order}

-- ---- LIST

-- in the order of their bytes; for a pattern INBOX is a name as any other
abbrev pub names_matched : (pattern : List ℕ) → List FarMailbox → List (List ℕ)
names_matched pattern mailboxes = in_order (filter (matches pattern) (map (λ m. m.name) mailboxes))

abbrev pub lists : Server → (tag pattern : List ℕ) → Answer
lists s tag pattern =
    if is_logged_in s.condition
    then record { replies = map listed (names_matched pattern s.mailboxes) ++ done tag ∷ []; after = s }
    else out_of_place s tag

-- ---- CREATE

-- above the greatest that there is; 1 if there is none
abbrev pub next_validity : List FarMailbox → ℕ
next_validity mailboxes = fold (λ most m. max most m.store.validity) 0 mailboxes + 1

abbrev pub empty_mailbox : (name : List ℕ) (validity : ℕ) → FarMailbox
empty_mailbox name validity = record { name = name; store = record { validity = validity; next = 1; messages = [] } }

abbrev pub makes : Server → (tag name : List ℕ) (validity : ℕ) → Answer
makes s tag name validity =
    if nat_le validity 4294967295
    then record { replies = done tag ∷ []; after = record s { mailboxes = s.mailboxes ++ empty_mailbox name validity ∷ [] } }
    else only s (refused tag (codes "limit"))

abbrev pub creates_at : Option FarMailbox → Server → (tag name : List ℕ) → Answer
creates_at (Some m) s tag name = only s (refused_with tag (codes "ALREADYEXISTS") (codes "exists"))
creates_at None s tag name =
    if is_mailbox_name name then makes s tag name (next_validity s.mailboxes) else only s (refused tag (codes "name"))

abbrev pub creates : Server → (tag name : List ℕ) → Answer
creates s tag name = if is_logged_in s.condition then creates_at (mailbox_at name s.mailboxes) s tag name else out_of_place s tag

-- ---- SELECT

-- the names of all flags that have one
abbrev pub all_names : List Keyword → List (List ℕ)
all_names keywords = names_of keywords (known_set keywords)

-- what was selected is so no more
abbrev pub closes : Condition → List Reply
closes NotAuthenticated = []
closes Authenticated = []
closes (Selected name) = note (word_code (codes "CLOSED")) (codes "closed") ∷ []
closes LoggedOut = []

abbrev pub opening : List Keyword → FarMailbox → (tag : List ℕ) → List Reply
opening keywords m tag =
    Flags (all_names keywords) ∷ Exists (length m.store.messages) ∷ listed m.name
    ∷ note (codes_of.PermanentFlags (all_names keywords)) (codes "flags")
    ∷ note (codes_of.UidNext m.store.next) (codes "next")
    ∷ note (codes_of.UidValidity m.store.validity) (codes "validity")
    ∷ done_with tag codes_of.ReadWrite ∷ []

-- after a refusal none is selected
abbrev pub selects_at : Option FarMailbox → Server → (tag name : List ℕ) → Answer
selects_at (Some m) s tag name = record {
  replies = closes s.condition ++ opening s.keywords m tag;
  after = record s { condition = Selected name };
}
selects_at None s tag name = record {
  replies = closes s.condition ++ refused_with tag (codes "NONEXISTENT") (codes "no mailbox") ∷ [];
  after = record s { condition = Authenticated };
}

abbrev pub selects : Server → (tag name : List ℕ) → Answer
selects s tag name = if is_logged_in s.condition then selects_at (mailbox_at name s.mailboxes) s tag name else out_of_place s tag
