-- The names of a server's mailboxes, as LIST returns them (RFC 9051, sections 6.3.9 and 7.3.1).
use Rattle.std.specs.Prelude.{◌≡◌, ℕ, List, [], ◌∷◌, ◌++◌, map, filter, Option, None, Some}
use Rattle.std.specs.List.{fold}
use Rattle.mailcore.specs.MailboxNames.{is_mailbox_name, within_limits}
use Rattle.wire_strings.specs.Quotes.{unescaped}
use Rattle.wire_strings.specs.Strings.{value_of}
use Rattle.imap_replies.specs.declared.reply.Reply.{Reply}
use Rattle.imap_replies.specs.declared.reply.Reply.TheVariants.{List as Listed}
use Rattle.imap_session.specs.MailboxCommands.{names_matched}
use Rattle.imap_session.specs.Servers.{Server}

-- a name within the limits; others are skipped
abbrev pub name_reported : Reply → Option (List ℕ)
name_reported (Listed attributes delimiter name) = within_limits (value_of name)
name_reported _ = None

abbrev pub with_name : List (List ℕ) → Option (List ℕ) → List (List ℕ)
with_name names None = names
with_name names (Some name) = names ++ name ∷ []

abbrev pub names_more : List (List ℕ) → Reply → List (List ℕ)
names_more names reply = with_name names (name_reported reply)

abbrev pub names_in : List Reply → List (List ℕ)
names_in replies = fold names_more [] replies

-- Those of its names that are within the limits, in the order of their bytes. A name stands between quotes as it is, so
-- that it is read without its backslashes; a name within the limits has none.
abbrev pub names_of : Server → List (List ℕ)
names_of s = filter is_mailbox_name (map unescaped (names_matched (42 ∷ []) s.mailboxes))

-- these are returned, and nothing changed
abbrev pub ReportsNames : List (List ℕ) → Server → Server → Type 0
ReportsNames names old new = (names ≡ names_of old) × (new ≡ old)
