-- Replies that are short: those of a server keep far below the limit of 65536 bytes outside the octets of literals.
use Rattle.std.specs.Prelude.{◌≡◌, ◌≤◌, ℕ, ◌+◌, Bool, true, false, List, length, All, nat_le}
use Rattle.std.specs.List.{list_all, sum_by}
use Rattle.mailcore.specs.KeywordNames.{IsMap}
use Rattle.mailcore.specs.MailboxNames.{is_mailbox_name}
use Rattle.wire_reader.specs.Lexical.{outside}
use Rattle.wire_tokens.specs.Room.{most_names, most_flags}
use Rattle.wire_strings.specs.Room.{most_astring}
use Rattle.imap_replies.specs.declared.response.ResponseText.{ResponseText}
use Rattle.imap_replies.specs.declared.response.ResponseText.TheVariants.{Plain, Coded}
use Rattle.imap_replies.specs.declared.reply.Reply.{Reply}
use Rattle.imap_replies.specs.declared.reply.Reply.TheVariants.{Continue, Tagged, Notice, Capability, Enabled, List as Listed, Flags, Exists, Expunge, Fetch, Other, OtherNumbered}
use Rattle.imap_replies.specs.Replies.{WrittenReply}
use Rattle.imap_replies.specs.Room.{most_line, most_code, most_item}
use Rattle.imap_session.specs.Mailboxes.{FarMailbox}
use Rattle.imap_session.specs.Servers.{Server}
use Rattle.imap_session.specs.Portions.{Item}
use Rattle.imap_session.specs.Serving.{Does}

-- the flags of a map have at most 6724 bytes, in brackets: so PERMANENTFLAGS is short, as FLAGS and FETCH are
abbrev pub is_short_text : ResponseText → Bool
is_short_text (Plain text) = nat_le (length text) 1024
is_short_text (Coded code text) = nat_le (most_code code + length text) 8192

-- what it has beside its tag and its fixed words
abbrev pub is_short : Reply → Bool
is_short (Continue text) = nat_le (length text) 1024
is_short (Tagged tag status text) = is_short_text text
is_short (Notice kind text) = is_short_text text
is_short (Capability names) = nat_le (most_line names) 1024
is_short (Enabled names) = nat_le (most_line names) 1024
is_short (Listed attributes delimiter name) = nat_le (most_names attributes + most_astring name) 1024
is_short (Flags flags) = nat_le (most_flags flags) 8192
is_short (Exists n) = true
is_short (Expunge n) = true
is_short (Fetch n items) = nat_le (sum_by (λ item. most_item item + 1) items) 8192
is_short (Other word text) = false
is_short (OtherNumbered n event text) = false

abbrev pub ShortRepliesFit : Type 0
ShortRepliesFit = (reply : Reply) (text : List ℕ) → WrittenReply reply text → is_short reply ≡ true → outside text ≤ 65536

abbrev pub AreNamed : List FarMailbox → Type 0
AreNamed mailboxes = All (λ m. is_mailbox_name m.name ≡ true) mailboxes

abbrev pub RepliesAreShort : Type 0
RepliesAreShort =
    (old new : Server) (item : Item) (replies : List Reply) → IsMap old.keywords → AreNamed old.mailboxes → Does old item replies new → list_all is_short replies ≡ true
