-- Which replies to a command its call keeps (RFC 9051, section 7).
use Rattle.std.specs.Prelude.{Bool, true, false, ◌&&◌}
use Rattle.imap_commands.specs.declared.command.FetchItems.{FetchItems}
use Rattle.imap_commands.specs.declared.command.FetchItems.TheVariants as wanted
use Rattle.imap_commands.specs.declared.command.Request.{Request}
use Rattle.imap_commands.specs.declared.command.Request.TheVariants as requests
use Rattle.imap_replies.specs.declared.word.NoticeKind.TheVariants as notices
use Rattle.imap_replies.specs.declared.response.Code.{Code}
use Rattle.imap_replies.specs.declared.response.Code.TheVariants as codes_of
use Rattle.imap_replies.specs.declared.response.ResponseText.{ResponseText}
use Rattle.imap_replies.specs.declared.response.ResponseText.TheVariants.{Plain, Coded}
use Rattle.imap_replies.specs.declared.reply.Reply.{Reply}
use Rattle.imap_replies.specs.declared.reply.Reply.TheVariants.{Continue, Tagged, Notice, Capability, Enabled, List as Listed, Flags, Exists, Expunge, Fetch, Other, OtherNumbered}
use Rattle.imap_link.specs.declared.uses.Uses.{Uses}

abbrev pub answer_alone : Uses
answer_alone = record { abilities = false; names = false; opening = false; messages = false }

abbrev pub abilities_read : Uses
abilities_read = record answer_alone { abilities = true }

abbrev pub names_read : Uses
names_read = record answer_alone { names = true }

abbrev pub opening_read : Uses
opening_read = record answer_alone { opening = true }

abbrev pub messages_read : Uses
messages_read = record answer_alone { messages = true }

-- FETCH of whole messages: their octets are lent from the buffer; what else is reported about messages is taken as it is heard
abbrev pub fetch_uses : FetchItems → Uses
fetch_uses wanted.Listing = answer_alone
fetch_uses wanted.Body = messages_read
fetch_uses wanted.Head = answer_alone

-- what the call that asks for this keeps
abbrev pub uses_of : Request → Uses
uses_of requests.Capability = abilities_read
uses_of requests.Noop = answer_alone
uses_of requests.Logout = answer_alone
uses_of (requests.Login user password) = answer_alone
uses_of (requests.Enable names) = answer_alone
uses_of (requests.List pattern) = names_read
uses_of (requests.Create mailbox) = answer_alone
uses_of (requests.Select mailbox) = opening_read
uses_of (requests.Append mailbox flags message) = answer_alone
uses_of (requests.Fetch set what) = fetch_uses what
uses_of (requests.Store set mode flags) = answer_alone
uses_of (requests.Expunge set) = answer_alone

-- a code that says something of the mailbox that is selected
abbrev pub is_of_opening : Code → Bool
is_of_opening (codes_of.UidNext n) = true
is_of_opening (codes_of.UidValidity n) = true
is_of_opening (codes_of.PermanentFlags flags) = true
is_of_opening (codes_of.AppendUid validity uid) = false
is_of_opening codes_of.ReadOnly = true
is_of_opening codes_of.ReadWrite = false
is_of_opening (codes_of.Other word text) = false

abbrev pub reports_opening : ResponseText → Bool
reports_opening (Plain text) = false
reports_opening (Coded code text) = is_of_opening code

-- The call keeps this reply. It keeps `+` and tagged ones in any case.
abbrev pub is_used : Uses → Reply → Bool
is_used uses (Continue text) = true
is_used uses (Tagged tag status text) = true
is_used uses (Notice notices.Ok text) = uses.opening && reports_opening text
is_used uses (Notice notices.No text) = false
is_used uses (Notice notices.Bad text) = false
is_used uses (Notice notices.Bye text) = false
is_used uses (Notice notices.Preauth text) = false
is_used uses (Capability names) = uses.abilities
is_used uses (Enabled names) = false
is_used uses (Listed attributes delimiter name) = uses.names
is_used uses (Flags flags) = false
is_used uses (Exists n) = false
is_used uses (Expunge n) = false
is_used uses (Fetch n items) = uses.messages
is_used uses (Other word text) = false
is_used uses (OtherNumbered n event text) = false
