-- What a server says, a line a reply (RFC 9051, section 9: response, continue-req, response-data, response-tagged,
-- resp-cond-state, resp-cond-bye, greeting, mailbox-data, message-data, capability-data, enable-data; in the profile an
-- untagged line of another word is taken as it is).
use Rattle.std.specs.Prelude.{◌≡◌, ℕ, List, codes}
use Rattle.wire_reader.specs.Spelling.{◌⨾◌, Is, crlf}
use Rattle.wire_tokens.specs.Atoms.{TagText}
use Rattle.wire_tokens.specs.Numbers.{NumberText, NzText}
use Rattle.wire_strings.specs.Texts.{LastText}
use Rattle.wire_tokens.specs.FlagLists.{FlagsText}
use Rattle.wire_tokens.specs.Names.{NamesText}
use Rattle.imap_replies.specs.Forms.{Form, AsRead, AsWritten, WordIn}
use Rattle.imap_replies.specs.declared.word.ReplyWord.TheVariants as words
use Rattle.imap_replies.specs.declared.word.EventWord.TheVariants as events
use Rattle.imap_replies.specs.declared.reply.Reply.{Reply}
use Rattle.imap_replies.specs.declared.reply.Reply.TheVariants.{Continue, Tagged, Notice, Capability, Enabled, List as Listed, Flags, Exists, Expunge, Fetch, Other, OtherNumbered}
use Rattle.imap_replies.specs.Words.{reply_word, event_word, status_word, notice_word}
use Rattle.imap_replies.specs.Others.{IsOtherWord, IsOtherEvent}
use Rattle.imap_replies.specs.Lines.{RestText}
use Rattle.imap_replies.specs.Responses.{ResponseIn}
use Rattle.imap_replies.specs.Listings.{ListIn}
use Rattle.imap_replies.specs.Fetches.{FetchIn}

-- names, and the line end
abbrev pub NamesLine : List (List ℕ) → List ℕ → Type 0
NamesLine names = NamesText names ⨾ Is crlf

abbrev pub OtherWordText : List ℕ → List ℕ → Type 0
OtherWordText a text = (text ≡ a) × IsOtherWord a

abbrev pub OtherEventText : List ℕ → List ℕ → Type 0
OtherEventText a text = (text ≡ a) × IsOtherEvent a

-- `F` says in which form
abbrev pub ReplyIn : Form → Reply → List ℕ → Type 0
ReplyIn F (Continue text) = Is (codes "+ ") ⨾ LastText text
ReplyIn F (Tagged tag status text) = TagText tag ⨾ Is (codes " ") ⨾ WordIn F (status_word status) ⨾ Is (codes " ") ⨾ ResponseIn F text
ReplyIn F (Notice kind text) = Is (codes "* ") ⨾ WordIn F (notice_word kind) ⨾ Is (codes " ") ⨾ ResponseIn F text
ReplyIn F (Capability names) = Is (codes "* ") ⨾ WordIn F (reply_word words.Capability) ⨾ RestText crlf NamesLine names
ReplyIn F (Enabled names) = Is (codes "* ") ⨾ WordIn F (reply_word words.Enabled) ⨾ RestText crlf NamesLine names
ReplyIn F (Listed attributes delimiter name) = Is (codes "* ") ⨾ WordIn F (reply_word words.List) ⨾ ListIn F attributes delimiter name
ReplyIn F (Flags flags) = Is (codes "* ") ⨾ WordIn F (reply_word words.Flags) ⨾ Is (codes " ") ⨾ FlagsText flags ⨾ Is crlf
ReplyIn F (Exists n) = Is (codes "* ") ⨾ NumberText n ⨾ Is (codes " ") ⨾ WordIn F (event_word events.Exists) ⨾ Is crlf
ReplyIn F (Expunge n) = Is (codes "* ") ⨾ NzText n ⨾ Is (codes " ") ⨾ WordIn F (event_word events.Expunge) ⨾ Is crlf
ReplyIn F (Fetch n items) = Is (codes "* ") ⨾ NzText n ⨾ Is (codes " ") ⨾ WordIn F (event_word events.Fetch) ⨾ FetchIn F items
ReplyIn F (Other word text) = Is (codes "* ") ⨾ OtherWordText word ⨾ RestText crlf LastText text
ReplyIn F (OtherNumbered n event text) = Is (codes "* ") ⨾ NumberText n ⨾ Is (codes " ") ⨾ OtherEventText event ⨾ RestText crlf LastText text

-- a reply, with its words in any case
abbrev pub ReplyText : Reply → List ℕ → Type 0
ReplyText reply text = ReplyIn AsRead reply text

-- as it is written, with its words in upper case
abbrev pub WrittenReply : Reply → List ℕ → Type 0
WrittenReply reply text = ReplyIn AsWritten reply text

-- contracts see a reply as it is, with the bytes of its texts
abbrev pub seen : Reply → Reply
seen reply = reply
