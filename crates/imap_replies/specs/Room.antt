-- How many bytes of a reply stand outside the octets of literals as it is written, at most.
use Rattle.std.specs.Prelude.{◌≤◌, ℕ, ◌+◌, List, length, Option, None, Some}
use Rattle.std.specs.List.{sum_by}
use Rattle.wire_reader.specs.Lexical.{outside}
use Rattle.wire_tokens.specs.Room.{most_flags, most_names}
use Rattle.wire_strings.specs.Room.{most_astring, most_nstring}
use Rattle.imap_replies.specs.declared.word.ReplyWord.TheVariants as replies
use Rattle.imap_replies.specs.declared.word.EventWord.TheVariants as events
use Rattle.imap_replies.specs.declared.word.CodeWord.TheVariants as words
use Rattle.imap_replies.specs.declared.word.ItemWord.TheVariants as kinds
use Rattle.imap_replies.specs.declared.response.Code.{Code}
use Rattle.imap_replies.specs.declared.response.Code.TheVariants as code
use Rattle.imap_replies.specs.declared.response.ResponseText.{ResponseText}
use Rattle.imap_replies.specs.declared.response.ResponseText.TheVariants as responses
use Rattle.imap_replies.specs.declared.fetch.FetchItem.{FetchItem}
use Rattle.imap_replies.specs.declared.fetch.FetchItem.TheVariants as items
use Rattle.imap_replies.specs.declared.reply.Reply.{Reply}
use Rattle.imap_replies.specs.declared.reply.Reply.TheVariants.{Continue, Tagged, Notice, Capability, Enabled, List as Listed, Flags, Exists, Expunge, Fetch, Other, OtherNumbered}
use Rattle.imap_replies.specs.Words.{code_word, status_word, notice_word, item_word, reply_word, event_word}
use Rattle.imap_replies.specs.Replies.{WrittenReply}

-- a number has at most 10 digits

-- nothing, or a space and so many bytes
abbrev pub most_rest : Option (List ℕ) → ℕ
most_rest None = 0
most_rest (Some text) = 1 + length text

abbrev pub most_line : Option (List (List ℕ)) → ℕ
most_line None = 0
most_line (Some names) = 1 + most_names names

-- a code after `[`, with `]`
abbrev pub most_code : Code → ℕ
most_code (code.UidNext n) = length (code_word words.UidNext) + 12
most_code (code.UidValidity n) = length (code_word words.UidValidity) + 12
most_code (code.PermanentFlags flags) = length (code_word words.PermanentFlags) + (most_flags flags + 2)
most_code (code.AppendUid validity uid) = length (code_word words.AppendUid) + 23
most_code code.ReadOnly = length (code_word words.ReadOnly) + 1
most_code code.ReadWrite = length (code_word words.ReadWrite) + 1
most_code (code.Other a text) = length a + most_rest text + 1

-- with the line end
abbrev pub most_response : ResponseText → ℕ
most_response (responses.Plain text) = length text + 2
most_response (responses.Coded c text) = 1 + most_code c + 1 + length text + 2

abbrev pub most_item : FetchItem → ℕ
most_item (items.Uid n) = length (item_word kinds.Uid) + 10
most_item (items.Flags flags) = length (item_word kinds.Flags) + most_flags flags
most_item (items.Size n) = length (item_word kinds.Size) + 10
most_item (items.Body string) = length (item_word kinds.Body) + most_nstring string
most_item (items.Head string) = length (item_word kinds.Head) + most_nstring string

abbrev pub most_outside : Reply → ℕ
most_outside (Continue text) = 2 + length text + 2
most_outside (Tagged tag status text) = length tag + 1 + length (status_word status) + 1 + most_response text
most_outside (Notice kind text) = 2 + length (notice_word kind) + 1 + most_response text
most_outside (Capability names) = 2 + length (reply_word replies.Capability) + most_line names + 2
most_outside (Enabled names) = 2 + length (reply_word replies.Enabled) + most_line names + 2
most_outside (Listed attributes delimiter name) = 2 + length (reply_word replies.List) + 1 + most_flags attributes + 1 + 4 + 1 + most_astring name + 2
most_outside (Flags flags) = 2 + length (reply_word replies.Flags) + 1 + most_flags flags + 2
most_outside (Exists n) = 2 + 10 + 1 + length (event_word events.Exists) + 2
most_outside (Expunge n) = 2 + 10 + 1 + length (event_word events.Expunge) + 2
most_outside (Fetch n list) = 2 + 10 + 1 + length (event_word events.Fetch) + 2 + sum_by (λ item. most_item item + 1) list + 1 + 2
most_outside (Other word text) = 2 + length word + most_rest text + 2
most_outside (OtherNumbered n event text) = 2 + 10 + 1 + length event + most_rest text + 2

-- a reply as it is written
pub record Fitting (reply : Reply) (text : List ℕ) : Type 0 where
  pub written : WrittenReply reply text
  pub fits : outside text ≤ most_outside reply

abbrev pub RepliesFit : Type 0
RepliesFit = (reply : Reply) (text : List ℕ) → WrittenReply reply text → outside text ≤ most_outside reply
