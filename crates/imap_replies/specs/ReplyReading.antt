-- How replies are read: by the first byte, and after `* ` by the word or the number that stands there.
use Rattle.std.specs.Prelude.{ℕ, Bool, List, [], ◌∷◌, Option, Result, ◌==◌}
use Rattle.wire_reader.specs.declared.stop.Stop.{Stop}
use Rattle.wire_reader.specs.Reading.{seq, mapped, skip, keep, both, by_first, byte_at, crlf_at}
use Rattle.wire_reader.specs.Words.{keys_at}
use Rattle.wire_tokens.specs.Atoms.{tag_at}
use Rattle.wire_strings.specs.Texts.{last_text_at}
use Rattle.wire_tokens.specs.Names.{names_at}
use Rattle.wire_tokens.specs.FlagLists.{flags_at}
use Rattle.imap_replies.specs.declared.word.ReplyWord.{ReplyWord}
use Rattle.imap_replies.specs.declared.word.ReplyWord.TheVariants as words
use Rattle.imap_replies.specs.declared.word.NoticeKind.{NoticeKind}
use Rattle.imap_replies.specs.declared.word.NoticeKind.TheVariants as notices
use Rattle.imap_replies.specs.declared.word.Status.{Status}
use Rattle.imap_replies.specs.declared.word.Status.TheVariants as statuses
use Rattle.imap_replies.specs.declared.head.Head.{Head}
use Rattle.imap_replies.specs.declared.head.Head.TheVariants as heads
use Rattle.imap_replies.specs.declared.event.Event.{Event}
use Rattle.imap_replies.specs.declared.event.Event.TheVariants as events
use Rattle.imap_replies.specs.declared.fetch.FetchItem.{FetchItem}
use Rattle.imap_replies.specs.declared.response.ResponseText.{ResponseText}
use Rattle.imap_replies.specs.declared.reply.Reply.{Reply}
use Rattle.imap_replies.specs.declared.reply.Reply.TheVariants.{Continue, Tagged, Notice, Capability, Enabled, List as Listed, Flags, Exists, Expunge, Fetch, Other, OtherNumbered}
use Rattle.imap_replies.specs.Words.{status_word}
use Rattle.imap_replies.specs.Heads.{head_at, event_at}
use Rattle.imap_replies.specs.Lines.{rest_at}
use Rattle.imap_replies.specs.Responses.{response_at}
use Rattle.imap_replies.specs.Listings.{ListValue, list_at}
use Rattle.imap_replies.specs.Fetches.{fetch_at}

-- ---- the values

abbrev pub continue : List ℕ → Reply
continue text = Continue text

abbrev pub tagged : List ℕ × (Status × ResponseText) → Reply
tagged p = Tagged p.0 (p.1.0) (p.1.1)

abbrev pub notice : NoticeKind → ResponseText → Reply
notice kind text = Notice kind text

abbrev pub capability : Option (List (List ℕ)) → Reply
capability names = Capability names

abbrev pub enabled : Option (List (List ℕ)) → Reply
enabled names = Enabled names

abbrev pub listed : ListValue → Reply
listed p = Listed p.0 (p.1.0) (p.1.1)

abbrev pub flags : List (List ℕ) → Reply
flags names = Flags names

abbrev pub exists : ℕ → Unit {0} → Reply
exists n _ = Exists n

abbrev pub expunge : ℕ → Unit {0} → Reply
expunge n _ = Expunge n

abbrev pub fetch : ℕ → List FetchItem → Reply
fetch n items = Fetch n items

abbrev pub other : List ℕ → Option (List ℕ) → Reply
other word text = Other word text

abbrev pub other_numbered : ℕ → List ℕ → Option (List ℕ) → Reply
other_numbered n event text = OtherNumbered n event text

-- ---- the lines

unfoldable pub rest_line_at : List ℕ → Result (Option (List ℕ) × List ℕ) Stop
rest_line_at = rest_at 13 crlf_at last_text_at

unfoldable pub names_line_at : List ℕ → Result (Option (List (List ℕ)) × List ℕ) Stop
names_line_at = rest_at 13 crlf_at (keep names_at crlf_at)

unfoldable pub continue_at : List ℕ → Result (Reply × List ℕ) Stop
continue_at = mapped continue (skip (byte_at 43) (skip (byte_at 32) last_text_at))

abbrev pub status_at : List ℕ → Result (Status × List ℕ) Stop
status_at = keys_at status_word statuses.Ok (statuses.No ∷ statuses.Bad ∷ [])

unfoldable pub tagged_at : List ℕ → Result (Reply × List ℕ) Stop
tagged_at = mapped tagged (both tag_at (skip (byte_at 32) (both status_at (skip (byte_at 32) response_at))))

unfoldable pub flags_line_at : List ℕ → Result (List (List ℕ) × List ℕ) Stop
flags_line_at = skip (byte_at 32) (keep flags_at crlf_at)

abbrev pub notice_at : NoticeKind → List ℕ → Result (Reply × List ℕ) Stop
notice_at kind = mapped (notice kind) (skip (byte_at 32) response_at)

-- after a word with a line of its own
unfoldable pub known_at : ReplyWord → List ℕ → Result (Reply × List ℕ) Stop
known_at words.Ok = notice_at notices.Ok
known_at words.No = notice_at notices.No
known_at words.Bad = notice_at notices.Bad
known_at words.Bye = notice_at notices.Bye
known_at words.Preauth = notice_at notices.Preauth
known_at words.Capability = mapped capability names_line_at
known_at words.Enabled = mapped enabled names_line_at
known_at words.List = mapped listed list_at
known_at words.Flags = mapped flags flags_line_at

-- after a number and an event
unfoldable pub event_line_at : ℕ → Event → List ℕ → Result (Reply × List ℕ) Stop
event_line_at n events.Exists = mapped (exists n) crlf_at
event_line_at n (events.Expunge m) = mapped (expunge m) crlf_at
event_line_at n (events.Fetch m) = mapped (fetch m) fetch_at
event_line_at n (events.Other event) = mapped (other_numbered n event) rest_line_at

unfoldable pub numbered_at : ℕ → List ℕ → Result (Reply × List ℕ) Stop
numbered_at n = skip (byte_at 32) (seq (event_at n) (event_line_at n))

abbrev pub after_head : Head → List ℕ → Result (Reply × List ℕ) Stop
after_head (heads.Number n) = numbered_at n
after_head (heads.Known word) = known_at word
after_head (heads.Other word) = mapped (other word) rest_line_at

unfoldable pub untagged_at : List ℕ → Result (Reply × List ℕ) Stop
untagged_at = skip (byte_at 42) (skip (byte_at 32) (seq head_at after_head))

abbrev pub is_plus : ℕ → Bool
is_plus b = b == 43

abbrev pub is_star : ℕ → Bool
is_star b = b == 42

unfoldable pub reply_at : List ℕ → Result (Reply × List ℕ) Stop
reply_at = by_first is_plus continue_at (by_first is_star untagged_at tagged_at)
