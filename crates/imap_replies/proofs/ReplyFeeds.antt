-- A reply ends with a line end.
use Rattle.std.proofs.Common.{ℕ, List, Option, None, Some}
use Rattle.wire_reader.specs.Spelling.{crlf}
use Rattle.wire_reader.proofs.Feeds.{EndsFeed, line_feed, crlf_feed, then_feed}
use Rattle.wire_strings.specs.Texts.{LastText}
use Rattle.imap_replies.specs.Forms.{AsRead}
use Rattle.imap_replies.specs.declared.response.ResponseText.{ResponseText}
use Rattle.imap_replies.specs.declared.response.ResponseText.TheVariants as responses
use Rattle.imap_replies.specs.declared.reply.Reply.{Reply}
use Rattle.imap_replies.specs.declared.reply.Reply.TheVariants.{Continue, Tagged, Notice, Capability, Enabled, List as Listed, Flags, Exists, Expunge, Fetch, Other, OtherNumbered}
use Rattle.imap_replies.specs.Lines.{RestText}
use Rattle.imap_replies.specs.Responses.{ResponseIn}
use Rattle.imap_replies.specs.Replies.{NamesLine, ReplyText}

last_feed : (a text : List ℕ) → LastText a text → EndsFeed text
last_feed a text h = line_feed a text h.0

response_feed : (response : ResponseText) (text : List ℕ) → ResponseIn AsRead response text → EndsFeed text
response_feed (responses.Plain a) text h = line_feed a text h.0
response_feed (responses.Coded code a) text h = then_feed (then_feed (then_feed (last_feed a))) text h

names_feed : (names : List (List ℕ)) (text : List ℕ) → NamesLine names text → EndsFeed text
names_feed names text h = then_feed crlf_feed text h

rest_feed : {A : Type 0} (L : A → List ℕ → Type 0) → ((a : A) (text : List ℕ) → L a text → EndsFeed text) → (o : Option A) (text : List ℕ) → RestText crlf L o text → EndsFeed text
rest_feed L f None text h = crlf_feed text h
rest_feed L f (Some a) text h = then_feed (f a) text h

pub reply_feed : (reply : Reply) (text : List ℕ) → ReplyText reply text → EndsFeed text
reply_feed (Continue a) text h = then_feed (last_feed a) text h
reply_feed (Tagged tag status a) text h = then_feed (then_feed (then_feed (then_feed (response_feed a)))) text h
reply_feed (Notice kind a) text h = then_feed (then_feed (then_feed (response_feed a))) text h
reply_feed (Capability names) text h = then_feed (then_feed (rest_feed NamesLine names_feed names)) text h
reply_feed (Enabled names) text h = then_feed (then_feed (rest_feed NamesLine names_feed names)) text h
reply_feed (Listed attributes delimiter name) text h = then_feed (then_feed (then_feed (then_feed (then_feed (then_feed (then_feed (then_feed crlf_feed))))))) text h
reply_feed (Flags flags) text h = then_feed (then_feed (then_feed (then_feed crlf_feed))) text h
reply_feed (Exists n) text h = then_feed (then_feed (then_feed (then_feed crlf_feed))) text h
reply_feed (Expunge n) text h = then_feed (then_feed (then_feed (then_feed crlf_feed))) text h
reply_feed (Fetch n items) text h = then_feed (then_feed (then_feed (then_feed (then_feed (then_feed (then_feed crlf_feed)))))) text h
reply_feed (Other word a) text h = then_feed (then_feed (rest_feed LastText last_feed a)) text h
reply_feed (OtherNumbered n event a) text h = then_feed (then_feed (then_feed (then_feed (rest_feed LastText last_feed a)))) text h
