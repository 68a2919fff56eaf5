-- Answers to commands, and the replies that more than one command gets (RFC 9051, section 7.1).
use Rattle.std.specs.Prelude.{◌≡◌, ℕ, List, [], ◌∷◌, codes, None, Some}
use Rattle.imap_replies.specs.declared.word.Status.TheVariants as statuses
use Rattle.imap_replies.specs.declared.word.NoticeKind.TheVariants as notices
use Rattle.imap_replies.specs.declared.response.Code.{Code}
use Rattle.imap_replies.specs.declared.response.Code.TheVariants as codes_of
use Rattle.imap_replies.specs.declared.response.ResponseText.TheVariants.{Plain, Coded}
use Rattle.imap_replies.specs.declared.reply.Reply.{Reply}
use Rattle.imap_replies.specs.declared.reply.Reply.TheVariants.{Continue, Tagged, Notice, List as Listed}
use Rattle.wire_strings.specs.declared.astring.AString.TheVariants.{Quoted}
use Rattle.imap_session.specs.Servers.{Server}

-- the replies to a command, and the server after it
pub record Answer : Type 0 where
  pub replies : List Reply
  pub after : Server

abbrev pub Gives : Answer → List Reply → Server → Type 0
Gives a replies new = (replies ≡ a.replies) × (new ≡ a.after)

-- nothing but a tagged reply, and nothing changed
abbrev pub only : Server → Reply → Answer
only s reply = record { replies = reply ∷ []; after = s }

-- `tag OK done`, `tag OK [code] done`
abbrev pub done : (tag : List ℕ) → Reply
done tag = Tagged tag statuses.Ok (Plain (codes "done"))

abbrev pub done_with : (tag : List ℕ) → Code → Reply
done_with tag code = Tagged tag statuses.Ok (Coded code (codes "done"))

abbrev pub bad : (tag text : List ℕ) → Reply
bad tag text = Tagged tag statuses.Bad (Plain text)

-- a code that is a word alone
abbrev pub word_code : List ℕ → Code
word_code word = codes_of.Other word None

abbrev pub refused : (tag text : List ℕ) → Reply
refused tag text = Tagged tag statuses.No (Plain text)

abbrev pub refused_with : (tag word text : List ℕ) → Reply
refused_with tag word text = Tagged tag statuses.No (Coded (word_code word) text)

-- `* OK [code] text`
abbrev pub note : Code → List ℕ → Reply
note code text = Notice notices.Ok (Coded code text)

abbrev pub bye : List ℕ → Reply
bye text = Notice notices.Bye (Plain text)

-- `* LIST () "/" "name"`
abbrev pub listed : (name : List ℕ) → Reply
listed name = Listed [] (Some 47) (Quoted name)

-- `+ go`
abbrev pub go : Reply
go = Continue (codes "go")

-- the command does not belong here
abbrev pub out_of_place : Server → (tag : List ℕ) → Answer
out_of_place s tag = only s (bad tag (codes "state"))
