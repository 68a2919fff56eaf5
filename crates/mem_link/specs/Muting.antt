-- Replies without APPENDUID.
use Rattle.std.specs.Prelude.{◌≡◌, ◌++◌, ◌≤◌, ◌&&◌, ℕ, Bool, not, nat_le, if◌then◌else◌, List, length, map}
use Rattle.mailcore.specs.declared.keywords.Keyword.{Keyword}
use Rattle.wire_reader.specs.Lexical.{outside}
use Rattle.wire_strings.specs.Texts.{begins_with}
use Rattle.imap_replies.specs.declared.word.Status.TheVariants as statuses
use Rattle.imap_replies.specs.declared.response.Code.{Code}
use Rattle.imap_replies.specs.declared.response.Code.TheVariants.{AppendUid}
use Rattle.imap_replies.specs.declared.response.ResponseText.{ResponseText}
use Rattle.imap_replies.specs.declared.response.ResponseText.TheVariants.{Plain, Coded}
use Rattle.imap_replies.specs.declared.reply.Reply.{Reply}
use Rattle.imap_replies.specs.declared.reply.Reply.TheVariants.{Tagged}
use Rattle.imap_replies.specs.Replies.{ReplyText}
use Rattle.imap_session.specs.Heard.{AreReplies, AreHeardAs}

-- it can stand without a code, and is short
abbrev pub stands_alone : List ℕ → Bool
stands_alone text = not (begins_with 91 text) && nat_le (length text) 1024

abbrev pub plain_code : Code → List ℕ → ResponseText
plain_code (AppendUid validity uid) text = if stands_alone text then Plain text else Coded (AppendUid validity uid) text
plain_code code text = Coded code text

abbrev pub plain_text : ResponseText → ResponseText
plain_text (Plain text) = Plain text
plain_text (Coded code text) = plain_code code text

-- a tagged OK without APPENDUID, where its text can stand without it; any other reply as it is
abbrev pub without_uid : Reply → Reply
without_uid (Tagged tag statuses.Ok text) = Tagged tag statuses.Ok (plain_text text)
without_uid reply = reply

-- these bytes are this reply, with room for it
pub record IsFitting (reply : Reply) (text : List ℕ) : Type 0 where
  pub spelled : ReplyText reply text
  pub fits : outside text ≤ 65536

-- after these bytes the replies in the rest are left
pub record IsLeft (said : List Reply) (out rest : List ℕ) : Type 0 where
  pub left : List Reply
  pub spelled : AreReplies left rest
  pub goes_on : (more : List ℕ) → AreReplies (map without_uid left) more → AreReplies (map without_uid said) (out ++ more)

-- of these replies, or of others that leave out APPENDUID alone: they are heard as these, whatever the map
pub record IsHeard (said : List Reply) (out : List ℕ) : Type 0 where
  pub heard : List Reply
  pub heard_as : (keywords : List Keyword) → AreHeardAs keywords heard said
  pub spelled : AreReplies heard out

-- what came of an answer follows what was unread
pub record Hears (answer old new : List ℕ) : Type 0 where
  pub out : List ℕ
  pub heard : (said : List Reply) → AreReplies said answer → IsHeard said out
  pub replied : new ≡ old ++ out
