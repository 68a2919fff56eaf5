-- A link that hands out to a client only replies that the client reads.
use Rattle.std.specs.Prelude.{◌≡◌, ◌≤◌, ℕ, List, ◌++◌}
use Rattle.wire_reader.specs.Lexical.{outside}
use Rattle.wire_reader.specs.declared.limit.TheConstants.{LINE_MAX}
use Rattle.imap_replies.specs.declared.reply.Reply.{Reply}
use Rattle.imap_replies.specs.Replies.{ReplyText}
use Rattle.imap_session.specs.Lines.{Line, Stays}
use Rattle.link_face.specs.declared.turning.Turn.{Turn}
use Rattle.link_face.specs.declared.turning.Turn.TheVariants.{Keep, Replace, Omit, Stop}

-- so many bytes have room in a line, octets of literals apart
abbrev pub FitsLine : List ℕ → Type 0
FitsLine bytes = outside bytes ≤ LINE_MAX

-- one reply, with room for it in a line
pub record IsSpelled (bytes : List ℕ) : Type 0 where
  pub reply : Reply
  pub spelled : ReplyText reply bytes
  pub fits : FitsLine bytes

-- what a client hears of a reply is a reply
abbrev pub Turns : (raw : List ℕ) → Turn → Type 0
Turns raw Keep = IsSpelled raw
Turns raw (Replace bytes) = IsSpelled bytes.items
Turns raw Omit = Unit {0}
Turns raw Stop = Unit {0}

-- so is what it hears instead of one
abbrev pub IsHeard : Turn → Type 0
IsHeard Keep = ⊥
IsHeard (Replace bytes) = IsSpelled bytes.items
IsHeard Omit = Unit {0}
IsHeard Stop = Unit {0}

-- both ends, where these bytes came over the link and were not handed out
abbrev pub faced : (held : List ℕ) → Line → Line
faced held line = record { end = line.end; unseen = held ++ line.unseen }

-- more came, and nothing was handed out
pub record Keeps (old new : Line) : Type 0 where
  pub stays : Stays old.end new.end
  pub unseen : new.unseen ≡ old.unseen
