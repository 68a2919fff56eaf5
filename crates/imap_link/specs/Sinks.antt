-- What is given replies as they are heard.
use Rattle.std.specs.Prelude.{◌++◌, ◌∷◌, [], List, filter}
use Rattle.imap_replies.specs.declared.reply.Reply.{Reply}
use Rattle.imap_link.specs.UsedReplies.{messages_read, is_used}

-- those of the replies that are about messages, `+` and tagged ones
abbrev pub reporting : List Reply → List Reply
reporting replies = filter (is_used messages_read) replies

-- one reply more was given: what was given before it, and then the reply
abbrev pub TakesReply : {S : Type 0} → (took : S → List Reply → S → Type 0) → Reply → (old new : S) → Type 0
TakesReply {S} took reply old new = (first : S) (reported : List Reply) → took first reported old → took first (reported ++ reporting (reply ∷ [])) new

-- nothing is said of them
abbrev pub any_replies : List Reply → Type 0
any_replies replies = Unit {0}
