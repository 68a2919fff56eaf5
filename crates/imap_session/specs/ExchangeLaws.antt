-- What holds of a command that is sent to an idle connection, of its replies, and of what is left on the way, in laws that
-- functions of `src/exchanges.rt` show.
use Rattle.std.specs.Prelude.{◌≡◌, ℕ, List, [], ◌∷◌, ◌++◌}
use Rattle.imap_commands.specs.declared.command.Command.{Command}
use Rattle.imap_replies.specs.declared.reply.Reply.{Reply}
use Rattle.imap_session.specs.Servers.{Server}
use Rattle.imap_session.specs.Portions.{goes_in}
use Rattle.imap_session.specs.Heard.{IsAnswer, AreReplies}
use Rattle.imap_session.specs.Serving.{FeedsSome}
use Rattle.imap_session.specs.Lines.{Line, Sends, Starts, greeting}
use Rattle.imap_session.specs.Ends.{Ends, ends_of, IsAt, IsText, AsksAtEnd, IsGo, IsIdle, Hears, Done, MayHave, DidCommand}

-- A command, of which the server has read a front, is sent whole; replies up to a tagged one are heard. Then exactly that
-- command was done, with these replies, and nothing is on the way.
abbrev pub AnsweredIsDone : Type 0
AnsweredIsDone =
    (c : Command) (from rest tag : List ℕ) (old mid : Line) (heard : List ℕ) (new : Ends) (replies : List Reply)
    → IsText c (from ++ rest) → goes_in (from ++ rest) ≡ goes_in from → IsAt from (ends_of old heard)
    → Sends rest old mid → Hears replies (ends_of mid heard) new → IsAnswer tag replies
    → Done c replies (ends_of old heard) new

-- Where sending is stopped, the command was done or nothing was.
abbrev pub StoppedIsHalf : Type 0
StoppedIsHalf =
    (c : Command) (from rest : List ℕ) (old : Line) (new : Server) (heard : List ℕ)
    → IsText c (from ++ rest) → IsAt from (ends_of old heard) → FeedsSome old.end rest new → MayHave (DidCommand c) old.end.server new

-- Two answers in the same bytes are one, and nothing follows it.
abbrev pub AnswersAreApart : Type 0
AnswersAreApart =
    (t u : List ℕ) (rs qs : List Reply) (x y rest : List ℕ) → AreReplies rs x → AreReplies qs y → IsAnswer t rs → IsAnswer u qs
    → x ++ rest ≡ y → (rs ≡ qs) × (rest ≡ [])

-- The front of a command that ends where a literal is asked for is sent, and one reply is heard. Then it is `+ go`, and
-- the server has read the front and waits.
abbrev pub FrontIsAsked : Type 0
FrontIsAsked =
    (c : Command) (from rest : List ℕ) (n : ℕ) (old mid : Line) (heard : List ℕ) (new : Ends) (reply : Reply)
    → IsText c (from ++ rest) → (rest ≡ [] → ⊥) → AsksAtEnd from n → IsAt [] (ends_of old heard)
    → Sends from old mid → Hears (reply ∷ []) (ends_of mid heard) new → IsGo reply from new

-- `* OK ready` was heard, and nothing else is on the way
pub record IsGreeted (reply : Reply) (new : Ends) : Type 0 where
  pub reply_is : reply ∷ [] ≡ greeting
  pub idle : IsIdle new

-- A new connection is idle, once its greeting was heard.
abbrev pub NewLinesAreIdle : Type 0
NewLinesAreIdle =
    (old mid : Line) (new : Ends) (reply : Reply) → Starts old mid → Hears (reply ∷ []) (ends_of mid []) new → IsGreeted reply new
