-- What a server keeps of the bytes that it has read and not answered yet.
use Rattle.std.specs.Prelude.{◌≡◌, ◌≤◌, ◌⊎◌, ℕ, ◌-◌, Bool, true, false, List, [], ◌∷◌, ◌++◌, length, take, drop}
use Rattle.wire_reader.specs.Spelling.{crlf}
use Rattle.wire_reader.specs.Lexical.{outside}
use Rattle.wire_reader.specs.Answers.{Begins}
use Rattle.imap_commands.specs.Commands.{Spelled}
use Rattle.imap_replies.specs.declared.reply.Reply.{Reply}
use Rattle.imap_session.specs.Portions.{LineFault, FaultIs, goes_in}

-- All of them; or, of a line that is dropped up to its end, its fault and the last three bytes from the fault on, with
-- zeros before them where there are fewer.
pub data Kept : Type 0 where
  Whole : (bytes : List ℕ) → Kept
  Dropping : LineFault → (last : List ℕ) → Kept

abbrev pub last_three : List ℕ → List ℕ
last_three bytes = let line = 0 ∷ 0 ∷ 0 ∷ bytes in drop (length line - 3) line

-- the bytes, and at least one more, are a command
pub record Opens (unread : List ℕ) (said : List Reply) : Type 0 where
  pub begins : Begins Spelled unread
  pub fits : outside unread ≤ 65536
  pub said_is : said ≡ goes_in unread

-- no line end stands at or after this place
abbrev pub NoLineEnd : ℕ → List ℕ → Type 0
NoLineEnd at text = (a b : List ℕ) → drop at text ≡ a ++ (crlf ++ b) → ⊥

-- a fault was met at this place, and its line goes on
pub record GoesOn (fault : LineFault) (at : ℕ) (unread : List ℕ) (said : List Reply) : Type 0 where
  pub is : FaultIs fault at unread
  pub no_end : NoLineEnd at unread
  pub said_is : said ≡ goes_in (take at unread)

pub record Fails (unread : List ℕ) (said : List Reply) : Type 0 where
  pub fault : LineFault
  pub at : ℕ
  pub goes_on : GoesOn fault at unread said

pub record Drops (fault : LineFault) (last unread : List ℕ) (said : List Reply) : Type 0 where
  pub at : ℕ
  pub goes_on : GoesOn fault at unread said
  pub last_is : last ≡ last_three (drop at unread)

-- These bytes are unread, and so often `+ go` was said of them. Where the connection is over, none are.
abbrev pub Holds : (over : Bool) → Kept → (unread : List ℕ) → (said : List Reply) → Type 0
Holds true (Whole bytes) unread said = (bytes ≡ []) × (unread ≡ []) × (said ≡ [])
Holds true (Dropping fault last) unread said = ⊥
Holds false (Whole bytes) unread said = (bytes ≡ unread) × (Opens unread said ⊎ Fails unread said)
Holds false (Dropping fault last) unread said = Drops fault last unread said
