-- What stands at the front of bytes of a server.
use Rattle.std.specs.Prelude.{◌≡◌, ◌≤◌, ℕ, true, List, [], ◌∷◌, ◌++◌, length, take, Result, Ok, Err}
use Rattle.wire_reader.specs.Lexical.{outside}
use Rattle.wire_reader.specs.Answers.{Begins}
use Rattle.wire_reader.specs.Scanning.{start, scanned, is_place}
use Rattle.wire_reader.specs.declared.answer.Read.{Read}
use Rattle.wire_reader.specs.declared.answer.Read.TheVariants.{Whole, WantsLiteral, Partial}
use Rattle.wire_reader.specs.declared.answer.WireFault.{WireFault}
use Rattle.wire_reader.specs.declared.answer.WireFault.TheVariants.{Syntax, LineTooLong, LiteralTooLong, NoMemory}
use Rattle.imap_replies.specs.declared.reply.Reply.{Reply}
use Rattle.imap_replies.specs.Replies.{ReplyText}

-- the text is one of the reply, and not too long
pub record Spells (reply : Reply) (text : List ℕ) : Type 0 where
  pub spelled : ReplyText reply text
  pub fits : outside text ≤ 65536

-- the first so many bytes are a reply
pub record IsWhole (bytes : List ℕ) (len : ℕ) : Type 0 where
  pub reply : Reply
  pub within : len ≤ length bytes
  pub spells : Spells reply (take len bytes)

-- no reply that fits stands whole at their front
abbrev pub NoneWhole : List ℕ → Type 0
NoneWhole bytes = (reply : Reply) (front back : List ℕ) → ReplyText reply front → outside front ≤ 65536 → bytes ≡ front ++ back → ⊥

-- they begin a longer reply, and fit so far
pub record BeginsReply (bytes : List ℕ) : Type 0 where
  pub begins : Begins ReplyText bytes
  pub fits : outside bytes ≤ 65536

-- So does each front of theirs that ends at a place of the scanner: with a LF that is no octet of a literal, with a NUL in one, or with
-- the 65537th byte outside them. So a line that breaks the protocol is not waited for once it has ended.
abbrev pub BeginsAtPlaces : List ℕ → Type 0
BeginsAtPlaces bytes = (front back : List ℕ) (b : ℕ) → bytes ≡ front ++ b ∷ back → is_place (scanned start front) b ≡ true → BeginsReply (front ++ b ∷ [])

-- no reply that fits stands at their front, and they begin none
abbrev pub IsFaulty : List ℕ → Type 0
IsFaulty bytes = (reply : Reply) (front back more : List ℕ) → ReplyText reply front → outside front ≤ 65536 → bytes ++ more ≡ front ++ back → ⊥

-- why no reply is read at their front: they break the protocol, or memory ran out
abbrev pub IsBreach : WireFault → List ℕ → Type 0
IsBreach (Syntax at) bytes = IsFaulty bytes
IsBreach LineTooLong bytes = IsFaulty bytes
IsBreach (LiteralTooLong at) bytes = IsFaulty bytes
IsBreach NoMemory bytes = Unit {0}

-- what a look at their front returns: of a reply, its length alone
abbrev pub Looks : List ℕ → Result (Read (Unit {0})) WireFault → Type 0
Looks bytes (Ok (Whole _ len)) = IsWhole bytes len
Looks bytes (Ok (WantsLiteral n)) = ⊥
Looks bytes (Ok Partial) = NoneWhole bytes
Looks bytes (Err fault) = IsBreach fault bytes

-- where it waits for more, a reply was begun at each place
abbrev pub Begun : List ℕ → Result (Read (Unit {0})) WireFault → Type 0
Begun bytes (Ok (Whole _ len)) = Unit {0}
Begun bytes (Ok (WantsLiteral n)) = ⊥
Begun bytes (Ok Partial) = BeginsAtPlaces bytes
Begun bytes (Err fault) = Unit {0}
