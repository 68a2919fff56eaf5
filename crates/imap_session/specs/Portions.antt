-- What a server reads: the stream of a connection is cut into portions, each a command, or a line that is none.
use Rattle.std.specs.Prelude.{◌≡◌, ◌<◌, ◌≤◌, ◌⊎◌, ℕ, suc, true, false, List, [], ◌∷◌, ◌++◌, length, take, drop, codes, Option, None, Some}
use Rattle.wire_reader.specs.declared.side.Speaker.TheVariants.{Commands}
use Rattle.wire_reader.specs.declared.lexical.Phase.{Phase}
use Rattle.wire_reader.specs.declared.lexical.Phase.TheVariants.{Plain}
use Rattle.wire_reader.specs.Spelling.{crlf}
use Rattle.wire_reader.specs.Lexical.{next, asked, outside, passes_limit}
use Rattle.wire_reader.specs.Answers.{FaultAt, PassesLimit}
use Rattle.wire_tokens.specs.Atoms.{IsTag}
use Rattle.imap_commands.specs.declared.command.Command.{Command}
use Rattle.imap_commands.specs.Commands.{Spelled}
use Rattle.imap_replies.specs.declared.reply.Reply.{Reply}
use Rattle.imap_session.specs.Answering.{go}

-- why a line is no command: its syntax, with its tag where one and a space stand before the fault; or a literal that is
-- too long, in a line of this tag
pub data LineFault : Type 0 where
  Syntax : Option (List ℕ) → LineFault
  LiteralTooLong : List ℕ → LineFault

-- a command; a line that is none; what the connection ends at; and what is sent after its end
pub data Item : Type 0 where
  Asks : Command → Item
  Faulty : LineFault → Item
  Ends : Item
  Late : Item

-- ---- `+ go`, once for each literal `{n}` that is waited for (RFC 9051, section 7.6)

abbrev pub once : Option ℕ → List Reply
once None = []
once (Some n) = go ∷ []

abbrev pub goes_from : Phase → List ℕ → List Reply
goes_from p [] = []
goes_from p (b ∷ bs) = once (asked Commands p b) ++ goes_from (next p b) bs

abbrev pub goes_in : (text : List ℕ) → List Reply
goes_in text = goes_from Plain text

-- ---- lines that are no command

-- the bytes before the fault begin with a tag and a space, or do not
pub record Tagged (front tag : List ℕ) : Type 0 where
  pub is_tag : IsTag tag
  pub more : List ℕ
  pub parts : front ≡ tag ++ 32 ∷ more

abbrev pub TagIs : (front : List ℕ) → Option (List ℕ) → Type 0
TagIs front None = (tag : List ℕ) → Tagged front tag → ⊥
TagIs front (Some tag) = Tagged front tag

-- a byte at which no command goes on, for another reason than a literal's length
pub record SyntaxAt (at : ℕ) (text : List ℕ) : Type 0 where
  pub fault : FaultAt Spelled text at
  pub fits : outside (take (suc at) text) ≤ 65536
  pub short : passes_limit Commands at text ≡ false

-- the byte puts a literal's length over its limit
pub record LiteralAt (at : ℕ) (text : List ℕ) : Type 0 where
  pub fault : FaultAt Spelled text at
  pub fits : outside (take at text) ≤ 65536
  pub long : passes_limit Commands at text ≡ true

-- the fault of the text stands at this place
abbrev pub FaultIs : LineFault → (at : ℕ) → (text : List ℕ) → Type 0
FaultIs (Syntax tag) at text = SyntaxAt at text × TagIs (take at text) tag
FaultIs (LiteralTooLong tag) at text = LiteralAt at text × TagIs (take at text) (Some tag)

-- the first line end at or after this place is the end of the text
pub record EndsLine (at : ℕ) (text : List ℕ) : Type 0 where
  pub part : List ℕ
  pub ends : drop at text ≡ part ++ crlf
  pub first : (a b : List ℕ) → drop at text ≡ a ++ (crlf ++ b) → b ≡ []

-- from its fault on, the line ends with `+}`: the octets of its literal follow, since nobody waits
pub record EndsPlus (rest : List ℕ) : Type 0 where
  pub part : List ℕ
  pub ends : rest ≡ part ++ (codes "+}" ++ crlf)

-- this is so only after a literal that is too long
abbrev pub OctetsFollow : LineFault → (rest : List ℕ) → Type 0
OctetsFollow (Syntax tag) rest = ⊥
OctetsFollow (LiteralTooLong tag) rest = EndsPlus rest

-- a line with a fault, up to its end
pub record IsFaultyLine (fault : LineFault) (text : List ℕ) (said : List Reply) : Type 0 where
  pub at : ℕ
  pub is : FaultIs fault at text
  pub ends : EndsLine at text
  pub said_is : said ≡ goes_in (take at text)

-- a line that is too long, up to its first byte that is too many
pub record IsLongLine (text : List ℕ) (said : List Reply) : Type 0 where
  pub passes : PassesLimit Commands Spelled text
  pub last : take (suc passes.at) text ≡ text
  pub said_is : said ≡ goes_in (take passes.at text)

-- a line that octets follow, which are no command
pub record LosesOctets (text : List ℕ) (said : List Reply) : Type 0 where
  pub fault : LineFault
  pub line : IsFaultyLine fault text said
  pub follow : OctetsFollow fault (drop line.at text)

-- ---- how the text of a portion is read, and how often `+ go` is said before it is whole

pub record IsCommand (command : Command) (text : List ℕ) (said : List Reply) : Type 0 where
  pub spelled : Spelled command text
  pub fits : outside text ≤ 65536
  pub said_is : said ≡ goes_in text

abbrev pub Reads : Item → (text : List ℕ) → (said : List Reply) → Type 0
Reads (Asks command) text said = IsCommand command text said
Reads (Faulty fault) text said = (line : IsFaultyLine fault text said) × (OctetsFollow fault (drop line.at text) → ⊥)
Reads Ends text said = LosesOctets text said ⊎ IsLongLine text said
Reads Late text said = (said ≡ []) × (0 < length text)
