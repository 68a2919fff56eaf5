-- A message is added to a mailbox (RFC 9051, section 6.3.12).
use Rattle.std.specs.Prelude.{◌≡◌, ℕ, ◌+◌, false, List, [], ◌∷◌, ◌++◌, Option, None, Some, Result, Ok, Err}
use Rattle.wire_reader.specs.Spelling.{◌⨾◌, Is, crlf}
use Rattle.wire_tokens.specs.Atoms.{TagText}
use Rattle.wire_tokens.specs.FlagLists.{FlagsText}
use Rattle.wire_tokens.specs.Numbers.{NumberText}
use Rattle.wire_strings.specs.Quotes.{QuotedText}
use Rattle.mailcore.specs.CopyPieces.{text_left}
use Rattle.mailcore.specs.KeywordNames.{IsMap, names_of}
use Rattle.mailcore.specs.Operations.{added}
use Rattle.imap_commands.specs.declared.command.Command.{Command}
use Rattle.imap_commands.specs.declared.command.Request.{Request}
use Rattle.imap_commands.specs.declared.command.Request.TheVariants as requests
use Rattle.imap_commands.specs.declared.verb.Verb.TheVariants as verbs
use Rattle.imap_commands.specs.Verbs.{word_of}
use Rattle.imap_commands.specs.Messages.{IsMessage}
use Rattle.imap_commands.specs.Requests.{space}
use Rattle.imap_session.specs.Mailboxes.{FarMailbox}
use Rattle.imap_session.specs.AppendCommand.{MayGive}
use Rattle.imap_session.specs.Portions.{goes_in}
use Rattle.imap_session.specs.Servers.{Server, Quiet}
use Rattle.imap_session.specs.Lines.{Line, reported_server}
use Rattle.imap_session.specs.Ends.{ends_of, IsAt, IsText, AsksAtEnd, is_logout}
use Rattle.imap_link.specs.declared.fault.FarFault.{FarFault}
use Rattle.imap_link.specs.UsedReplies.{answer_alone, uses_of}
use Rattle.imap_link.specs.Exchanges.{Performs}
use Rattle.imap_link.specs.Outcomes.{Outcome, Never}
use Rattle.imap_client.specs.declared.addition.Addition.{Addition}
use Rattle.imap_client.specs.Boxes.{Becomes}
use Rattle.imap_client.specs.Requests.{IsWord}

-- ---- what becomes of the selected mailbox

-- the message was added under this UID, which may be any of at least the next one, and nothing else changed
pub record AddsUnder (m : FarMailbox) (flags : ℕ) (bytes : List ℕ) (uid : ℕ) (old new : Server) : Type 0 where
  pub may : MayGive m.store uid
  pub after : Becomes (added uid flags bytes) old new

-- under some UID
pub record AddsSome (m : FarMailbox) (flags : ℕ) (bytes : List ℕ) (old new : Server) : Type 0 where
  pub uid : ℕ
  pub under : AddsUnder m flags bytes uid old new

-- the UID that was reported, if one was, is that of the message
abbrev pub IsReported : Option ℕ → (uid : ℕ) → Type 0
IsReported None uid = Unit {0}
IsReported (Some reported) uid = reported ≡ uid

pub record Adds (m : FarMailbox) (flags : ℕ) (bytes : List ℕ) (reported : Option ℕ) (old new : Server) : Type 0 where
  pub uid : ℕ
  pub under : AddsUnder m flags bytes uid old new
  pub is_reported : IsReported reported uid

-- the next UID that is known then
abbrev pub next_known : (next : ℕ) → Option ℕ → ℕ
next_known next None = next
next_known next (Some uid) = uid + 1

-- the mailbox has no UID left, and nothing changed
abbrev pub NoUidLeft : FarMailbox → Server → Server → Type 0
NoUidLeft m old new = (new ≡ old) × (m.store.next ≡ 4294967295)

-- ---- what is sent

-- flags are sent by their names
abbrev pub names_to_add : Addition → List (List ℕ)
names_to_add a = names_of a.keywords.now a.flags

abbrev pub request_to_add : Addition → Request
request_to_add a = requests.Append a.name.now (names_to_add a) (text_left a.octets)

-- what the caller owes: a name that can be quoted, of at most 1024 bytes; a map; 1 to 16777238 octets, none of them NUL
pub record CanAdd (a : Addition) : Type 0 where
  pub name : IsWord a.name.now
  pub map : IsMap a.keywords.now
  pub message : IsMessage (text_left a.octets)

-- the command up to where its message is asked for: `tag APPEND "name" (flags) {count}` and a line end
abbrev pub FrontText : (tag name : List ℕ) (flags : List (List ℕ)) (count : ℕ) → List ℕ → Type 0
FrontText tag name flags count =
    TagText tag ⨾ Is space ⨾ Is (word_of verbs.Append) ⨾ QuotedText name ⨾ Is space ⨾ FlagsText flags ⨾ Is space
    ⨾ Is (123 ∷ []) ⨾ NumberText count ⨾ Is (125 ∷ crlf)

-- ---- a command that is sent in two parts

-- the command is the front, then the server asks for its literal, and then comes the rest
pub record InTwo (tag front rest : List ℕ) (c : Command) : Type 0 where
  pub tag_is : c.tag ≡ tag
  pub stays : is_logout c.request ≡ false
  pub alone : uses_of c.request ≡ answer_alone
  pub text : IsText c (front ++ rest)
  pub some : rest ≡ [] → ⊥
  pub count : ℕ
  pub asks : AsksAtEnd front count
  pub asks_no_more : goes_in (front ++ rest) ≡ goes_in front

-- there is such a command
pub record IsInTwo (tag front rest : List ℕ) : Type 0 where
  pub command : Command
  pub is : InTwo tag front rest command

-- the front of one
pub record IsFront (tag front : List ℕ) : Type 0 where
  pub rest : List ℕ
  pub is : IsInTwo tag front rest

-- the server waits for the rest, and nothing is on the way; or the command was done or not
abbrev pub WaitsOr : {T : Type 0} → Command → (front : List ℕ) → Result T FarFault → (old new : Line) (coming : List ℕ) → Type 0
WaitsOr c front (Ok _) old new coming = Quiet (reported_server old) (reported_server new) × IsAt front (ends_of new coming)
WaitsOr c front (Err fault) old new coming = Outcome {T = Unit {0}} (λ _. Never) Never (Performs c) (Err fault) (reported_server old) (reported_server new)
