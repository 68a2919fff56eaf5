-- What a session has heard: the bytes of each answer, the last one first. The replies before the tagged one are those that the command
-- keeps. Nothing is supposed of the server: the bytes stand here as they came.
use Rattle.std.specs.Prelude.{◌≡◌, ◌⊎◌, ℕ, ◌+◌, ◌&&◌, true, false, List, ◌∷◌, Some, Result, Ok, Err, is_some}
use Rattle.std.specs.List.{list_any}
use Rattle.mailcore.specs.declared.keywords.Keyword.{Keyword}
use Rattle.imap_replies.specs.declared.reply.Reply.{Reply}
use Rattle.imap_replies.specs.declared.word.Status.{Status}
use Rattle.imap_replies.specs.declared.word.Status.TheVariants as statuses
use Rattle.imap_session.specs.Heard.{AreReplies}
use Rattle.imap_link.specs.Buffers.{IsAnswerText}
use Rattle.imap_link.specs.declared.fault.FarFault.{FarFault}
use Rattle.imap_link.specs.declared.fault.FarFault.TheVariants.{Stopped, Refused, Protocol, TooLong, NoRev2, ReadOnly, NoMemory}
use Rattle.imap_answers.specs.declared.opening.Opening.{Opening}
use Rattle.imap_answers.specs.Openings.{opening_of}
use Rattle.imap_client.specs.Logins.{reports_rev2}
use Rattle.imap_client.specs.Tags.{tag_text}

-- one answer more was heard, of which P holds
pub record Hears (P : List ℕ → Type 0) (old new : List (List ℕ)) : Type 0 where
  pub bytes : List ℕ
  pub is : P bytes
  pub grows : new ≡ bytes ∷ old

-- they are an answer to the n-th command of the connection, with this status
abbrev pub Answers : (n : ℕ) → Status → List ℕ → Type 0
Answers n status = IsAnswerText (tag_text n) status

-- the same, and P holds of the replies that they spell
pub record Says (n : ℕ) (status : Status) (P : List Reply → Type 0) (bytes : List ℕ) : Type 0 where
  pub answer : Answers n status bytes
  pub said : (rs : List Reply) → AreReplies rs bytes → P rs

abbrev pub NoAnswer : List ℕ → Type 0
NoAnswer bytes = ⊥

-- ---- calls of one command

-- by which answers such a call ends in which way
pub record Meaning (T : Type 0) : Type 1 where
  pub ok : T → List ℕ → Type 0
  pub refused : List ℕ → Type 0
  pub protocol : List ℕ → Type 0
  pub no_rev2 : List ℕ → Type 0
  pub read_only : List ℕ → Type 0
  pub no_memory : List ℕ → Type 0

-- the call heard one answer, which ended it so; or it failed before it heard one
abbrev pub EndsBy : {T : Type 0} → Meaning T → Result T FarFault → (old new : List (List ℕ)) → Type 0
EndsBy m (Ok x) old new = Hears (m.ok x) old new
EndsBy m (Err Stopped) old new = new ≡ old
EndsBy m (Err Refused) old new = Hears m.refused old new
EndsBy m (Err Protocol) old new = (new ≡ old) ⊎ Hears m.protocol old new
EndsBy m (Err TooLong) old new = new ≡ old
EndsBy m (Err NoRev2) old new = Hears m.no_rev2 old new
EndsBy m (Err ReadOnly) old new = Hears m.read_only old new
EndsBy m (Err NoMemory) old new = (new ≡ old) ⊎ Hears m.no_memory old new

-- any answer, which was read last
abbrev pub of_any : (read : List ℕ) → Meaning Status
of_any read = record {
  ok = λ _ bytes. bytes ≡ read;
  refused = NoAnswer;
  protocol = NoAnswer;
  no_rev2 = NoAnswer;
  read_only = NoAnswer;
  no_memory = NoAnswer;
}

-- OK was read last; NO refuses the command, BAD breaks the protocol
abbrev pub of_command : (n : ℕ) → (read : List ℕ) → Meaning (Unit {0})
of_command n read = record {
  ok = λ _ bytes. Answers n statuses.Ok bytes × (bytes ≡ read);
  refused = Answers n statuses.No;
  protocol = Answers n statuses.Bad;
  no_rev2 = NoAnswer;
  read_only = NoAnswer;
  no_memory = NoAnswer;
}

-- ---- login

-- whether they name IMAP4rev2 among what the server can do
abbrev pub NamesRev2 : List Reply → Type 0
NamesRev2 rs = list_any reports_rev2 rs ≡ true

abbrev pub LacksRev2 : List Reply → Type 0
LacksRev2 rs = list_any reports_rev2 rs ≡ false

-- CAPABILITY
abbrev pub of_abilities : (n : ℕ) → Meaning (Unit {0})
of_abilities n = record {
  ok = λ _. Says n statuses.Ok NamesRev2;
  refused = Answers n statuses.No;
  protocol = Answers n statuses.Bad;
  no_rev2 = Says n statuses.Ok LacksRev2;
  read_only = NoAnswer;
  no_memory = Answers n statuses.Ok;
}

-- LOGIN
abbrev pub of_login : (n : ℕ) → Meaning (Unit {0})
of_login n = record {
  ok = λ _. Answers n statuses.Ok;
  refused = Answers n statuses.No;
  protocol = Answers n statuses.Bad;
  no_rev2 = NoAnswer;
  read_only = NoAnswer;
  no_memory = NoAnswer;
}

-- any other status than OK
abbrev pub Declines : (n : ℕ) → List ℕ → Type 0
Declines n bytes = Answers n statuses.No bytes ⊎ Answers n statuses.Bad bytes

-- ENABLE
abbrev pub of_enable : (n : ℕ) → Meaning (Unit {0})
of_enable n = record {
  ok = λ _. Answers n statuses.Ok;
  refused = NoAnswer;
  protocol = NoAnswer;
  no_rev2 = Declines n;
  read_only = NoAnswer;
  no_memory = NoAnswer;
}

-- the answer to CAPABILITY names IMAP4rev2, and P holds of the one to LOGIN
pub record HearsTwo (n : ℕ) (P : List ℕ → Type 0) (old new : List (List ℕ)) : Type 0 where
  pub between : List (List ℕ)
  pub named : Hears (Says (n + 1) statuses.Ok NamesRev2) old between
  pub last : Hears P between new

-- the same, LOGIN was answered with OK, and P holds of the answer to ENABLE
pub record HearsThree (n : ℕ) (P : List ℕ → Type 0) (old new : List (List ℕ)) : Type 0 where
  pub between : List (List ℕ)
  pub let_in : HearsTwo n (Answers (n + 2) statuses.Ok) old between
  pub last : Hears P between new

-- no answer was heard that ends the login, and the last is missing
pub data Unanswered (n : ℕ) (old new : List (List ℕ)) : Type 0 where
  Nothing : new ≡ old → Unanswered n old new
  Named : Hears (Says (n + 1) statuses.Ok NamesRev2) old new → Unanswered n old new
  LetIn : HearsTwo n (Answers (n + 2) statuses.Ok) old new → Unanswered n old new

-- What a login has heard after n commands of the connection, by how it ends.
abbrev pub LoginHears : (n : ℕ) → Result (Unit {0}) FarFault → (old new : List (List ℕ)) → Type 0
LoginHears n (Ok _) old new = HearsThree n (Answers (n + 3) statuses.Ok) old new
LoginHears n (Err Stopped) old new = Unanswered n old new
LoginHears n (Err Refused) old new = Hears (Answers (n + 1) statuses.No) old new ⊎ HearsTwo n (Answers (n + 2) statuses.No) old new
LoginHears n (Err Protocol) old new = Unanswered n old new ⊎ (Hears (Answers (n + 1) statuses.Bad) old new ⊎ HearsTwo n (Answers (n + 2) statuses.Bad) old new)
LoginHears n (Err TooLong) old new = Unanswered n old new
LoginHears n (Err NoRev2) old new = Hears (Says (n + 1) statuses.Ok LacksRev2) old new ⊎ HearsThree n (Declines (n + 3)) old new
LoginHears n (Err ReadOnly) old new = ⊥
LoginHears n (Err NoMemory) old new = Unanswered n old new ⊎ Hears (Answers (n + 1) statuses.Ok) old new

-- ---- SELECT

-- UIDNEXT and UIDVALIDITY are reported
abbrev pub ReportsNumbers : Opening → Type 0
ReportsNumbers o = (is_some o.next && is_some o.validity) ≡ true

abbrev pub LacksNumber : Opening → Type 0
LacksNumber o = (is_some o.next && is_some o.validity) ≡ false

-- a mailbox that can be changed, and keeps each flag that has a name
abbrev pub opened : (validity next : ℕ) → Opening
opened validity next = record { next = Some next; validity = Some validity; is_read_only = false }

abbrev pub of_select : {T : Type 0} → List Keyword → (n : ℕ) → (T → Opening) → Meaning T
of_select keywords n reported = record {
  ok = λ x. Says n statuses.Ok (λ rs. opening_of keywords rs ≡ reported x);
  refused = Answers n statuses.No;
  protocol = λ bytes. Answers n statuses.Bad bytes ⊎ Says n statuses.Ok (λ rs. LacksNumber (opening_of keywords rs)) bytes;
  no_rev2 = NoAnswer;
  read_only = Says n statuses.Ok (λ rs. ReportsNumbers (opening_of keywords rs) × ((opening_of keywords rs).is_read_only ≡ true));
  no_memory = Answers n statuses.Ok;
}
