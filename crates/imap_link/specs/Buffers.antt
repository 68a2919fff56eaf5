-- Replies that were read, and are kept in the buffer.
use Rattle.std.specs.Prelude.{◌≡◌, ◌≤◌, ◌⊎◌, ℕ, Bool, true, false, List, [], ◌∷◌, ◌++◌, length, take, filter}
use Rattle.imap_replies.specs.declared.word.Status.{Status}
use Rattle.imap_replies.specs.declared.reply.Reply.{Reply}
use Rattle.imap_session.specs.Heard.{AreUntagged, AreReplies}
use Rattle.imap_session.specs.Lines.{Stays}
use Rattle.imap_session.specs.Ends.{Ends}
use Rattle.wire_reader.specs.Lexical.{outside}
use Rattle.imap_link.specs.Fronts.{Spells, NoneWhole, BeginsAtPlaces}
use Rattle.imap_link.specs.ReplyBuffers.{Buffer, held_in}
use Rattle.imap_link.specs.declared.kind.ReplyKind.{ReplyKind}
use Rattle.imap_link.specs.declared.kind.ReplyKind.TheVariants.{Go, Mine, Bye}
use Rattle.imap_link.specs.declared.wire.LastReply.{LastReply}
use Rattle.imap_link.specs.declared.wire.LastReply.TheVariants as states
use Rattle.imap_link.specs.declared.uses.Uses.{Uses}
use Rattle.imap_link.specs.ReplyKinds.{kind_of, IsAwaited}
use Rattle.imap_link.specs.UsedReplies.{is_used}
use Rattle.imap_link.specs.Sinks.{reporting}

-- ---- one reply

-- A reply of so many bytes was read, after those before; `Goes` says what became of its text.
pub record WholeRead (len : ℕ) (Goes : List ℕ → Type 0) (old new : List ℕ) : Type 0 where
  pub reply : Reply
  pub text : List ℕ
  pub spells : Spells reply text
  pub long : length text ≡ len
  pub read : new ≡ old ++ text
  pub goes : Goes text

-- the same, of this kind; whether the call keeps it; and T holds of it
pub record Reads (uses : Uses) (tag : List ℕ) (kind : ReplyKind) (used : Bool) (len : ℕ) (T : Reply → Type 0) (Goes : List ℕ → Type 0) (old new : List ℕ) : Type 0 where
  pub whole : WholeRead len Goes old new
  pub is : kind_of tag whole.reply ≡ kind
  pub used_is : is_used uses whole.reply ≡ used
  pub reported : T whole.reply

-- this text was heard: what is to be heard now follows it
pub record GoesOn (old new : Ends) (text : List ℕ) : Type 0 where
  pub stays : Stays old.end new.end
  pub coming : old.coming ≡ text ++ new.coming

-- more came, and what is to be heard is the same
pub record Keeps (old new : Ends) : Type 0 where
  pub stays : Stays old.end new.end
  pub coming : new.coming ≡ old.coming

-- ---- replies up to one

-- the bytes are untagged replies, and then one of which P holds
pub record EndsIn (P : Reply → Type 0) (bytes : List ℕ) : Type 0 where
  pub passed : List Reply
  pub untagged : AreUntagged passed
  pub last : Reply
  pub is : P last
  pub spelled : AreReplies (passed ++ last ∷ []) bytes

abbrev pub IsAnswerText : (tag : List ℕ) → Status → List ℕ → Type 0
IsAnswerText tag status = EndsIn (λ r. kind_of tag r ≡ Mine status)

abbrev pub IsGoText : (tag : List ℕ) → List ℕ → Type 0
IsGoText tag = EndsIn (λ r. kind_of tag r ≡ Go)

-- what was read ends in what was waited for
abbrev pub Reports : (tag read : List ℕ) → LastReply → Type 0
Reports tag read (states.Answer status) = IsAnswerText tag status read
Reports tag read states.Go = IsGoText tag read

abbrev pub IsReported : (tag : List ℕ) → LastReply → Reply → Type 0
IsReported tag (states.Answer status) reply = kind_of tag reply ≡ Mine status
IsReported tag states.Go reply = kind_of tag reply ≡ Go

-- the server has said `* BYE`
abbrev pub SaysBye : (tag read : List ℕ) → Type 0
SaysBye tag read = EndsIn (λ r. kind_of tag r ≡ Bye) read

-- nothing comes, or what is waited for
abbrev pub Expects : (tag coming : List ℕ) → Type 0
Expects tag coming = (coming ≡ []) ⊎ EndsIn (λ r. IsAwaited (kind_of tag r)) coming

-- ---- replies that the call does not keep are dropped

-- What was read is the replies that the call keeps, of those that this record names. Their whole text is not kept, and
-- `Goes` says what became of it; T holds of those that are about messages.
pub record Passed (uses : Uses) (T : List Reply → Type 0) (kept : List ℕ) (Goes : List ℕ → Type 0) : Type 0 where
  pub replies : List Reply
  pub untagged : AreUntagged replies
  pub text : List ℕ
  pub spelled : AreReplies replies text
  pub used : AreReplies (filter (is_used uses) replies) kept
  pub reported : T (reporting replies)
  pub goes : Goes text

-- the same, and then one of which P holds
pub record Came (uses : Uses) (T : List Reply → Type 0) (P : Reply → Type 0) (kept : List ℕ) (Goes : List ℕ → Type 0) : Type 0 where
  pub passed : List Reply
  pub untagged : AreUntagged passed
  pub last : Reply
  pub is : P last
  pub text : List ℕ
  pub spelled : AreReplies (passed ++ last ∷ []) text
  pub used : AreReplies (filter (is_used uses) passed ++ last ∷ []) kept
  pub reported : T (reporting (passed ++ last ∷ []))
  pub goes : Goes text

-- ---- how much is kept

-- At most one reply, begun or whole, with what came in one piece with its end: before that piece, of at most so many bytes,
-- none was whole, and at each place one was begun. So a line without an end is kept up to 65536 bytes outside its literals.
pub record OneMore (most : ℕ) (bytes : List ℕ) : Type 0 where
  pub begun : List ℕ
  pub piece : List ℕ
  pub parts : bytes ≡ begun ++ piece
  pub none : NoneWhole begun
  pub begins : BeginsAtPlaces begun
  pub fits : outside begun ≤ 65536
  pub short : length piece ≤ most

-- such bytes follow these
pub record Following (front : List ℕ) (most : ℕ) (bytes : List ℕ) : Type 0 where
  pub more : List ℕ
  pub parts : bytes ≡ front ++ more
  pub late : OneMore most more

abbrev pub AreRead : Uses → List Reply → Type 0
AreRead uses [] = Unit {0}
AreRead uses (reply ∷ replies) = (is_used uses reply ≡ true) × AreRead uses replies

-- What is held: replies that the call keeps, and then at most one reply more.
pub record IsBounded (uses : Uses) (most : ℕ) (heard : Buffer) : Type 0 where
  pub replies : List Reply
  pub read : AreRead uses replies
  pub kept : List ℕ
  pub spelled : AreReplies replies kept
  pub late : Following kept most (held_in heard)
