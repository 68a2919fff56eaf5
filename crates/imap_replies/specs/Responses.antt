-- The text of a status reply (RFC 9051, section 9: resp-text, resp-text-code).
use Rattle.std.specs.Prelude.{◌≡◌, ℕ, Bool, List, [], ◌∷◌, codes, Option, Result, ◌==◌}
use Rattle.wire_reader.specs.declared.stop.Stop.{Stop}
use Rattle.wire_reader.specs.Spelling.{◌⨾◌, Is}
use Rattle.wire_reader.specs.Reading.{seq, mapped, skip, keep, both, by_first, byte_at}
use Rattle.wire_tokens.specs.Numbers.{NzText, nz_at}
use Rattle.wire_strings.specs.Texts.{LastText, PlainLine, BracketText, last_text_at, plain_text_at, code_text_at}
use Rattle.wire_tokens.specs.FlagLists.{PermanentFlagsText, permanent_flags_at}
use Rattle.imap_replies.specs.Forms.{Form, AsRead, WordIn}
use Rattle.imap_replies.specs.declared.word.CodeWord.TheVariants as words
use Rattle.imap_replies.specs.declared.word.CodeWord.{CodeWord}
use Rattle.imap_replies.specs.declared.code_head.CodeHead.{CodeHead}
use Rattle.imap_replies.specs.declared.code_head.CodeHead.TheVariants as heads
use Rattle.imap_replies.specs.declared.response.Code.{Code}
use Rattle.imap_replies.specs.declared.response.Code.TheVariants as code
use Rattle.imap_replies.specs.declared.response.ResponseText.{ResponseText}
use Rattle.imap_replies.specs.declared.response.ResponseText.TheVariants as responses
use Rattle.imap_replies.specs.Words.{code_word}
use Rattle.imap_replies.specs.Others.{IsOtherCode}
use Rattle.imap_replies.specs.Heads.{code_head_at}
use Rattle.imap_replies.specs.Lines.{RestText, rest_at}

abbrev pub sp : List ℕ
sp = 32 ∷ []

abbrev pub OtherCodeText : List ℕ → List ℕ → Type 0
OtherCodeText a text = (text ≡ a) × IsOtherCode a

-- a code after its `[`, up to and with `]`; `F` says in which form
abbrev pub CodeIn : Form → Code → List ℕ → Type 0
CodeIn F (code.UidNext n) = WordIn F (code_word words.UidNext) ⨾ Is sp ⨾ NzText n ⨾ Is (codes "]")
CodeIn F (code.UidValidity n) = WordIn F (code_word words.UidValidity) ⨾ Is sp ⨾ NzText n ⨾ Is (codes "]")
CodeIn F (code.PermanentFlags flags) = WordIn F (code_word words.PermanentFlags) ⨾ Is sp ⨾ PermanentFlagsText flags ⨾ Is (codes "]")
CodeIn F (code.AppendUid validity uid) = WordIn F (code_word words.AppendUid) ⨾ Is sp ⨾ NzText validity ⨾ Is sp ⨾ NzText uid ⨾ Is (codes "]")
CodeIn F code.ReadOnly = WordIn F (code_word words.ReadOnly) ⨾ Is (codes "]")
CodeIn F code.ReadWrite = WordIn F (code_word words.ReadWrite) ⨾ Is (codes "]")
CodeIn F (code.Other a text) = OtherCodeText a ⨾ RestText (codes "]") BracketText text

-- the text of a status reply, with its line end
abbrev pub ResponseIn : Form → ResponseText → List ℕ → Type 0
ResponseIn F (responses.Plain text) = PlainLine text
ResponseIn F (responses.Coded code text) = Is (codes "[") ⨾ CodeIn F code ⨾ Is sp ⨾ LastText text

-- words in any case
abbrev pub CodeSpelling : Code → List ℕ → Type 0
CodeSpelling code text = CodeIn AsRead code text

abbrev pub ResponseLine : ResponseText → List ℕ → Type 0
ResponseLine response text = ResponseIn AsRead response text

-- ---- how they are read

abbrev pub uid_close_at : List ℕ → Result (ℕ × List ℕ) Stop
uid_close_at = keep nz_at (byte_at 93)

abbrev pub two_uids_at : List ℕ → Result ((ℕ × ℕ) × List ℕ) Stop
two_uids_at = both nz_at (skip (byte_at 32) uid_close_at)

abbrev pub permanent_close_at : List ℕ → Result (List (List ℕ) × List ℕ) Stop
permanent_close_at = keep permanent_flags_at (byte_at 93)

abbrev pub uid_next : ℕ → Code
uid_next n = code.UidNext n

abbrev pub uid_validity : ℕ → Code
uid_validity n = code.UidValidity n

abbrev pub permanent_flags : List (List ℕ) → Code
permanent_flags names = code.PermanentFlags names

abbrev pub append_uid : ℕ × ℕ → Code
append_uid p = code.AppendUid p.0 p.1

abbrev pub read_only : Unit {0} → Code
read_only _ = code.ReadOnly

abbrev pub read_write : Unit {0} → Code
read_write _ = code.ReadWrite

abbrev pub other_code : List ℕ → Option (List ℕ) → Code
other_code a text = code.Other a text

-- after the word of a code
unfoldable pub known_code_at : CodeWord → List ℕ → Result (Code × List ℕ) Stop
known_code_at words.UidNext = mapped uid_next (skip (byte_at 32) uid_close_at)
known_code_at words.UidValidity = mapped uid_validity (skip (byte_at 32) uid_close_at)
known_code_at words.PermanentFlags = mapped permanent_flags (skip (byte_at 32) permanent_close_at)
known_code_at words.AppendUid = mapped append_uid (skip (byte_at 32) two_uids_at)
known_code_at words.ReadOnly = mapped read_only (byte_at 93)
known_code_at words.ReadWrite = mapped read_write (byte_at 93)

abbrev pub code_rest_at : List ℕ → Result (Option (List ℕ) × List ℕ) Stop
code_rest_at = rest_at 93 (byte_at 93) code_text_at

abbrev pub code_tail_at : CodeHead → List ℕ → Result (Code × List ℕ) Stop
code_tail_at (heads.Known word) = known_code_at word
code_tail_at (heads.Other a) = mapped (other_code a) code_rest_at

unfoldable pub code_at : List ℕ → Result (Code × List ℕ) Stop
code_at = seq code_head_at code_tail_at

abbrev pub is_bracket : ℕ → Bool
is_bracket b = b == 91

abbrev pub coded : Code × List ℕ → ResponseText
coded p = responses.Coded p.0 p.1

abbrev pub plain : List ℕ → ResponseText
plain text = responses.Plain text

unfoldable pub coded_at : List ℕ → Result (ResponseText × List ℕ) Stop
coded_at = mapped coded (skip (byte_at 91) (both code_at (skip (byte_at 32) last_text_at)))

unfoldable pub response_at : List ℕ → Result (ResponseText × List ℕ) Stop
response_at = by_first is_bracket coded_at (mapped plain plain_text_at)
