-- LIST replies (RFC 9051, section 9: mailbox-list; in the profile no extended data follow).
use Rattle.std.specs.Prelude.{ℕ, Bool, List, codes, Option, None, Some, Result, ◌==◌}
use Rattle.wire_reader.specs.declared.side.Speaker.TheVariants.{Replies}
use Rattle.wire_reader.specs.declared.stop.Stop.{Stop}
use Rattle.wire_reader.specs.Spelling.{◌⨾◌, Is, crlf}
use Rattle.wire_reader.specs.Reading.{mapped, skip, keep, both, by_first, byte_at, crlf_at}
use Rattle.wire_reader.specs.Words.{word_at}
use Rattle.wire_strings.specs.declared.astring.AString.{AString}
use Rattle.wire_strings.specs.Delimiters.{DelimiterText, delimiter_at}
use Rattle.wire_strings.specs.Strings.{AStringText, astring_at}
use Rattle.wire_tokens.specs.FlagLists.{FlagsText, flags_at}
use Rattle.imap_replies.specs.Forms.{Form, AsRead, WordIn}

-- a quoted string of one byte, or NIL; `F` says in which form
abbrev pub MarkIn : Form → Option ℕ → List ℕ → Type 0
MarkIn F None text = WordIn F (codes "NIL") text
MarkIn F (Some c) text = DelimiterText c text

abbrev pub ListValue : Type 0
ListValue = List (List ℕ) × (Option ℕ × AString)

-- after LIST
abbrev pub ListIn : Form → List (List ℕ) → Option ℕ → AString → List ℕ → Type 0
ListIn F attributes delimiter name = Is (codes " ") ⨾ FlagsText attributes ⨾ Is (codes " ") ⨾ MarkIn F delimiter ⨾ Is (codes " ") ⨾ AStringText Replies name ⨾ Is crlf

-- words in any case
abbrev pub MarkText : Option ℕ → List ℕ → Type 0
MarkText mark text = MarkIn AsRead mark text

abbrev pub ListLine : List (List ℕ) → Option ℕ → AString → List ℕ → Type 0
ListLine attributes delimiter name text = ListIn AsRead attributes delimiter name text

-- ---- how they are read

abbrev pub is_quote : ℕ → Bool
is_quote b = b == 34

abbrev pub some_mark : ℕ → Option ℕ
some_mark b = Some b

abbrev pub no_mark : Unit {0} → Option ℕ
no_mark _ = None

unfoldable pub mark_at : List ℕ → Result (Option ℕ × List ℕ) Stop
mark_at = by_first is_quote (mapped some_mark delimiter_at) (mapped no_mark (word_at (codes "NIL")))

unfoldable pub list_at : List ℕ → Result (ListValue × List ℕ) Stop
list_at = skip (byte_at 32) (both flags_at (skip (byte_at 32) (both mark_at (skip (byte_at 32) (keep (astring_at Replies) crlf_at)))))
