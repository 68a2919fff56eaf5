-- Atoms that are decided by what they are, once they have ended: the word or the number after `* ` (RFC 9051, section 9:
-- response-data, message-data), the event after a number, and the word of a response code (resp-text-code).
use Rattle.std.specs.Prelude.{◌≡◌, ◌<◌, ℕ, Bool, ◌&&◌, ◌||◌, not, List, [], ◌∷◌, ◌++◌, length, Option, None, Some, Result, Ok, Err, nat_lt, ◌==◌, if◌then◌else◌}
use Rattle.std.specs.List.{list_all}
use Rattle.wire_reader.specs.declared.stop.Kind.{Kind}
use Rattle.wire_reader.specs.declared.stop.Kind.TheVariants.{Syntax}
use Rattle.wire_reader.specs.declared.stop.Stop.{Stop}
use Rattle.wire_reader.specs.Spelling.{is_digit, Word}
use Rattle.wire_reader.specs.Machine.{run, text_go}
use Rattle.wire_tokens.specs.Atoms.{is_atom_byte}
use Rattle.wire_tokens.specs.Numbers.{NumberText, number_at}
use Rattle.imap_replies.specs.declared.word.ReplyWord.{ReplyWord}
use Rattle.imap_replies.specs.declared.word.EventWord.{EventWord}
use Rattle.imap_replies.specs.declared.word.EventWord.TheVariants as words
use Rattle.imap_replies.specs.declared.head.Head.{Head}
use Rattle.imap_replies.specs.declared.head.Head.TheVariants as heads
use Rattle.imap_replies.specs.declared.event.Event.{Event}
use Rattle.imap_replies.specs.declared.event.Event.TheVariants as events
use Rattle.imap_replies.specs.declared.word.CodeWord.{CodeWord}
use Rattle.imap_replies.specs.declared.code_head.CodeHead.{CodeHead}
use Rattle.imap_replies.specs.declared.code_head.CodeHead.TheVariants as code_heads
use Rattle.imap_replies.specs.Others.{IsOtherWord, IsOtherEvent, IsOtherCode}
use Rattle.imap_replies.specs.Words.{reply_word, event_word, code_word, find_reply_word, find_event_word, find_code_word}

-- ---- what they are

-- after `* `
abbrev pub HeadText : Head → List ℕ → Type 0
HeadText (heads.Number n) text = NumberText n text
HeadText (heads.Known word) text = Word (reply_word word) text
HeadText (heads.Other a) text = (text ≡ a) × IsOtherWord a

-- after the number n: no message has the number 0
abbrev pub EventText : ℕ → Event → List ℕ → Type 0
EventText n events.Exists text = Word (event_word words.Exists) text
EventText n (events.Expunge m) text = (m ≡ n) × (0 < n) × Word (event_word words.Expunge) text
EventText n (events.Fetch m) text = (m ≡ n) × (0 < n) × Word (event_word words.Fetch) text
EventText n (events.Other a) text = (text ≡ a) × IsOtherEvent a

-- after `[`
abbrev pub CodeHeadText : CodeHead → List ℕ → Type 0
CodeHeadText (code_heads.Known word) text = Word (code_word word) text
CodeHeadText (code_heads.Other a) text = (text ≡ a) × IsOtherCode a

-- ---- how they are read: the bytes so far, and at the end what they are

-- 255 digits are neither a number nor another atom, so that the last of them is refused
abbrev pub head_fits : List ℕ → Bool
head_fits text = nat_lt (length text) 255 || (length text == 255 && not (list_all is_digit text))

abbrev pub head_go : List ℕ → ℕ → Result (List ℕ) Kind
head_go acc b = if head_fits (acc ++ b ∷ []) then Ok (acc ++ b ∷ []) else Err Syntax

abbrev pub is_digits : List ℕ → Bool
is_digits text = nat_lt (length text) 255 && list_all is_digit text

abbrev pub number_read : Result (ℕ × List ℕ) Stop → Option Head
number_read (Ok x) = Some (heads.Number x.0)
number_read (Err s) = None

abbrev pub word_head : List ℕ → Option ReplyWord → Head
word_head text None = heads.Other text
word_head text (Some word) = heads.Known word

-- digits alone are read with a space after them; they may be no number
abbrev pub head_of : List ℕ → Option Head
head_of [] = None
head_of (b ∷ bs) = if is_digits (b ∷ bs) then number_read (number_at ((b ∷ bs) ++ 32 ∷ [])) else Some (word_head (b ∷ bs) (find_reply_word (b ∷ bs)))

abbrev pub head_at : List ℕ → Result (Head × List ℕ) Stop
head_at = run is_atom_byte head_go head_of []

abbrev pub with_message : ℕ → (ℕ → Event) → Option Event
with_message n event = if nat_lt 0 n then Some (event n) else None

abbrev pub event_by : ℕ → List ℕ → Option EventWord → Option Event
event_by n text None = Some (events.Other text)
event_by n text (Some words.Exists) = Some events.Exists
event_by n text (Some words.Expunge) = with_message n (λ m. events.Expunge m)
event_by n text (Some words.Fetch) = with_message n (λ m. events.Fetch m)

abbrev pub event_of : ℕ → List ℕ → Option Event
event_of n [] = None
event_of n (b ∷ bs) = event_by n (b ∷ bs) (find_event_word (b ∷ bs))

abbrev pub event_at : ℕ → List ℕ → Result (Event × List ℕ) Stop
event_at n = run is_atom_byte (text_go 255) (event_of n) []

abbrev pub code_by : List ℕ → Option CodeWord → CodeHead
code_by text None = code_heads.Other text
code_by text (Some word) = code_heads.Known word

abbrev pub code_of : List ℕ → Option CodeHead
code_of [] = None
code_of (b ∷ bs) = Some (code_by (b ∷ bs) (find_code_word (b ∷ bs)))

abbrev pub code_head_at : List ℕ → Result (CodeHead × List ℕ) Stop
code_head_at = run is_atom_byte (text_go 255) code_of []
