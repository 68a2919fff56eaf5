-- The words of a line: its keyword, and the arguments after it.
use Rattle.std.specs.Prelude.{ℕ, ◌≡◌, ◌==◌, nat_eq, nat_le, Bool, true, false, not, ◌&&◌, ◌||◌, List, [], ◌∷◌, ◌++◌, length, take, drop, fold, Option, Some, None, is_none, unwrap_or, option_and_then, option_to_list, encode_utf8, if◌then◌else◌}
use Rattle.std.specs.List.{list_all, position_from, starts_with}
use Rattle.config_words.specs.declared.words.LineKind.{LineKind}
use Rattle.config_words.specs.declared.words.LineKind.TheVariants.{Empty, Comment, Words}

-- spaces (32) and tabs (9) stand between words
abbrev pub is_gap : ℕ → Bool
is_gap b = b == 32 || b == 9

abbrev pub first_word : List ℕ → Option ℕ
first_word text = position_from (λ b. not (is_gap b)) 0 text

abbrev pub first_gap : List ℕ → Option ℕ
first_gap text = position_from is_gap 0 text

abbrev pub word_end : List ℕ → ℕ
word_end text = unwrap_or (first_gap text) (length text)

-- a line of spaces and tabs alone
abbrev pub is_blank : List ℕ → Bool
is_blank line = is_none (first_word line)

-- the keyword and the text after it; none where a `#` (35) begins a comment
abbrev pub cut_words : List ℕ → Option (List ℕ × List ℕ)
cut_words text = if starts_with nat_eq text (35 ∷ []) then None else Some (take (word_end text) text, drop (word_end text) text)

abbrev pub words_of : List ℕ → Option (List ℕ × List ℕ)
words_of line = option_and_then (λ start. cut_words (drop start line)) (first_word line)

abbrev pub IsLineKind : List ℕ → LineKind → Type 0
IsLineKind line Empty = is_blank line ≡ true
IsLineKind line Comment = (is_blank line ≡ false) × (words_of line ≡ None)
IsLineKind line (Words keyword arguments) = (is_blank line ≡ false) × (words_of line ≡ Some (keyword.now, arguments.now))

-- bytes that may stand in a line of words: tabs, and 32 to 126
abbrev pub is_plain : List ℕ → Bool
is_plain text = list_all (λ b. b == 9 || nat_le 32 b && nat_le b 126) text

-- ---- arguments

-- what is known after some bytes: the arguments that have ended, the one that is open, and whether a `"` or a `\` is
pub record Split : Type 0 where
  pub list : List (List ℕ)
  pub argument : Option (List ℕ)
  pub quoted : Bool
  pub escaped : Bool

abbrev pub no_split : Split
no_split = record { list = []; argument = None; quoted = false; escaped = false }

-- a byte counts as the character of its number; a line with one above 127 is refused in any case
abbrev pub added : Split → ℕ → Split
added s b = record { list = s.list; argument = Some (unwrap_or s.argument [] ++ encode_utf8 b); quoted = s.quoted; escaped = s.escaped }

abbrev pub ended : Split → Split
ended s = record { list = s.list ++ option_to_list s.argument; argument = None; quoted = s.quoted; escaped = s.escaped }

abbrev pub with_escape : Split → Bool → Split
with_escape s b = record { list = s.list; argument = s.argument; quoted = s.quoted; escaped = b }

abbrev pub turned : Split → Split
turned s = record { list = s.list; argument = Some (unwrap_or s.argument []); quoted = not s.quoted; escaped = s.escaped }

-- after a byte with no `\` before it
abbrev pub split_plainly : Split → ℕ → Split
split_plainly s b =
    if b == 92 then with_escape s true
    else (if b == 34 then turned s
    else (if is_gap b && not s.quoted then ended s else added s b))

-- `\"` (92, 34) and `\\` are a quote and a backslash; before another byte a backslash stands for itself
abbrev pub split_on : Split → ℕ → Split
split_on s b =
    if s.escaped then (if b == 34 || b == 92 then added (with_escape s false) b else split_plainly (added (with_escape s false) 92) b)
    else split_plainly s b

abbrev pub split_end : Split → Split
split_end s = ended (if s.escaped then added s 92 else s)

-- the arguments of a line, and whether the last quote is left open
abbrev pub arguments_of : List ℕ → Split
arguments_of text = split_end (fold split_on no_split text)
