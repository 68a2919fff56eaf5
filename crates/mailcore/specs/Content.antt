-- What the bytes of a message say: its lines, its content, the copy of it under a mark, and whether it fits.
use Rattle.std.specs.Prelude.{ℕ, Bool, true, false, not, ◌&&◌, ◌||◌, ◌==◌, nat_eq, nat_le, List, [], ◌∷◌, ◌++◌, take, drop, length, filter, codes, Option, Some, None, if◌then◌else◌}
use Rattle.std.specs.List.{flat_map, list_all, starts_with, before_first}
use Rattle.std.specs.Str.{str_eq_ignore_ascii_case}
use Rattle.mailcore.specs.Mark.{is_mark}
use Rattle.mailcore.specs.declared.side.Side.{Side}
use Rattle.mailcore.specs.declared.side.Side.TheVariants.{Far, Near}
use Rattle.mailcore.specs.declared.side.LineEnd.{LineEnd}
use Rattle.mailcore.specs.declared.side.LineEnd.TheVariants.{Lf, CrLf}

abbrev pub LF : ℕ
LF = 10

abbrev pub CR : ℕ
CR = 13

-- ---- line ends

-- an LF comes next, with nothing but CRs before it
abbrev pub at_line_end : List ℕ → Bool
at_line_end [] = false
at_line_end (b ∷ bs) = b == LF || (b == CR && at_line_end bs)

-- each LF with all CRs directly before it becomes one LF
abbrev pub lf : List ℕ → List ℕ
lf [] = []
lf (b ∷ bs) = if b == CR && at_line_end bs then lf bs else b ∷ lf bs

-- the same as `crlf`, where the first argument says whether a CR stands directly before
abbrev pub crlf_after : Bool → List ℕ → List ℕ
crlf_after cr [] = []
crlf_after cr (b ∷ bs) =
    if b == LF && not cr then CR ∷ LF ∷ crlf_after false bs else b ∷ crlf_after (b == CR) bs

-- one CR goes before each LF that has none
abbrev pub crlf : List ℕ → List ℕ
crlf bs = crlf_after false bs

-- bytes whose lines end in LF, as a store with these line ends keeps them
abbrev pub with_line_ends : LineEnd → List ℕ → List ℕ
with_line_ends Lf bs = bs
with_line_ends CrLf bs = crlf bs

-- ---- lines

-- a line: its text, and whether an LF ends it
pub record TextLine : Type 0 where
  pub text : List ℕ
  pub ended : Bool

-- the byte begins the first line, or is a line without LF where there is none
abbrev pub onto_first : ℕ → List TextLine → List TextLine
onto_first b [] = record { text = b ∷ []; ended = false } ∷ []
onto_first b (line ∷ lines) = record { text = b ∷ line.text; ended = line.ended } ∷ lines

-- the lines; a last line without LF is a line
abbrev pub lines_of : List ℕ → List TextLine
lines_of [] = []
lines_of (b ∷ bs) =
    if b == LF then record { text = []; ended = true } ∷ lines_of bs else onto_first b (lines_of bs)

abbrev pub line_end_bytes : LineEnd → List ℕ
line_end_bytes Lf = LF ∷ []
line_end_bytes CrLf = CR ∷ LF ∷ []

-- a line's bytes
abbrev pub line_bytes : LineEnd → TextLine → List ℕ
line_bytes end line = if line.ended then line.text ++ line_end_bytes end else line.text

-- ---- content

abbrev pub is_empty_line : TextLine → Bool
is_empty_line line = length line.text == 0

-- the text begins with `X-TUID:`, in any case
abbrev pub is_mark_line : TextLine → Bool
is_mark_line line = str_eq_ignore_ascii_case (take 7 line.text) (codes "X-TUID:")

-- the lines before the first empty one, or all lines if none is empty
abbrev pub header : List TextLine → List TextLine
header lines = before_first is_empty_line lines

-- the lines from the first empty one on
abbrev pub after_header : List TextLine → List TextLine
after_header lines = drop (length (header lines)) lines

-- the lines without the mark lines of the header
unfoldable pub without_marks : List TextLine → List TextLine
without_marks lines = filter (λ line. not (is_mark_line line)) (header lines) ++ after_header lines

-- the lines of a message's content
abbrev pub content_lines : List ℕ → List TextLine
content_lines bs = without_marks (lines_of (lf bs))

-- what a message says, however a store ends its lines and whatever marks it bears: each line end is one LF
unfoldable pub content : List ℕ → List ℕ
content bs = flat_map (line_bytes Lf) (content_lines bs)

-- ---- copies and their marks

-- the line that begins a copy
abbrev pub mark_line : List ℕ → List ℕ
mark_line mark = codes "X-TUID: " ++ mark ++ LF ∷ []

-- what stands in a store with these line ends as the copy of a message under a mark
unfoldable pub copy_text : List ℕ → List ℕ → LineEnd → List ℕ
copy_text mark bs end = with_line_ends end (mark_line mark ++ content bs)

-- an LF or a CR LF comes next
abbrev pub begins_with_line_end : List ℕ → Bool
begins_with_line_end bs = starts_with nat_eq bs (LF ∷ []) || starts_with nat_eq bs (CR ∷ LF ∷ [])

-- the mark of a first line `X-TUID: ` and a mark, ended by LF or CR LF
unfoldable pub mark_of : List ℕ → Option (List ℕ)
mark_of bs =
    if starts_with nat_eq bs (codes "X-TUID: ") && is_mark (take 12 (drop 8 bs)) && begins_with_line_end (drop 20 bs)
    then Some (take 12 (drop 8 bs)) else None

-- ---- fitness

-- the most bytes that a message may have in a far store
abbrev pub size_limit : ℕ
size_limit = 16777216

-- a far message by its stored bytes, a near one by what a far store would get; no NUL may go there
abbrev pub fit : Side → List ℕ → Bool
fit Far bs = nat_le (length bs) size_limit
fit Near bs = list_all (λ b. not (b == 0)) bs && nat_le (length (crlf (content bs))) size_limit
