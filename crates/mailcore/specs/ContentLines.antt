-- What the iterators over a message's lines have left to give.
use Rattle.std.specs.Prelude.{ℕ, ◌&&◌, ◌==◌, List, [], ◌∷◌, if◌then◌else◌}
use Rattle.std.specs.List.{list_all}
use Rattle.mailcore.specs.declared.content_lines.ContentLine.{ContentLine}
use Rattle.mailcore.specs.declared.content_lines.LineCursor.{LineCursor}
use Rattle.mailcore.specs.declared.content_lines.ContentLines.{ContentLines}
use Rattle.mailcore.specs.Content.{CR, TextLine, lf, lines_of, without_marks}

-- a text without the CRs at its end
abbrev pub without_last_crs : List ℕ → List ℕ
without_last_crs [] = []
without_last_crs (b ∷ bs) =
    if b == CR && list_all (λ c. c == CR) bs then [] else b ∷ without_last_crs bs

-- a line without its place in the message
abbrev pub text_line : ContentLine → TextLine
text_line line = record { text = line.text.now; ended = line.ended }

-- the lines that are left
abbrev pub lines_left : LineCursor → List TextLine
lines_left it = lines_of (lf it.rest.now)

-- the lines of the content that are left
abbrev pub content_lines_left : ContentLines → List TextLine
content_lines_left it = if it.in_header then without_marks (lines_left it.lines) else lines_left it.lines
