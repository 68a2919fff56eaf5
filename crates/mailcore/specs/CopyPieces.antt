-- The text of a copy, piece by piece.
use Rattle.std.specs.Prelude.{ℕ, List, [], ◌∷◌, ◌++◌, codes, if◌then◌else◌}
use Rattle.std.specs.List.{flat_map}
use Rattle.mailcore.specs.Content.{TextLine, line_end_bytes}
use Rattle.mailcore.specs.ContentLines.{content_lines_left}
use Rattle.mailcore.specs.declared.side.LineEnd.{LineEnd}
use Rattle.mailcore.specs.declared.copy_pieces.CopyPieces.{CopyPieces}
use Rattle.mailcore.specs.declared.copy_pieces.DuePart.{DuePart}
use Rattle.mailcore.specs.declared.copy_pieces.DuePart.TheVariants.{Whole, Field, Mark, End, Line}

abbrev pub join : List (List ℕ) → List ℕ
join pieces = flat_map (λ piece. piece) pieces

-- a line: its text, and then its end, where it has one
abbrev pub line_pieces : LineEnd → TextLine → List (List ℕ)
line_pieces end line = if line.ended then line.text ∷ line_end_bytes end ∷ [] else line.text ∷ []

-- what comes before the next line
abbrev pub due_pieces : LineEnd → DuePart → List (List ℕ)
due_pieces end (Whole octets) = octets.now ∷ []
due_pieces end (Field mark) = codes "X-TUID: " ∷ mark.now ∷ line_end_bytes end ∷ []
due_pieces end (Mark mark) = mark.now ∷ line_end_bytes end ∷ []
due_pieces end End = line_end_bytes end ∷ []
due_pieces end Line = []

-- the pieces that are left
abbrev pub pieces_left : CopyPieces → List (List ℕ)
pieces_left it = due_pieces it.end it.due ++ flat_map (line_pieces it.end) (content_lines_left it.lines)

-- the text that is left
abbrev pub text_left : CopyPieces → List ℕ
text_left it = join (pieces_left it)
