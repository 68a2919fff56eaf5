-- Copies of new messages, and the entries of each pair, under the UIDs and marks that the copies get.
use Rattle.std.specs.Prelude.{ℕ, List, [], ◌∷◌, Some}
use Rattle.mailcore.specs.declared.side.Side.{Side}
use Rattle.mailcore.specs.declared.side.Side.TheVariants.{Far, Near}
use Rattle.mailcore.specs.declared.side.LineEnd.{LineEnd}
use Rattle.mailcore.specs.declared.side.LineEnd.TheVariants.{Lf, CrLf}
use Rattle.mailcore.specs.declared.side.Direction.{Direction}
use Rattle.mailcore.specs.declared.side.Direction.TheVariants.{Pull, Push}
use Rattle.mailcore.specs.declared.mailbox.Message.{Message}
use Rattle.mailcore.specs.Content.{copy_text}
use Rattle.rules.specs.declared.entry.Entry.{Entry}

-- how a side's store ends its lines
abbrev pub line_end : Side → LineEnd
line_end Far = CrLf
line_end Near = Lf

-- the copy that a side gets of a message with these bytes
abbrev pub copy_of : Side → (uid flags : ℕ) → (mark bytes : List ℕ) → Message
copy_of side uid flags mark bytes = record { uid = uid; flags = flags; bytes = copy_text mark bytes (line_end side) }

-- copies of these messages, each with its source's flags, under the next of these UIDs and marks
abbrev pub copies_under : Side → (uids : List ℕ) → (marks : List (List ℕ)) → List Message → List Message
copies_under side [] marks ms = []
copies_under side (u ∷ uids) [] ms = []
copies_under side (u ∷ uids) (mark ∷ marks) [] = []
copies_under side (u ∷ uids) (mark ∷ marks) (m ∷ ms) = copy_of side u m.flags mark m.bytes ∷ copies_under side uids marks ms

-- the entry of a message and its copy
abbrev pub pair_of_copy : Direction → (uid : ℕ) → Message → Entry
pair_of_copy Pull uid m = record { far = Some m.uid; near = Some uid; flags = m.flags }
pair_of_copy Push uid m = record { far = Some uid; near = Some m.uid; flags = m.flags }

-- the entries of these messages, each with its copy under the next of these UIDs
abbrev pub pairs_under : Direction → (uids : List ℕ) → List Message → List Entry
pairs_under d [] ms = []
pairs_under d (u ∷ uids) [] = []
pairs_under d (u ∷ uids) (m ∷ ms) = pair_of_copy d u m ∷ pairs_under d uids ms
