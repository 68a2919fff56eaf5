-- What bytes are that end a line.
use Rattle.std.specs.Prelude.{◌≡◌, true, false, List, ℕ}
use Rattle.imap_replies.specs.declared.reply.Reply.{Reply}
use Rattle.link_face.specs.declared.front.Front.{Front}
use Rattle.link_face.specs.declared.front.Front.TheVariants.{Heard, Listed, Begun, Other}
use Rattle.link_face.specs.Extents.{IsSaid, IsListed, NoneBegins}
use Rattle.link_face.specs.Faces.{IsSpelled}
use Rattle.link_face.specs.Hearing.{is_heard}
use Rattle.link_face.specs.Said.{is_said}

-- a reply of the profile that is heard as it came, or another one, a LIST reply, or none
abbrev pub IsKind : Reply → Front → Type 0
IsKind reply Heard = is_heard reply ≡ true
IsKind reply Listed = (is_said reply ≡ true) × (is_heard reply ≡ false)
IsKind reply Begun = ⊥
IsKind reply Other = is_said reply ≡ false

abbrev pub IsFront : List ℕ → Front → Type 0
IsFront bytes Heard = IsSpelled bytes
IsFront bytes Listed = IsListed bytes
IsFront bytes Begun = IsSaid bytes → ⊥
IsFront bytes Other = NoneBegins bytes
