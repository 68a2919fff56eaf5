-- How much a server may send in answer to one command.
use Rattle.std.specs.Prelude.{◌≡◌, ◌<◌, ℕ, ◌+◌, Bool, true, false, List, [], ◌∷◌, length}
use Rattle.wire_reader.specs.Spelling.{is_digit}
use Rattle.imap_replies.specs.declared.reply.Reply.{Reply}
use Rattle.imap_replies.specs.declared.reply.Reply.TheVariants.{Continue, Tagged, Notice, Capability, Enabled, List as Listed, Flags, Exists, Expunge, Fetch, Other, OtherNumbered}
use Rattle.imap_replies.specs.Replies.{ReplyText}
use Rattle.imap_link.specs.declared.uses.Uses.{Uses}
use Rattle.imap_link.specs.UsedReplies.{is_used}
use Rattle.link_face.specs.declared.room.Room.{Room}
use Rattle.link_face.specs.Faces.{FitsLine}

-- before the first reply to a command
abbrev pub whole_room : Room
whole_room = record { names = 16777216; messages = 33685548; others = 1048576 }

-- what any call keeps
abbrev pub every_use : Uses
every_use = record { abilities = true; names = true; opening = true; messages = true }

-- how many bytes more may come of replies as this one
abbrev pub part_of : Reply → Room → ℕ
part_of (Continue text) room = room.others
part_of (Tagged tag status text) room = room.others
part_of (Notice kind text) room = room.others
part_of (Capability names) room = room.others
part_of (Enabled names) room = room.others
part_of (Listed attributes delimiter name) room = room.names
part_of (Flags flags) room = room.others
part_of (Exists n) room = room.others
part_of (Expunge n) room = room.others
part_of (Fetch n row) room = room.others
part_of (Other word text) room = room.others
part_of (OtherNumbered n event text) room = room.others

-- a number follows the star and the space, as in EXISTS and FETCH
abbrev pub is_numbered : List ℕ → Bool
is_numbered [] = false
is_numbered (star ∷ []) = false
is_numbered (star ∷ space ∷ []) = false
is_numbered (star ∷ space ∷ b ∷ rest) = is_digit b

-- A reply that a call may keep takes its bytes, if they are left. Another one takes none, and there is room for it.
abbrev pub Counts : (is_kept : Bool) (part : Room → ℕ) (len : ℕ) (old new : Room) → (has_room : Bool) → Type 0
Counts false part len old new has_room = (has_room ≡ true) × (new ≡ old)
Counts true part len old new true = part new + len ≡ part old
Counts true part len old new false = part old < len

-- these bytes, if they are a reply without a number
abbrev pub CountsReply : List ℕ → (old new : Room) → (has_room : Bool) → Type 0
CountsReply bytes old new has_room = (reply : Reply) → ReplyText reply bytes → FitsLine bytes → is_numbered bytes ≡ false
    → Counts (is_used every_use reply) (part_of reply) (length bytes) old new has_room
