-- What a server of the profile says, whatever its mailboxes are named.
use Rattle.std.specs.Prelude.{◌≡◌, ℕ, Bool, true, false, not, List, [], ◌++◌}
use Rattle.std.specs.List.{list_all}
use Rattle.mailcore.specs.Visitors.{Visitors}
use Rattle.imap_replies.specs.declared.reply.Reply.{Reply}
use Rattle.imap_replies.specs.declared.reply.Reply.TheVariants.{Continue, Tagged, Notice, Capability, Enabled, List as Listed, Flags, Exists, Expunge, Fetch, Other, OtherNumbered}
use Rattle.imap_session.specs.Heard.{AreReplies}
use Rattle.imap_session.specs.Lines.{Line, Receives, Starts}
use Rattle.imap_session.specs.Serving.{IsUnread}
use Rattle.imap_link.specs.Sending.{SendsThen}
use Rattle.link_face.specs.Hearing.{hides, is_row}

-- Such a reply is heard as it came; in place of a LIST reply whose name is another near, another is heard, or none.
abbrev pub is_said : Reply → Bool
is_said (Continue text) = true
is_said (Tagged tag status text) = true
is_said (Notice kind text) = true
is_said (Capability names) = true
is_said (Enabled names) = true
is_said (Listed attributes delimiter name) = not (hides attributes)
is_said (Flags flags) = true
is_said (Exists n) = true
is_said (Expunge n) = true
is_said (Fetch n row) = is_row row
is_said (Other word text) = false
is_said (OtherNumbered n event text) = false

abbrev pub AreSaid : List Reply → Type 0
AreSaid replies = list_all is_said replies ≡ true

-- such replies, one after another
pub record IsSpeech (bytes : List ℕ) : Type 0 where
  pub replies : List Reply
  pub said : AreSaid replies
  pub spelled : AreReplies replies bytes

-- an open connection: such replies came and are not handed out, or have not come; and at the server's end some bytes, or none, are unread
pub record Speaks (came : List ℕ) (line : Line) : Type 0 where
  pub speech : IsSpeech (came ++ line.unseen)
  pub unread : List ℕ
  pub said : List Reply
  pub is : IsUnread line.end unread said

-- Over a connection to an honest server nothing else comes: not at its begin, whatever is sent, and whatever came.
pub record HonestSpeak : Type 0 where
  pub starts : (old new : Line) → Starts old new → Speaks [] new
  pub sends : (v : Visitors) (came bytes : List ℕ) (old new : Line) → SendsThen v bytes old new → Speaks came old → Speaks came new
  pub receives : (came bytes : List ℕ) (old new : Line) → Receives bytes old new → Speaks came old → Speaks (came ++ bytes) new
