-- A link that loses nothing.
use Rattle.std.specs.Prelude.{◌≡◌, ◌<◌, ◌++◌, ℕ, true, false, List, [], None, Some}
use Rattle.imap_replies.specs.declared.reply.Reply.{Reply}
use Rattle.imap_session.specs.Unread.{Kept}
use Rattle.imap_session.specs.Serving.{Feeds}
use Rattle.imap_session.specs.Heard.{AreReplies}
use Rattle.imap_session.specs.Lines.{Line}
use Rattle.mem_link.specs.declared.schedule.Schedule.{Schedule}
use Rattle.mem_link.specs.declared.mem_link.MemLink.{MemLink}

-- it has no stops, cuts no answer, and leaves nothing out of one
pub record StopsNowhere (schedule : Schedule) : Type 0 where
  pub no_stops : schedule.stops.items ≡ []
  pub no_mutes : schedule.mutes ≡ None
  pub no_mute : schedule.is_muted ≡ false
  pub no_cut : schedule.cut ≡ None
  pub no_room : schedule.room ≡ None

-- nothing that is sent over it is lost, and nothing that the server says
pub record LosesNothing (link : MemLink) : Type 0 where
  pub schedule : StopsNowhere link.schedule
  pub piece : 0 < link.piece

-- a connection stands, at both ends
pub record IsOpen (link : MemLink) : Type 0 where
  pub here : link.is_open ≡ true
  pub kept : Kept
  pub there : link.server.connection ≡ Some kept

-- all of the bytes were read, and all that the server says to them is on the way
pub record SendsAll (bytes : List ℕ) (old new : Line) : Type 0 where
  pub said : List Reply
  pub out : List ℕ
  pub feeds : Feeds old.end bytes said new.end
  pub spelled : AreReplies said out
  pub replied : new.unseen ≡ old.unseen ++ out
