-- What a server of the profile says.
use Rattle.std.specs.Prelude.{◌≡◌, true, List}
use Rattle.std.specs.List.{list_all}
use Rattle.imap_commands.specs.declared.command.Command.{Command}
use Rattle.imap_replies.specs.declared.reply.Reply.{Reply}
use Rattle.imap_session.specs.Answering.{go}
use Rattle.imap_session.specs.Lines.{greeting}
use Rattle.imap_session.specs.Portions.{LineFault}
use Rattle.imap_session.specs.Servers.{Server}
use Rattle.imap_session.specs.Serving.{ends, fault_reply}
use Rattle.imap_session.specs.Steps.{Step}
use Rattle.link_face.specs.Hearing.{is_same_near, is_heard}

-- the names of its mailboxes stand for themselves in modified UTF-7
abbrev pub NamesAreSame : Server → Type 0
NamesAreSame s = list_all (λ m. is_same_near m.name) s.mailboxes ≡ true

abbrev pub AreHeard : List Reply → Type 0
AreHeard replies = list_all is_heard replies ≡ true

-- each reply of such a server is one that a client hears as it came
pub record ProfileIsHeard : Type 0 where
  pub greeting : AreHeard greeting
  pub step : (s : Server) (command : Command) (replies : List Reply) (new : Server) → NamesAreSame s → Step s command replies new → AreHeard replies
  pub fault : (fault : LineFault) → is_heard (fault_reply fault) ≡ true
  pub go : is_heard go ≡ true
  pub end : (s : Server) → AreHeard (ends s).replies
