-- A session as the clauses of its calls name it.
use Rattle.imap_session.specs.Servers.{Server}
use Rattle.imap_session.specs.Lines.{Line, reported_server}
use Rattle.imap_link.specs.declared.link.Link as link
use Rattle.imap_client.specs.declared.session.Session.{Session}
use Rattle.imap_client.specs.States.{State}

module _ {L : Type 0} {links : link.Ghosts L} where
  abbrev pub state_of : Session L links → State
  state_of s = record { is_ready = s.is_ready; tags = s.tags; stops = links.stops s.wire.link; heard = s.wire.heard.read }

  -- both ends of its connection
  abbrev pub line_of : Session L links → Line
  line_of s = links.line s.wire.link

  -- the server at the other end of its link, but for news that it has not reported yet
  abbrev pub server_of : Session L links → Server
  server_of s = reported_server (line_of s)
