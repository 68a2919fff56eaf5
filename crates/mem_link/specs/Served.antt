-- Mailboxes that a server has are mailboxes.
use Rattle.std.specs.Prelude.{List}
use Rattle.imap_session.specs.Mailboxes.{FarMailbox}
use Rattle.imap_link.specs.Soundness.{AreSound}
use Rattle.imap_server.specs.Boxes.{AreServed}

abbrev pub served_are_sound : (mailboxes : List FarMailbox) → AreServed mailboxes → AreSound mailboxes
served_are_sound mailboxes served k d within = let is = served k d within in record { store = is.store; range = is.range }
