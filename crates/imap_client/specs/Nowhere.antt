-- A link of which nothing is known.
use Rattle.std.specs.Prelude.{false, []}
use Rattle.imap_session.specs.Servers.{LoggedOut}
use Rattle.imap_session.specs.Unread.{Whole}
use Rattle.imap_session.specs.Lines.{Line}

-- some line; nothing is said of it
abbrev pub no_line : Line
no_line = record {
  end = record {
    server = record { user = []; password = []; mailboxes = []; keywords = []; condition = LoggedOut; has_news = false };
    kept = Whole [];
  };
  unseen = [];
}
