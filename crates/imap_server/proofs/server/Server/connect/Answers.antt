use Rattle.std.proofs.Common.{refl, codes}
use Rattle.imap_session.specs.Lines.{greeting}
use Rattle.imap_server.proofs.HostLemmas.{replies_there}
use Rattle.imap_server.proofs.LineFeeds.{unread_none}
use Rattle.imap_server.specs.declared.unread.Unread.TheVariants as kinds
use Rattle.imap_server.proofs.server.Server.connect.Goals as goal

pub invariant_of-self : goal.invariant_of-self
invariant_of-self c = (unread_none _ (kinds.Line c.new.result) (c.new.ensures.empty, c.new.ensures.start)).0

pub returns-clause-greeting : goal.returns-clause-greeting
returns-clause-greeting c = replies_there greeting _ (record {
  front = codes "* OK ready\r\n";
  back = codes "";
  parts = refl;
  first = record {
    front = codes "* ";
    back = codes "OK ready\r\n";
    parts = refl;
    first = refl;
    second = record { front = codes "OK"; back = codes " ready\r\n"; parts = refl; first = refl; second = record { front = codes " "; back = codes "ready\r\n"; parts = refl; first = refl; second = (refl, record { each = refl; first = refl }) } };
  };
  second = refl;
}) refl
