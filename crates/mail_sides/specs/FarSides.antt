-- The far mailbox of a run as the clauses of its calls name it.
use Rattle.std.specs.Prelude.{◌≡◌, ◌⊎◌, ℕ, false, List, Option, None, Some, if◌then◌else◌}
use Rattle.mailcore.specs.declared.keywords.Keyword.{Keyword}
use Rattle.imap_session.specs.Servers.{Server}
use Rattle.imap_link.specs.declared.link.Link as link
use Rattle.imap_client.specs.declared.far_box.FarBox.{FarBox}
use Rattle.imap_client.specs.Logins.{is_known}
use Rattle.imap_client.specs.Sessions.{server_of}
use Rattle.outside.specs.declared.box_fault.BoxFault.{BoxFault}
use Rattle.outside.specs.declared.box_fault.BoxFault.TheVariants.{Stopped, Refused, Own, NoMemory}
use Rattle.outside.specs.MailboxCalls.{Seen}
use Rattle.mail_sides.specs.declared.far_side.FarSide.{FarSide}
use Rattle.mail_sides.specs.declared.stage.Stage.{Stage}
use Rattle.mail_sides.specs.declared.stage.Stage.TheVariants.{Closed}
use Rattle.mail_sides.specs.Chosen.{IsMissing, box_at}
use Rattle.mail_sides.specs.Stages.{is_broken_at}

module _ {L : Type 0} {links : link.Ghosts L} where
  abbrev pub seen_at : Stage → List Keyword → (name : List ℕ) → FarBox L links → Seen
  seen_at stage keywords name far = record {
    stored = box_at keywords name (server_of far.session);
    is_broken = is_broken_at stage far.is_selected far.session.is_ready;
    stops = links.stops far.session.wire.link;
  }

  abbrev pub seen_of : FarSide L links → Seen
  seen_of side = seen_at side.stage side.far.keywords side.account.mailbox.items side.far

  -- the link has behaved as specified
  abbrev pub honest_of : FarSide L links → Type 0
  honest_of side = links.honest side.far.session.wire.link

  -- the server at the other end of the link
  abbrev pub server_at : FarSide L links → Server
  server_at side = server_of side.far.session

  -- the UIDNEXT that was reported when the mailbox was selected, as long as no command was sent since
  abbrev pub next_of : FarSide L links → Option ℕ
  next_of side = if side.is_fresh then Some side.far.next else None

  -- no other fault comes from a server that behaves as specified
  abbrev pub Unfit : FarSide L links → BoxFault → Type 0
  Unfit side Stopped = ⊥
  Unfit side Refused =
      ((side.stage ≡ Closed) × (is_known side.account.user.items side.account.password.items (server_at side) ≡ false))
      ⊎ IsMissing side.account.mailbox.items (server_at side)
  Unfit side (Own number) = ⊥
  Unfit side NoMemory = ⊥
