-- The message that a far mailbox has fetched last.
use Rattle.std.specs.Prelude.{ℕ, List}
use Rattle.imap_link.specs.declared.link.Link as link
use Rattle.imap_answers.specs.Bodies.{body_at}
use Rattle.imap_client.specs.declared.far_box.FarBox.{FarBox}

module _ {L : Type 0} {links : link.Ghosts L} where
  -- its bytes, which are lent from the replies that were read
  abbrev pub body_of : FarBox L links → List ℕ
  body_of b = body_at b.body b.session.wire.heard.read
