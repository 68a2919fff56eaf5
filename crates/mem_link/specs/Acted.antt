-- What other clients do to one message of a mailbox of a server in memory.
use Rattle.std.specs.Prelude.{ℕ, List}
use Rattle.imap_session.specs.Servers.{Server}
use Rattle.imap_server.specs.Acts.{flagged_by_others, removed_by_others}
use Rattle.mem_link.specs.declared.acts.MessageDeed.{MessageDeed}
use Rattle.mem_link.specs.declared.acts.MessageDeed.TheVariants.{Flag, Remove}

-- the message with this UID in the mailbox of this name, and no other
abbrev pub acted : (name : List ℕ) (uid : ℕ) → MessageDeed → Server → Server
acted name uid (Flag set clear) s = flagged_by_others name uid set clear s
acted name uid Remove s = removed_by_others name uid s
