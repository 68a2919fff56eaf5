-- Which notices are for a channel.
use Rattle.std.specs.Prelude.{⊤, string_bytes}
use Rattle.channels.specs.Asked.{Joined}
use Rattle.channels.specs.Founds.{CouldChoose}
use Rattle.channels.specs.declared.notice.Notice.{Notice}
use Rattle.channels.specs.declared.notice.Notice.TheVariants.{Skipped, Unnamed, Alert}

-- that a mailbox is skipped is reported where the channel could choose it, anything else at once
abbrev pub IsFor : Joined → Notice → Type 0
IsFor of (Skipped store name) = CouldChoose of (string_bytes store) (string_bytes name)
IsFor of (Unnamed path) = ⊤
IsFor of (Alert store text) = ⊤
