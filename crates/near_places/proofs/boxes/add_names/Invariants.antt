use Rattle.std.proofs.Common.{◌≡◌, ◌++◌, map, string_bytes}
use Rattle.std.specs.Prelude.{filter}
use Rattle.mailcore.specs.MailboxNames.{is_mailbox_name}
use Rattle.near_places.proofs.boxes.add_names.Given as goal

abbrev pub invariant-loop-text : goal.invariant-loop-text
invariant-loop-text l = l.names.items ≡ l.fn.names.items ++ filter is_mailbox_name (map string_bytes l.yielded)
