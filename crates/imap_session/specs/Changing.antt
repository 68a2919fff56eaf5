-- What becomes of each message of a mailbox, as one walk over the messages.
use Rattle.std.specs.Prelude.{ℕ, Bool, not, if◌then◌else◌}
use Rattle.mailcore.specs.declared.mailbox.Message.{Message}
use Rattle.mailcore.specs.FlagSet.{union, minus}
use Rattle.imap_commands.specs.declared.command.StoreMode.{StoreMode}
use Rattle.imap_commands.specs.declared.command.StoreMode.TheVariants as modes
use Rattle.imap_session.specs.NamedMessages.{goes}

-- flags are set, or taken away
abbrev pub new_flags : StoreMode → (flags old : ℕ) → ℕ
new_flags modes.Add flags old = union old flags
new_flags modes.Remove flags old = minus old flags

-- those of a message that is named
abbrev pub given : (named : ℕ → Bool) → StoreMode → (flags : ℕ) → Message → Message
given named mode flags m = if named m.uid then record m { flags = new_flags mode flags m.flags } else m

-- UID EXPUNGE leaves the message
abbrev pub stays : (named : ℕ → Bool) → Message → Bool
stays named m = not (goes named m)
