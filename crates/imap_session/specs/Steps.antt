-- What the server does with a command, and what it replies.
use Rattle.std.specs.Prelude.{ℕ, List}
use Rattle.imap_commands.specs.declared.command.Command.{Command}
use Rattle.imap_commands.specs.declared.command.Request.{Request}
use Rattle.imap_commands.specs.declared.command.Request.TheVariants as requests
use Rattle.imap_replies.specs.declared.reply.Reply.{Reply}
use Rattle.imap_session.specs.Servers.{Server}
use Rattle.imap_session.specs.Answering.{Gives}
use Rattle.imap_session.specs.SessionCommands.{reports_capabilities, does_nothing, logs_out, logs_in, enables}
use Rattle.imap_session.specs.MailboxCommands.{lists, creates, selects}
use Rattle.imap_session.specs.AppendCommand.{Appends}
use Rattle.imap_session.specs.MessageCommands.{fetches, stores, expunges}

abbrev pub StepOf : Server → (tag : List ℕ) → Request → List Reply → Server → Type 0
StepOf s tag requests.Capability = Gives (reports_capabilities s tag)
StepOf s tag requests.Noop = Gives (does_nothing s tag)
StepOf s tag requests.Logout = Gives (logs_out s tag)
StepOf s tag (requests.Login user password) = Gives (logs_in s tag user password)
StepOf s tag (requests.Enable names) = Gives (enables s tag names)
StepOf s tag (requests.List pattern) = Gives (lists s tag pattern)
StepOf s tag (requests.Create name) = Gives (creates s tag name)
StepOf s tag (requests.Select name) = Gives (selects s tag name)
StepOf s tag (requests.Append name flags message) = Appends s tag name flags message
StepOf s tag (requests.Fetch set what) = Gives (fetches s tag set what)
StepOf s tag (requests.Store set mode flags) = Gives (stores s tag set mode flags)
StepOf s tag (requests.Expunge set) = Gives (expunges s tag set)

abbrev pub Step : Server → Command → List Reply → Server → Type 0
Step s command = StepOf s command.tag command.request
