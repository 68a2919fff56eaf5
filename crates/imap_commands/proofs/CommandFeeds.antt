-- A command ends with a line end.
use Rattle.std.proofs.Common.{ℕ, List}
use Rattle.wire_reader.proofs.Feeds.{EndsFeed, crlf_feed, then_feed}
use Rattle.imap_commands.specs.declared.command.Request.{Request}
use Rattle.imap_commands.specs.declared.command.Request.TheVariants as requests
use Rattle.imap_commands.specs.declared.command.Command.{Command}
use Rattle.imap_commands.specs.Requests.{RequestText}
use Rattle.imap_commands.specs.Commands.{Spelled}

request_feed : (request : Request) (text : List ℕ) → RequestText request text → EndsFeed text
request_feed requests.Capability text h = crlf_feed text h
request_feed requests.Noop text h = crlf_feed text h
request_feed requests.Logout text h = crlf_feed text h
request_feed (requests.Login user password) text h = then_feed (then_feed (then_feed crlf_feed)) text h
request_feed (requests.Enable names) text h = then_feed crlf_feed text h
request_feed (requests.List pattern) text h = then_feed crlf_feed text h
request_feed (requests.Create mailbox) text h = then_feed crlf_feed text h
request_feed (requests.Select mailbox) text h = then_feed crlf_feed text h
request_feed (requests.Append mailbox flags message) text h = then_feed (then_feed (then_feed (then_feed (then_feed crlf_feed)))) text h
request_feed (requests.Fetch set what) text h = then_feed (then_feed (then_feed crlf_feed)) text h
request_feed (requests.Store set mode flags) text h = then_feed (then_feed (then_feed (then_feed crlf_feed))) text h
request_feed (requests.Expunge set) text h = then_feed crlf_feed text h

pub command_feed : (command : Command) (text : List ℕ) → Spelled command text → EndsFeed text
command_feed command text h = then_feed (then_feed (then_feed (request_feed command.request))) text h
