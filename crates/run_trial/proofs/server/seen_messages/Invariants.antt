use Rattle.std.proofs.Common.{◌≡◌, map, take}
use Rattle.imap_client.specs.Seen.{seen_message}
use Rattle.run_trial.proofs.server.seen_messages.Given as goal

abbrev pub invariant-loop-message : goal.invariant-loop-message
invariant-loop-message l = l.seen.items ≡ map (seen_message l.keywords) (take l.message-index l.messages)
