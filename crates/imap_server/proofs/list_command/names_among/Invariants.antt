use Rattle.std.proofs.Common.{◌≡◌, ◌+◌, length, map, filter, take}
use Rattle.mailcore.specs.MailboxPatterns.{matches}
use Rattle.imap_session.specs.Boxes.{all_of}
use Rattle.imap_server.proofs.list_command.names_among.Given as goal

abbrev pub invariant-loop-mailbox : goal.invariant-loop-mailbox
invariant-loop-mailbox l = record {
  long : length l.row ≡ length l.pattern + 1;
  so_far : map (λ n. n.now) l.names.items ≡ filter (matches l.pattern) (map (λ m. m.name) (all_of (take l.mailbox-index l.mailboxes)));
}
