use Rattle.std.proofs.Common.{◌≡◌, length, ap, arith}
use Rattle.imap_server.proofs.CommandLemmas.{count_fits}
use Rattle.imap_server.proofs.mailbox_commands.count_of.Goals as goal

pub overflow_cast-result : goal.overflow_cast-result
overflow_cast-result c =
    let fits = count_fits c.args.mailbox.now.messages c.args.mailbox.now.next c.requires.range.next.positive c.requires.store.rising c.requires.range.messages.uids c.requires.store.below in
    let below = c.requires.range.next.below in
    let same : length c.as_slice.result.now ≡ length c.args.mailbox.now.messages = ap length c.as_slice.ensures.all in
    omega arith

pub returns-clause-below : goal.returns-clause-below
returns-clause-below c =
    let fits = count_fits c.args.mailbox.now.messages c.args.mailbox.now.next c.requires.range.next.positive c.requires.store.rising c.requires.range.messages.uids c.requires.store.below in
    let same : length c.as_slice.result.now ≡ length c.args.mailbox.now.messages = ap length c.as_slice.ensures.all in
    omega arith
