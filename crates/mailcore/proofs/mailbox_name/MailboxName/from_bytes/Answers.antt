use Rattle.std.proofs.Common.{sym, ◌∙◌}
use Rattle.std.proofs.lemmas.Str.{IsUtf8-from_ascii}
use Rattle.mailcore.proofs.MailboxNameLemmas.{name_is_ascii}
use Rattle.mailcore.proofs.mailbox_name.MailboxName.from_bytes.Goals as goal

pub unreachable-requires : goal.unreachable-requires
unreachable-requires c = c.in-Err.ensures.cases.0 (IsUtf8-from_ascii c.args.name.now (name_is_ascii c.args.name.now (sym c.is_mailbox_name.ensures ∙ c.if-not-is_mailbox_name.false)))
