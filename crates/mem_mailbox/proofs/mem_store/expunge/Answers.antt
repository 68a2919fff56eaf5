use Rattle.std.proofs.Common.{◌==◌, not, ◌&&◌, rules}
use Rattle.std.proofs.lemmas.Fn.{filter_same}
use Rattle.mailcore.specs.FlagSet.{DELETED, has}
use Rattle.mailcore.specs.declared.mailbox.Message.{Message}
use Rattle.mem_mailbox.proofs.mem_store.expunge.Goals as goal

pub returns : goal.returns
returns c = filter_same _ (λ (m : Message). not (m.uid == c.args.uid && has m.flags DELETED)) _ (λ x b q k. search rules) _ _ c.retain.ensures.filtered
