use Rattle.mailcore.specs.KeywordNames.{kept}
use Rattle.mailcore.specs.Operations.{flags_added}
use Rattle.mailcore.specs.Mailboxes.{on_store}
use Rattle.mail_sides.proofs.NearCalls.{turns}
use Rattle.mail_sides.proofs.near_side.NearSideMailbox.add_flags.Goals as goal

pub returns-clause-call : goal.returns-clause-call
returns-clause-call g c = rw c.reported_by.ensures (turns c.args.self.now c.add_flags.new.self c.requires.open c.requires.whole
    (on_store (flags_added c.args.uid (kept c.args.self.now.near.keywords c.args.flags))) c.add_flags.result c.add_flags.ensures.ends c.add_flags.ensures.effect)
