use Rattle.mail_stores.specs.Names.{AreServable}
use Rattle.mail_stores.proofs.names.NearNames.of.Given as goal

abbrev pub invariant-loop-name : goal.invariant-loop-name
invariant-loop-name l = AreServable l.yielded l.servable.items
