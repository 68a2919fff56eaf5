use Rattle.std.proofs.Common.{[]}
use Rattle.outside.specs.MailboxOperations.{Admits}
use Rattle.mail_sides.specs.FarSides.{honest_of, seen_of}
use Rattle.mail_sides.proofs.Outcomes.{none_admitted, rests}
use Rattle.mail_sides.proofs.far_side.FarSideMailbox.admit.Goals as goal

pub returns-clause-call : goal.returns-clause-call
returns-clause-call g c = rests g.L.Link.visitors (honest_of c.args.self.now) (Admits g.L.Link.visitors.alone []) (seen_of c.args.self.now) c.requires.whole (none_admitted g.L.Link.visitors.alone (seen_of c.args.self.now).stored.store)
