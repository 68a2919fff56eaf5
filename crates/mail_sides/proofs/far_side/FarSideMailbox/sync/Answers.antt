use Rattle.std.proofs.Common.{◌≡◌, refl}
use Rattle.mail_sides.specs.FarSides.{honest_of, seen_of}
use Rattle.mail_sides.proofs.Outcomes.{rests}
use Rattle.mail_sides.proofs.far_side.FarSideMailbox.sync.Goals as goal

pub returns-clause-call : goal.returns-clause-call
returns-clause-call g c = rests g.L.Link.visitors (honest_of c.args.self.now) (λ b b'. b' ≡ b) (seen_of c.args.self.now) c.requires.whole refl
