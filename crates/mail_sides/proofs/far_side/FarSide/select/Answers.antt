use Rattle.std.proofs.Common.{ℕ}
use Rattle.imap_client.specs.Sessions.{state_of}
use Rattle.mail_sides.specs.FarStops.{Ends}
use Rattle.mail_sides.proofs.Endings.{ends_failed}
use Rattle.mail_sides.proofs.Joined.{handed}
use Rattle.mail_sides.proofs.far_side.FarSide.select.Goals as goal

pub returns-in_err-enter-clause-ends : goal.returns-in_err-enter-clause-ends
returns-in_err-enter-clause-ends g c =
    let old = state_of c.args.self.now.far.session in
    let new = state_of c.enter.new.self.session in
    let e = c.in_err-enter.field-0.0 in
    handed (λ r. Ends old new r) e c.from_residual.result c.from_residual.ensures.1 (ends_failed (Unit {0}) ℕ 1 old new e c.requires.ready c.enter.ensures.counts c.in_err-enter.ensures.ends)
