use Rattle.std.proofs.Common.{refl}
use Rattle.imap_client.specs.Sessions.{server_of}
use Rattle.imap_session.proofs.Visiting.{nobody_visits}
use Rattle.mail_sides.proofs.far_side.FarSide.log_in.Goals as goal

pub returns-in-LoggedIn-clause-outcome : goal.returns-in-LoggedIn-clause-outcome
returns-in-LoggedIn-clause-outcome g c h =
    let old = server_of c.args.self.now.far.session in
    record { mid = old; visits = nobody_visits g.L.Link.visitors old; then = refl }
