use Rattle.imap_client.specs.Sessions.{server_of, state_of}
use Rattle.imap_session.specs.Visits.{Among}
use Rattle.mail_sides.specs.FarStops.{Ends}
use Rattle.mail_sides.proofs.Endings.{ends_after, ends_of, ends_unmade}
use Rattle.mail_sides.proofs.Joined.{LoginEnds, before_login, connected, handed, unconnected}
use Rattle.mail_sides.proofs.entering.log_in.Goals as goal

pub returns-in_err-reconnect-clause-ends : goal.returns-in_err-reconnect-clause-ends
returns-in_err-reconnect-clause-ends g c =
    let old = state_of c.args.far.now.session in
    let new = state_of c.reconnect.new.self.session in
    let e = c.in_err-reconnect.field-0.0 in
    handed (λ r. Ends old new r) e c.from_residual.result c.from_residual.ensures.1 (ends_unmade (Unit {0}) old new e c.reconnect.ensures.counts c.in_err-reconnect.ensures.stopped)

pub returns-in_err-reconnect-clause-outcome : goal.returns-in_err-reconnect-clause-outcome
returns-in_err-reconnect-clause-outcome g c h =
    let old = server_of c.args.far.now.session in
    let new = server_of c.reconnect.new.self.session in
    let user = c.args.user.now in
    let password = c.args.password.now in
    let e = c.in_err-reconnect.field-0.0 in
    handed (λ r. Among g.L.Link.visitors (LoginEnds user password r) old new) e c.from_residual.result c.from_residual.ensures.1 (unconnected g.L.Link.visitors user password old new new e (c.in_err-reconnect.ensures.outcome h))

pub returns-clause-ends : goal.returns-clause-ends
returns-clause-ends g c =
    let old = state_of c.args.far.now.session in
    let mid = state_of c.reconnect.new.self.session in
    let new = state_of c.login.new.self.session in
    let made = c.in_ok-reconnect.ensures.ready in
    ends_after old mid new c.login.result made.same (ends_of 3 mid new c.login.result made.is_ready c.login.ensures.counts c.login.ensures.ends)

pub returns-clause-outcome : goal.returns-clause-outcome
returns-clause-outcome g c h =
    let old = server_of c.args.far.now.session in
    let mid = server_of c.reconnect.new.self.session in
    let new = server_of c.login.new.self.session in
    let user = c.args.user.now in
    let password = c.args.password.now in
    let restarted = c.in_ok-reconnect.ensures.outcome (c.login.ensures.was_honest h) in
    connected g.L.Link.visitors user password old mid new restarted c.login.result (c.login.ensures.outcome h (before_login g.L.Link.visitors user password old mid restarted))
