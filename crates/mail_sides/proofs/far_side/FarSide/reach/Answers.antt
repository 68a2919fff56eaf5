use Rattle.std.proofs.Common.{List, ℕ, inl, refl, subst}
use Rattle.imap_client.specs.Sessions.{server_of, state_of}
use Rattle.imap_link.specs.Outcomes.{Outcome}
use Rattle.mail_sides.specs.Chosen.{KeepsMailboxes, Misses, ReportsValidity}
use Rattle.mail_sides.specs.FarStops.{Ends}
use Rattle.mail_sides.proofs.Endings.{ends_after}
use Rattle.mail_sides.proofs.Joined.{err_so, handed, reached}
use Rattle.mail_sides.proofs.Visited.{stocked, visits_between}
use Rattle.mail_sides.specs.Stages.{RefusesAll, Unopened}
use Rattle.imap_session.specs.Visits.{Among}
use Rattle.mail_sides.proofs.far_side.FarSide.reach.Goals as goal

pub returns-in_err-log_in-clause-ends : goal.returns-in_err-log_in-clause-ends
returns-in_err-log_in-clause-ends g c =
    let old = state_of c.args.self.now.far.session in
    let new = state_of c.log_in.new.self.far.session in
    handed (λ r. Ends old new r) c.in_err-log_in.field-0.0 c.from_residual.result c.from_residual.ensures.1 c.in_err-log_in.ensures.ends

pub returns-clause-ends : goal.returns-clause-ends
returns-clause-ends g c =
    let old = state_of c.args.self.now.far.session in
    let mid = state_of c.log_in.new.self.far.session in
    let new = state_of c.select.new.self.far.session in
    ends_after old mid new c.select.result c.in_ok-log_in.ensures.ends.1 c.select.ensures.ends

pub returns-in_err-log_in-clause-outcome : goal.returns-in_err-log_in-clause-outcome
returns-in_err-log_in-clause-outcome g c h =
    let it = c.args.self.now in
    let name = it.account.mailbox.items in
    let user = it.account.user.items in
    let password = it.account.password.items in
    let old = server_of it.far.session in
    let new = server_of c.log_in.new.self.far.session in
    let e = c.in_err-log_in.field-0.0 in
    let a = c.in_err-log_in.ensures.outcome h in
    handed (λ r. Among g.L.Link.visitors (Outcome (ReportsValidity name) (RefusesAll it.stage user password name) KeepsMailboxes r) old new) e c.from_residual.result c.from_residual.ensures.1
    (record {
      mid = a.mid;
      visits = a.visits;
      then =
          err_so (Unopened it.stage user password) (RefusesAll it.stage user password name) KeepsMailboxes a.mid a.mid new refl (λ k. k) (λ u. inl u) (Unit {0}) ℕ (λ _. KeepsMailboxes) (ReportsValidity name) e a.then;
    })

pub returns-clause-outcome : goal.returns-clause-outcome
returns-clause-outcome g c h =
    let it = c.args.self.now in
    let name = it.account.mailbox.items in
    let old = server_of it.far.session in
    let mid = server_of c.log_in.new.self.far.session in
    let new = server_of c.select.new.self.far.session in
    let opened = c.in_ok-log_in.ensures in
    let first = opened.outcome (c.select.ensures.was_honest h) in
    let a = subst (λ (n : List ℕ). Among g.L.Link.visitors (Outcome (ReportsValidity n) (Misses n) KeepsMailboxes c.select.result) mid new) opened.mailbox (c.select.ensures.outcome h) in
    record {
      mid = stocked g.L.Link.visitors old a.mid.mailboxes;
      visits = visits_between g.L.Link.visitors old first.mid mid a.mid first.visits first.then a.visits;
      then = reached it.stage it.account.user.items it.account.password.items name (stocked g.L.Link.visitors old a.mid.mailboxes) a.mid new refl c.select.result a.then;
    }
