use Rattle.std.proofs.Common.{ℕ, refl}
use Rattle.imap_client.specs.Sessions.{server_of, state_of}
use Rattle.imap_link.specs.Outcomes.{Outcome, Never}
use Rattle.imap_session.specs.Visits.{Among}
use Rattle.imap_session.proofs.Visiting.{nobody_visits}
use Rattle.mail_sides.specs.Chosen.{KeepsMailboxes, Misses, ReportsValidity}
use Rattle.mail_sides.specs.FarStops.{Ends}
use Rattle.mail_sides.proofs.Joined.{err_so, handed}
use Rattle.mail_sides.proofs.OpenCalls.{chosen_in, reached_open, ready_reached, selected_open}
use Rattle.mail_sides.proofs.Visited.{still_there}
use Rattle.mail_sides.proofs.far_side.FarSide.refresh.Goals as goal

pub returns-in_err-select-clause-ends : goal.returns-in_err-select-clause-ends
returns-in_err-select-clause-ends g c =
    let old = state_of c.args.self.now.far.session in
    let new = state_of c.select.new.self.far.session in
    handed (λ r. Ends old new r) c.in_err-select.field-0.0 c.from_residual.result c.from_residual.ensures.1 c.in_err-select.ensures.ends

pub returns-in_err-select-clause-outcome : goal.returns-in_err-select-clause-outcome
returns-in_err-select-clause-outcome g c h =
    let it = c.args.self.now in
    let name = it.account.mailbox.items in
    let old = server_of it.far.session in
    let new = server_of c.select.new.self.far.session in
    let e = c.in_err-select.field-0.0 in
    let a = c.in_err-select.ensures.outcome h in
    let selected = selected_open it.stage it.far.is_selected it.far.session.is_ready c.requires.open c.requires.whole in
    let ready = ready_reached it.stage it.far.is_selected it.far.session.is_ready (reached_open it.stage c.requires.open) c.requires.whole in
    let chosen = chosen_in name it.far it.named selected ready (c.in_err-select.ensures.was_honest h) in
    handed (λ r. Among g.L.Link.visitors (Outcome (λ _. KeepsMailboxes) Never KeepsMailboxes r) old new) e c.from_residual.result c.from_residual.ensures.1
    (record {
      mid = a.mid;
      visits = a.visits;
      then =
          err_so (Misses name) Never KeepsMailboxes a.mid a.mid new refl (λ k. k) (λ m. absurd (still_there g.L.Link.visitors name old a.mid a.visits chosen m.0))
          ℕ (Unit {0}) (ReportsValidity name) (λ _. KeepsMailboxes) e a.then;
    })

pub returns-then-self-clause-outcome : goal.returns-then-self-clause-outcome
returns-then-self-clause-outcome g c h =
    let old = server_of c.args.self.now.far.session in
    record { mid = old; visits = nobody_visits g.L.Link.visitors old; then = refl }

pub returns-clause-outcome : goal.returns-clause-outcome
returns-clause-outcome g c h =
    let a = c.in_ok-select.ensures.outcome h in
    record { mid = a.mid; visits = a.visits; then = a.then.0 }
