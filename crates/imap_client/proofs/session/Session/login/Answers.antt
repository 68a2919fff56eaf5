use Rattle.std.proofs.Common.{◌≡◌, ℕ, ◌+◌, sym, ◌∙◌, ap, subst, arith, Result, Ok, Err}
use Rattle.std.proofs.lemmas.Result.{err_from_is_err_and}
use Rattle.imap_session.specs.Servers.{Condition, Server, is_before_login, is_logged_in}
use Rattle.imap_session.specs.Lines.{reported_server}
use Rattle.imap_link.specs.declared.fault.FarFault.{FarFault}
use Rattle.imap_link.specs.Outcomes.{Outcome}
use Rattle.imap_client.specs.Logins.{Authenticates, Rejects}
use Rattle.imap_client.specs.States.{EndsSo}
use Rattle.imap_client.proofs.Changed.{state_of_parts}
use Rattle.imap_client.proofs.LoggingIn.{not_yet, let_in_among, then_ends, ends_more}
use Rattle.imap_client.proofs.Transcribed.{first_fails, second_fails, third_ends}
use Rattle.imap_client.specs.Transcripts.{EndsBy, of_login, of_enable, LoginHears}
use Rattle.imap_session.specs.Visits.{Visits}
use Rattle.imap_session.proofs.Visiting.{visits_follow}
use Rattle.imap_client.proofs.Visited.{earlier}
use Rattle.imap_client.proofs.session.Session.login.Goals as goal

pub returns-in_err-ask_abilities-clause-heard : goal.returns-in_err-ask_abilities-clause-heard
returns-in_err-ask_abilities-clause-heard g c =
    let p = err_from_is_err_and c.from_residual.result c.from_residual.ensures.1 in
    let n = c.args.self.now.tags in
    let old = c.args.self.now.transcript in
    let new = c.ask_abilities.new.self.transcript in
    subst (λ (r : Result (Unit {0}) FarFault). LoginHears n r old new) (sym (p.1 ∙ ap Err p.2)) (first_fails n old c.in_err-ask_abilities.field-0.0 new c.in_err-ask_abilities.ensures.heard)

pub returns-in_err-authenticate-clause-heard : goal.returns-in_err-authenticate-clause-heard
returns-in_err-authenticate-clause-heard g c =
    let p = err_from_is_err_and c.from_residual-in_err-authenticate.result c.from_residual-in_err-authenticate.ensures.1 in
    let n = c.args.self.now.tags in
    let f = c.in_err-authenticate.field-0.0 in
    let old = c.args.self.now.transcript in
    let mid = c.ask_abilities.new.self.transcript in
    let new = c.authenticate.new.self.transcript in
    let first : c.ask_abilities.new.self.tags ≡ n + 1 = c.in_ok-ask_abilities.ensures.ends.tags in
    let at : c.ask_abilities.new.self.tags + 1 ≡ n + 2 = omega (arith, first) in
    let second = subst (λ (k : ℕ). EndsBy (of_login k) (Err f) mid new) at c.in_err-authenticate.ensures.heard in
    subst (λ (r : Result (Unit {0}) FarFault). LoginHears n r old new) (sym (p.1 ∙ ap Err p.2)) (second_fails n old mid c.in_ok-ask_abilities.ensures.heard f new second)

pub returns-clause-heard : goal.returns-clause-heard
returns-clause-heard g c =
    let n = c.args.self.now.tags in
    let mid = c.ask_abilities.new.self.transcript in
    let late = c.authenticate.new.self.transcript in
    let new = c.enable.new.self.transcript in
    let first : c.ask_abilities.new.self.tags ≡ n + 1 = c.in_ok-ask_abilities.ensures.ends.tags in
    let next : c.authenticate.new.self.tags ≡ c.ask_abilities.new.self.tags + 1 = c.in_ok-authenticate.ensures.ends.tags in
    let at : c.ask_abilities.new.self.tags + 1 ≡ n + 2 = omega (arith, first) in
    let at_last : c.authenticate.new.self.tags + 1 ≡ n + 3 = omega (arith, first, next) in
    let second = subst (λ (k : ℕ). EndsBy {T = Unit {0}} (of_login k) (Ok tt) mid late) at c.in_ok-authenticate.ensures.heard in
    let third = subst (λ (k : ℕ). EndsBy (of_enable k) c.enable.result late new) at_last c.enable.ensures.heard in
    third_ends n c.args.self.now.transcript mid c.in_ok-ask_abilities.ensures.heard late second c.enable.result new third

pub returns-in_err-ask_abilities-clause-outcome : goal.returns-in_err-ask_abilities-clause-outcome
returns-in_err-ask_abilities-clause-outcome g c honest before =
    let a = c.in_err-ask_abilities.ensures.outcome honest in
    record {
      mid = a.mid;
      visits = a.visits;
      then =
          let p = err_from_is_err_and c.from_residual.result c.from_residual.ensures.1 in
          let f = c.in_err-ask_abilities.field-0.0 in
          let user = c.args.user.now in
          let password = c.args.password.now in
          let old = a.mid in
          let new = (reported_server (g.L.Link.line c.ask_abilities.new.self.wire.link)) in
          subst (λ (r : Result (Unit {0}) FarFault). Outcome (λ x. Authenticates user password) (Rejects user password) (Authenticates user password) r old new) (sym (p.1 ∙ ap Err p.2))
          (not_yet user password f old new a.then);
    }

pub returns-in_err-ask_abilities-clause-ends : goal.returns-in_err-ask_abilities-clause-ends
returns-in_err-ask_abilities-clause-ends g c =
    let p = err_from_is_err_and c.from_residual.result c.from_residual.ensures.1 in
    let f = c.in_err-ask_abilities.field-0.0 in
    let was = c.args.self.now in
    let now = c.ask_abilities.new.self in
    let old = state_of_parts was.is_ready was.tags (g.L.Link.stops was.wire.link) was.wire.heard.read in
    let new = state_of_parts now.is_ready now.tags (g.L.Link.stops now.wire.link) now.wire.heard.read in
    subst (λ (r : Result (Unit {0}) FarFault). EndsSo 3 old new r) (sym (p.1 ∙ ap Err p.2)) (ends_more (Unit {0}) (Unit {0}) 1 3 old new f (omega arith) c.in_err-ask_abilities.ensures.ends)

pub returns-in_err-authenticate-clause-outcome : goal.returns-in_err-authenticate-clause-outcome
returns-in_err-authenticate-clause-outcome g c honest before =
    let p = err_from_is_err_and c.from_residual-in_err-authenticate.result c.from_residual-in_err-authenticate.ensures.1 in
    let f = c.in_err-authenticate.field-0.0 in
    let user = c.args.user.now in
    let password = c.args.password.now in
    let old = (reported_server (g.L.Link.line c.args.self.now.wire.link)) in
    let new = (reported_server (g.L.Link.line c.authenticate.new.self.wire.link)) in
    let first = c.in_ok-ask_abilities.ensures.outcome (c.in_err-authenticate.ensures.was_honest honest) in
    let still = ap (λ (s : Server). is_before_login s.condition) first.then ∙ ap (λ (c : Condition). is_before_login c) first.visits.condition ∙ before in
    let a = c.in_err-authenticate.ensures.outcome honest still in
    record {
      mid = a.mid;
      visits = visits_follow g.L.Link.visitors old first.mid a.mid first.visits (subst (λ (s : Server). Visits g.L.Link.visitors s a.mid) first.then a.visits);
      then = subst (λ (r : Result (Unit {0}) FarFault). Outcome (λ x. Authenticates user password) (Rejects user password) (Authenticates user password) r a.mid new) (sym (p.1 ∙ ap Err p.2)) a.then;
    }

pub returns-in_err-authenticate-clause-ends : goal.returns-in_err-authenticate-clause-ends
returns-in_err-authenticate-clause-ends g c =
    let p = err_from_is_err_and c.from_residual-in_err-authenticate.result c.from_residual-in_err-authenticate.ensures.1 in
    let f = c.in_err-authenticate.field-0.0 in
    let was = c.args.self.now in
    let then = c.ask_abilities.new.self in
    let now = c.authenticate.new.self in
    let old = state_of_parts was.is_ready was.tags (g.L.Link.stops was.wire.link) was.wire.heard.read in
    let mid = state_of_parts then.is_ready then.tags (g.L.Link.stops then.wire.link) then.wire.heard.read in
    let new = state_of_parts now.is_ready now.tags (g.L.Link.stops now.wire.link) now.wire.heard.read in
    subst (λ (r : Result (Unit {0}) FarFault). EndsSo 3 old new r) (sym (p.1 ∙ ap Err p.2))
    (ends_more (Unit {0}) (Unit {0}) 2 3 old new f (omega arith) (then_ends (Unit {0}) 1 1 old mid new (Err f) c.in_ok-ask_abilities.ensures.ends c.in_err-authenticate.ensures.ends))

pub returns-clause-outcome : goal.returns-clause-outcome
returns-clause-outcome g c honest before =
    let user = c.args.user.now in
    let password = c.args.password.now in
    let old = (reported_server (g.L.Link.line c.args.self.now.wire.link)) in
    let late = (reported_server (g.L.Link.line c.authenticate.new.self.wire.link)) in
    let new = (reported_server (g.L.Link.line c.enable.new.self.wire.link)) in
    let was = c.enable.ensures.was_honest honest in
    let first = c.in_ok-ask_abilities.ensures.outcome (c.in_ok-authenticate.ensures.was_honest was) in
    let still = ap (λ (s : Server). is_before_login s.condition) first.then ∙ ap (λ (c : Condition). is_before_login c) first.visits.condition ∙ before in
    let known = c.in_ok-authenticate.ensures.outcome was still in
    let logged = ap (λ (s : Server). is_logged_in s.condition) known.then.1 in
    earlier g.L.Link.visitors _ old first.mid new first.visits
    (earlier g.L.Link.visitors _ first.mid known.mid new (subst (λ (s : Server). Visits g.L.Link.visitors s known.mid) first.then known.visits)
    (let_in_among user password g.L.Link.visitors c.enable.result known.mid late new known.then (c.enable.ensures.outcome honest logged)))

pub returns-clause-ends : goal.returns-clause-ends
returns-clause-ends g c =
    let was = c.args.self.now in
    let then = c.ask_abilities.new.self in
    let late = c.authenticate.new.self in
    let now = c.enable.new.self in
    let old = state_of_parts was.is_ready was.tags (g.L.Link.stops was.wire.link) was.wire.heard.read in
    let mid = state_of_parts then.is_ready then.tags (g.L.Link.stops then.wire.link) then.wire.heard.read in
    let last = state_of_parts late.is_ready late.tags (g.L.Link.stops late.wire.link) late.wire.heard.read in
    let new = state_of_parts now.is_ready now.tags (g.L.Link.stops now.wire.link) now.wire.heard.read in
    then_ends (Unit {0}) 1 2 old mid new c.enable.result c.in_ok-ask_abilities.ensures.ends (then_ends (Unit {0}) 1 1 mid last new c.enable.result c.in_ok-authenticate.ensures.ends c.enable.ensures.ends)
