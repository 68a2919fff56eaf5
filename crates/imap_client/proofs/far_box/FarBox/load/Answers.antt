use Rattle.std.proofs.Common.{◌≡◌, true, Some, None, Bool, Option, sym, ◌∙◌, ap, subst, Result, Err}
use Rattle.std.specs.Prelude.{if◌then◌else◌}
use Rattle.std.proofs.lemmas.Result.{err_from_is_err_and}
use Rattle.mailcore.specs.Operations.{bytes_of}
use Rattle.imap_session.specs.Lines.{reported_server}
use Rattle.imap_link.specs.declared.fault.FarFault.{FarFault}
use Rattle.imap_link.specs.Outcomes.{Outcome, Never}
use Rattle.imap_answers.specs.declared.bodies.FoundBody.{FoundBody}
use Rattle.imap_answers.specs.Bodies.{body_at, found_at}
use Rattle.imap_client.specs.Logins.{Remains}
use Rattle.imap_answers.specs.Readings.{Reports}
use Rattle.imap_client.proofs.Changed.{state_of_parts, outcome_err}
use Rattle.imap_client.specs.Boxes.{IsSelected, Passes}
use Rattle.imap_client.proofs.Passing.{stays_known}
use Rattle.imap_client.proofs.far_box.FarBox.load.Goals as goal

pub invariant_of-self : goal.invariant_of-self
invariant_of-self g c =
    let it = c.args.self.now in
    let was = it.session in
    let now = c.body.new.self in
    let before = reported_server (g.L.Link.line was.wire.link) in
    let new = reported_server (g.L.Link.line now.wire.link) in
    let known : it.is_selected ≡ true → now.is_ready ≡ true → g.L.Link.honest now.wire.link → IsSelected it.name.items it.validity it.next new × Passes it.passed new = λ is_selected ready honest.
    let a = c.body.ensures.remains honest in
    let was_honest = c.body.ensures.was_honest honest in
    stays_known g.L.Link.visitors it.name.items it.validity it.next it.passed
    (state_of_parts was.is_ready was.tags (g.L.Link.stops was.wire.link) was.wire.heard.read) (state_of_parts now.is_ready now.tags (g.L.Link.stops now.wire.link) now.wire.heard.read)
    before a.mid new ready a.visits (λ was_ready. (it.selected is_selected was_ready was_honest, it.are_passed is_selected was_ready was_honest))
    (λ m is. a.then m is) (Option FoundBody) 1 c.body.result c.body.ensures.ends in
    record {
      named = it.named;
      selected = λ is_selected ready honest. (known is_selected ready honest).0;
      numbers = it.numbers;
      map = it.map;
      are_passed = λ is_selected ready honest. (known is_selected ready honest).1;
    }

pub invariant_of-self-in-Some : goal.invariant_of-self-in-Some
invariant_of-self-in-Some g c =
    let it = c.args.self.now in
    let was = it.session in
    let now = c.body.new.self in
    let before = reported_server (g.L.Link.line was.wire.link) in
    let new = reported_server (g.L.Link.line now.wire.link) in
    let known : it.is_selected ≡ true → now.is_ready ≡ true → g.L.Link.honest now.wire.link → IsSelected it.name.items it.validity it.next new × Passes it.passed new = λ is_selected ready honest.
    let a = c.body.ensures.remains honest in
    let was_honest = c.body.ensures.was_honest honest in
    stays_known g.L.Link.visitors it.name.items it.validity it.next it.passed
    (state_of_parts was.is_ready was.tags (g.L.Link.stops was.wire.link) was.wire.heard.read) (state_of_parts now.is_ready now.tags (g.L.Link.stops now.wire.link) now.wire.heard.read)
    before a.mid new ready a.visits (λ was_ready. (it.selected is_selected was_ready was_honest, it.are_passed is_selected was_ready was_honest))
    (λ m is. a.then m is) (Option FoundBody) 1 c.body.result c.body.ensures.ends in
    record {
      named = it.named;
      selected = λ is_selected ready honest. (known is_selected ready honest).0;
      numbers = it.numbers;
      map = it.map;
      are_passed = λ is_selected ready honest. (known is_selected ready honest).1;
    }

pub invariant_of-self-in-None : goal.invariant_of-self-in-None
invariant_of-self-in-None g c =
    let it = c.args.self.now in
    let was = it.session in
    let now = c.body.new.self in
    let before = reported_server (g.L.Link.line was.wire.link) in
    let new = reported_server (g.L.Link.line now.wire.link) in
    let known : it.is_selected ≡ true → now.is_ready ≡ true → g.L.Link.honest now.wire.link → IsSelected it.name.items it.validity it.next new × Passes it.passed new = λ is_selected ready honest.
    let a = c.body.ensures.remains honest in
    let was_honest = c.body.ensures.was_honest honest in
    stays_known g.L.Link.visitors it.name.items it.validity it.next it.passed
    (state_of_parts was.is_ready was.tags (g.L.Link.stops was.wire.link) was.wire.heard.read) (state_of_parts now.is_ready now.tags (g.L.Link.stops now.wire.link) now.wire.heard.read)
    before a.mid new ready a.visits (λ was_ready. (it.selected is_selected was_ready was_honest, it.are_passed is_selected was_ready was_honest))
    (λ m is. a.then m is) (Option FoundBody) 1 c.body.result c.body.ensures.ends in
    record {
      named = it.named;
      selected = λ is_selected ready honest. (known is_selected ready honest).0;
      numbers = it.numbers;
      map = it.map;
      are_passed = λ is_selected ready honest. (known is_selected ready honest).1;
    }

pub returns-in_err-found-clause-outcome : goal.returns-in_err-found-clause-outcome
returns-in_err-found-clause-outcome g c honest =
    let p = err_from_is_err_and c.from_residual.result c.from_residual.ensures.1 in
    let f = c.in_err-found.field-0.0 in
    let read = c.body.new.self.wire.heard.read in
    let bytes = body_at c.args.self.now.body read in
    let new = (reported_server (g.L.Link.line c.body.new.self.wire.link)) in
    let a = c.in_err-found.ensures.outcome honest in
    record {
      mid = a.mid;
      visits = a.visits;
      then = λ m is store range.
          let so = λ (is_there : Bool). (if is_there then Some bytes else None) ≡ bytes_of c.args.uid m.store in
          subst (λ (r : Result Bool FarFault). Outcome (Reports so) Never Remains r a.mid new) (sym (p.1 ∙ ap Err p.2))
          (outcome_err (Option FoundBody) Bool (Reports (λ found. found_at read found ≡ bytes_of c.args.uid m.store)) (Reports so) Never Remains a.mid new f (a.then m is store range));
    }

pub returns-in-Some-clause-outcome : goal.returns-in-Some-clause-outcome
returns-in-Some-clause-outcome g c honest =
    let a = c.in_ok-found.ensures.outcome honest in
    record { mid = a.mid; visits = a.visits; then = λ m is store range. let reported = a.then m is store range in (sym (ap (found_at c.body.new.self.wire.heard.read) c.in-Some.is) ∙ reported.0, reported.1) }

pub returns-in-None-clause-outcome : goal.returns-in-None-clause-outcome
returns-in-None-clause-outcome g c honest =
    let a = c.in_ok-found.ensures.outcome honest in
    record { mid = a.mid; visits = a.visits; then = λ m is store range. let reported = a.then m is store range in (sym (ap (found_at c.body.new.self.wire.heard.read) c.in-None.is) ∙ reported.0, reported.1) }
