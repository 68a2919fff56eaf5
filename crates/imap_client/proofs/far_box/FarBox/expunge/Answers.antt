use Rattle.std.proofs.Common.{◌≡◌, ℕ, true, sym, ◌∙◌, subst, refl}
use Rattle.imap_session.specs.Lines.{reported_server}
use Rattle.imap_session.specs.NamedMessages.{swept}
use Rattle.imap_client.specs.Calls.{each_one}
use Rattle.imap_client.specs.States.{EndsSo}
use Rattle.imap_client.proofs.Changed.{Became, state_of_parts, became, goes_on, sweep_keeps}
use Rattle.imap_answers.proofs.Left.{none_rest}
use Rattle.imap_client.proofs.Sweeping.{rests, none_sent, one_sent}
use Rattle.imap_client.proofs.Passing.{passes_on, passes_then, sweep_passes}
use Rattle.imap_client.proofs.Visited.{at_once, selected_then}
use Rattle.imap_client.proofs.far_box.FarBox.expunge.Goals as goal

pub returns-then-is_empty-clause-outcome : goal.returns-then-is_empty-clause-outcome
returns-then-is_empty-clause-outcome g c honest =
    let old = (reported_server (g.L.Link.line c.args.self.now.session.wire.link)) in
    at_once g.L.Link.visitors _ old old (λ m is. rests c.args.uids.now old c.rest.result (none_rest c.args.uids.now (sym c.is_empty.ensures ∙ c.if-is_empty.true)) c.rest.ensures.err)

pub returns-then-is_empty-clause-ends : goal.returns-then-is_empty-clause-ends
returns-then-is_empty-clause-ends g c =
    let was = c.args.self.now.session in
    let state = state_of_parts was.is_ready was.tags (g.L.Link.stops was.wire.link) was.wire.heard.read in
    subst (λ (n : ℕ). EndsSo n state state c.rest.result) (none_sent c.args.uids.now (none_rest c.args.uids.now (sym c.is_empty.ensures ∙ c.if-is_empty.true))) c.rest.ensures.ends

pub returns-else-is_empty-clause-outcome : goal.returns-else-is_empty-clause-outcome
returns-else-is_empty-clause-outcome g c honest =
    let a = c.change.ensures.outcome honest in
    record { mid = a.mid; visits = a.visits; then = λ m is. a.then m is _ refl }

pub returns-else-is_empty-clause-ends : goal.returns-else-is_empty-clause-ends
returns-else-is_empty-clause-ends g c =
    let was = c.args.self.now.session in
    let now = c.change.new.self in
    let old = state_of_parts was.is_ready was.tags (g.L.Link.stops was.wire.link) was.wire.heard.read in
    let new = state_of_parts now.is_ready now.tags (g.L.Link.stops now.wire.link) now.wire.heard.read in
    subst (λ (n : ℕ). EndsSo n old new c.change.result) (one_sent c.args.uids.now (sym c.is_empty.ensures ∙ c.if-is_empty.false)) c.change.ensures.ends

pub invariant_of-self : goal.invariant_of-self
invariant_of-self g c =
    let it = c.args.self.now in
    let was = it.session in
    let now = c.change.new.self in
    let before = reported_server (g.L.Link.line was.wire.link) in
    let new = reported_server (g.L.Link.line now.wire.link) in
    let change = swept (each_one c.args.uids.now) in
    let done : it.is_selected ≡ true → now.is_ready ≡ true → (honest : g.L.Link.honest now.wire.link)
    → Became change it.name.items it.validity it.next (state_of_parts was.is_ready was.tags (g.L.Link.stops was.wire.link) was.wire.heard.read) (c.change.ensures.outcome honest).mid new = λ is_selected ready honest.
    let a = c.change.ensures.outcome honest in
    became (Unit {0}) change it.name.items it.validity it.next 1
    (state_of_parts was.is_ready was.tags (g.L.Link.stops was.wire.link) was.wire.heard.read) (state_of_parts now.is_ready now.tags (g.L.Link.stops now.wire.link) now.wire.heard.read)
    a.mid new c.change.result c.change.ensures.ends ready
    (λ ready_before. selected_then g.L.Link.visitors it.name.items it.validity it.next before a.mid a.visits (it.selected is_selected ready_before (c.change.ensures.was_honest honest)))
    (λ m is. a.then m is _ refl) in
    record {
      named = it.named;
      selected = λ is_selected ready honest.
          goes_on change (sweep_keeps (each_one c.args.uids.now)) it.name.items it.validity it.next _ _ new (done is_selected ready honest);
      numbers = it.numbers;
      map = it.map;
      are_passed = λ is_selected ready honest.
          let a = c.change.ensures.outcome honest in
          passes_on it.passed change (sweep_passes it.passed (each_one c.args.uids.now)) it.name.items it.validity it.next _ a.mid new (done is_selected ready honest)
          (λ ready_before. passes_then it.passed g.L.Link.visitors before a.mid a.visits (it.are_passed is_selected ready_before (c.change.ensures.was_honest honest)));
    }
