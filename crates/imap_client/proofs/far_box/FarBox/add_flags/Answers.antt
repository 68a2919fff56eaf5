use Rattle.std.proofs.Common.{◌≡◌, ℕ, true, refl, subst}
use Rattle.imap_commands.specs.declared.command.StoreMode.TheVariants as modes
use Rattle.imap_session.specs.Lines.{reported_server}
use Rattle.imap_session.specs.NamedMessages.{stored}
use Rattle.imap_session.specs.Servers.{Server}
use Rattle.imap_link.specs.Outcomes.{Never, Outcome}
use Rattle.imap_client.specs.Boxes.{Becomes, one_uid}
use Rattle.imap_client.specs.Seen.{flags_sent}
use Rattle.imap_client.proofs.Changed.{Became, state_of_parts, became, goes_on, store_keeps}
use Rattle.imap_client.proofs.Mapped.{mapped_then, sent_kept}
use Rattle.imap_client.proofs.Passing.{passes_on, passes_then, store_passes}
use Rattle.imap_client.proofs.Visited.{selected_then}
use Rattle.imap_client.proofs.far_box.FarBox.add_flags.Goals as goal

pub invariant_of-self : goal.invariant_of-self
invariant_of-self g c =
    let it = c.args.self.now in
    let was = it.session in
    let now = c.change.new.self in
    let before = reported_server (g.L.Link.line was.wire.link) in
    let new = reported_server (g.L.Link.line now.wire.link) in
    let flags = λ (s : Server). flags_sent it.keywords c.args.flags s in
    let change = λ (s : Server). stored modes.Add (flags s) (one_uid c.args.uid) in
    let done : it.is_selected ≡ true → now.is_ready ≡ true → (honest : g.L.Link.honest now.wire.link)
    → Became (change (c.change.ensures.outcome honest).mid) it.name.items it.validity it.next (state_of_parts was.is_ready was.tags (g.L.Link.stops was.wire.link) was.wire.heard.read) (c.change.ensures.outcome honest).mid new = λ is_selected ready honest.
    let a = c.change.ensures.outcome honest in
    became (Unit {0}) (change a.mid) it.name.items it.validity it.next 1
    (state_of_parts was.is_ready was.tags (g.L.Link.stops was.wire.link) was.wire.heard.read) (state_of_parts now.is_ready now.tags (g.L.Link.stops now.wire.link) now.wire.heard.read)
    a.mid new c.change.result c.change.ensures.ends ready
    (λ ready_before. selected_then g.L.Link.visitors it.name.items it.validity it.next before a.mid a.visits (it.selected is_selected ready_before (c.change.ensures.was_honest honest)))
    (λ m is. a.then m is _ refl) in
    record {
      named = it.named;
      selected = λ is_selected ready honest.
          let mid = (c.change.ensures.outcome honest).mid in
          goes_on (change mid) (store_keeps modes.Add (flags mid) (one_uid c.args.uid)) it.name.items it.validity it.next _ _ new (done is_selected ready honest);
      numbers = it.numbers;
      map = it.map;
      are_passed = λ is_selected ready honest.
          let a = c.change.ensures.outcome honest in
          passes_on it.passed (change a.mid) (store_passes it.passed modes.Add (flags a.mid) (one_uid c.args.uid)) it.name.items it.validity it.next _ a.mid new (done is_selected ready honest)
          (λ ready_before. passes_then it.passed g.L.Link.visitors before a.mid a.visits (it.are_passed is_selected ready_before (c.change.ensures.was_honest honest)));
    }

pub returns-clause-outcome : goal.returns-clause-outcome
returns-clause-outcome g c honest has =
    let a = c.change.ensures.outcome honest in
    let it = c.args.self.now in
    let new = reported_server (g.L.Link.line c.change.new.self.wire.link) in
    record {
      mid = a.mid;
      visits = a.visits;
      then = λ m is.
          subst (λ (flags : ℕ). Outcome (λ _. Becomes (stored modes.Add flags (one_uid c.args.uid))) Never (Becomes (stored modes.Add flags (one_uid c.args.uid))) c.change.result a.mid new)
          (sent_kept it.keywords c.args.flags a.mid it.map (mapped_then g.L.Link.visitors it.keywords _ a.mid a.visits has)) (a.then m is _ refl);
    }
