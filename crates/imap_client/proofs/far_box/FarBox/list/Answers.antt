use Rattle.std.proofs.Common.{◌≡◌, true, List, map, refl, sym, ◌∙◌, ap, subst, Result, Err}
use Rattle.std.proofs.lemmas.Result.{err_from_is_err_and}
use Rattle.mailcore.specs.declared.listing.Item.{Item}
use Rattle.mailcore.specs.declared.listing.Listing.{Listing}
use Rattle.mailcore.specs.declared.side.Side.TheVariants.{Far}
use Rattle.mailcore.specs.Listed.{item_of}
use Rattle.imap_session.specs.Lines.{reported_server}
use Rattle.imap_link.specs.declared.fault.FarFault.{FarFault}
use Rattle.imap_link.specs.Outcomes.{Outcome, Never}
use Rattle.imap_answers.specs.Listings.{next_above, ListsFrom}
use Rattle.imap_client.specs.Logins.{Remains}
use Rattle.imap_client.specs.Seen.{seen_through}
use Rattle.imap_answers.specs.Readings.{Reports}
use Rattle.imap_client.proofs.Changed.{state_of_parts, outcome_err}
use Rattle.imap_client.specs.Boxes.{IsSelected, Passes}
use Rattle.imap_client.proofs.Passing.{stays_known}
use Rattle.imap_client.proofs.Staying.{lists_so, seen_is_store, shows_so}
use Rattle.imap_client.proofs.Visited.{selected_then}
use Rattle.imap_client.proofs.far_box.FarBox.list.Goals as goal

pub invariant_of-self : goal.invariant_of-self
invariant_of-self g c =
    let it = c.args.self.now in
    let was = it.session in
    let now = c.items.new.self in
    let before = reported_server (g.L.Link.line was.wire.link) in
    let new = reported_server (g.L.Link.line now.wire.link) in
    let known : it.is_selected ≡ true → now.is_ready ≡ true → g.L.Link.honest now.wire.link → IsSelected it.name.items it.validity it.next new × Passes it.passed new = λ is_selected ready honest.
    let a = c.items.ensures.remains honest in
    let was_honest = c.items.ensures.was_honest honest in
    stays_known g.L.Link.visitors it.name.items it.validity it.next it.passed
    (state_of_parts was.is_ready was.tags (g.L.Link.stops was.wire.link) was.wire.heard.read) (state_of_parts now.is_ready now.tags (g.L.Link.stops now.wire.link) now.wire.heard.read)
    before a.mid new ready a.visits (λ was_ready. (it.selected is_selected was_ready was_honest, it.are_passed is_selected was_ready was_honest))
    (λ m is. a.then m is) (List Item) 1 c.items.result c.items.ensures.ends in
    record {
      named = it.named;
      selected = λ is_selected ready honest. (known is_selected ready honest).0;
      numbers = it.numbers;
      map = it.map;
      are_passed = λ is_selected ready honest. (known is_selected ready honest).1;
    }

pub returns-in_err-items-clause-outcome : goal.returns-in_err-items-clause-outcome
returns-in_err-items-clause-outcome g c honest has is_selected =
    let p = err_from_is_err_and c.from_residual.result c.from_residual.ensures.1 in
    let f = c.in_err-items.field-0.0 in
    let known = c.args.self.now.next in
    let new = (reported_server (g.L.Link.line c.items.new.self.wire.link)) in
    let a = c.in_err-items.ensures.outcome honest has in
    record {
      mid = a.mid;
      visits = a.visits;
      then = λ m is store range.
          subst (λ (r : Result Listing FarFault). Outcome (Reports (ListsFrom known (seen_through c.args.self.now.keywords m.store))) Never Remains r a.mid new) (sym (p.1 ∙ ap Err p.2))
          (outcome_err (List Item) Listing (Reports (λ items. items ≡ map (item_of Far) (seen_through c.args.self.now.keywords m.store).messages)) (Reports (ListsFrom known (seen_through c.args.self.now.keywords m.store))) Never Remains a.mid new f (a.then m is store range));
    }

pub returns-clause-outcome : goal.returns-clause-outcome
returns-clause-outcome g c honest has is_selected =
    let box = c.args.self.now in
    let old = (reported_server (g.L.Link.line box.session.wire.link)) in
    let listing : Listing = record { validity = box.validity; next = c.next_above-next.result; items = c.in_ok-items.items } in
    let a = c.in_ok-items.ensures.outcome honest has in
    let was = box.selected is_selected c.in_ok-items.ensures.ends.was_ready (c.items.ensures.was_honest honest) in
    let selected = selected_then g.L.Link.visitors box.name.items box.validity box.next old a.mid a.visits was in
    record {
      mid = a.mid;
      visits = a.visits;
      then = λ m is store range.
          let reported = a.then m is store range in
          (lists_so (seen_through box.keywords) (λ s. refl) box.name.items box.validity box.next a.mid m is selected listing refl (c.next_above-next.ensures.next ∙ ap (next_above box.next) c.as_slice.ensures.all) reported.0, reported.1);
    }

pub returns-clause-shows : goal.returns-clause-shows
returns-clause-shows g c honest has is_selected =
    let box = c.args.self.now in
    let old = (reported_server (g.L.Link.line box.session.wire.link)) in
    let listing : Listing = record { validity = box.validity; next = c.next_above-next.result; items = c.in_ok-items.items } in
    let a = c.in_ok-items.ensures.outcome honest has in
    let was = box.selected is_selected c.in_ok-items.ensures.ends.was_ready (c.items.ensures.was_honest honest) in
    let selected = selected_then g.L.Link.visitors box.name.items box.validity box.next old a.mid a.visits was in
    record {
      mid = a.mid;
      visits = a.visits;
      then = λ m is store range e.
          let reported = a.then m is store range in
          shows_so box.next (seen_through box.keywords m.store) listing (seen_is_store box.keywords m.store store) e
          (lists_so (seen_through box.keywords) (λ s. refl) box.name.items box.validity box.next a.mid m is selected listing refl (c.next_above-next.ensures.next ∙ ap (next_above box.next) c.as_slice.ensures.all) reported.0);
    }
