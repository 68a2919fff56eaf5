use Rattle.std.proofs.Common.{ℕ, ◌+◌, List, sym, ◌∙◌, ap, subst, arith}
use Rattle.imap_session.specs.Lines.{reported_server}
use Rattle.imap_client.specs.Boxes.{IsSelected, Passes}
use Rattle.std.proofs.Common.{◌≡◌, true, Option, Some, Result, Ok, Err}
use Rattle.std.proofs.lemmas.Result.{err_from_is_err_and}
use Rattle.mailcore.specs.CopyPieces.{text_left}
use Rattle.imap_session.specs.Mailboxes.{FarMailbox}
use Rattle.imap_session.specs.Servers.{selected}
use Rattle.imap_session.specs.Visits.{Among}
use Rattle.imap_link.specs.declared.fault.FarFault.{FarFault}
use Rattle.imap_link.specs.Outcomes.{Outcome}
use Rattle.imap_client.specs.Appending.{Adds, AddsSome, NoUidLeft}
use Rattle.imap_client.proofs.Changed.{state_of_parts}
use Rattle.imap_client.specs.Appending.{next_known}
use Rattle.mailcore.specs.KeywordNames.{kept}
use Rattle.imap_client.specs.Seen.{HasMap, flags_sent}
use Rattle.imap_client.proofs.Mapped.{mapped_then}
use Rattle.imap_client.proofs.Adding.{among_where, err_keeps, err_selected, none_known, ok_selected, where_mapped}
use Rattle.imap_client.proofs.Passing.{adds_passes, passes_then}
use Rattle.imap_client.proofs.Visited.{selected_then}
use Rattle.imap_client.proofs.far_box.FarBox.append_copy.Goals.{in-Some, in_default}
use Rattle.imap_client.proofs.far_box.FarBox.append_copy.Goals as goal

pub invariant_of-self : goal.invariant_of-self
invariant_of-self g c = record {
  named = c.args.self.now.named;
  selected = λ is_selected ready honest.
      let it = c.args.self.now in
      let was = it.session in
      let now = c.add.new.self in
      let begin = (reported_server (g.L.Link.line was.wire.link)) in
      let new = (reported_server (g.L.Link.line now.wire.link)) in
      let a = c.in_err-reported.ensures.outcome honest in
      let old = a.mid in
      err_selected (state_of_parts was.is_ready was.tags (g.L.Link.stops was.wire.link) was.wire.heard.read) (state_of_parts now.is_ready now.tags (g.L.Link.stops now.wire.link) now.wire.heard.read) old new
      it.name.items it.validity it.next (flags_sent it.keywords c.args.flags old) (text_left c.args.copy) c.in_err-reported.field-0.0 c.in_err-reported.ensures.ends ready
      (λ before. selected_then g.L.Link.visitors it.name.items it.validity it.next begin old a.visits (it.selected is_selected before (c.in_err-reported.ensures.was_honest honest)))
      (λ s m is. a.then (subst (λ (n : List ℕ). IsSelected n it.validity it.next old) (sym c.deref.ensures.value) s) m is);
  numbers = c.args.self.now.numbers;
  map = c.args.self.now.map;
  are_passed = λ is_selected ready honest.
      let it = c.args.self.now in
      let was = it.session in
      let now = c.add.new.self in
      let begin = (reported_server (g.L.Link.line was.wire.link)) in
      let new = (reported_server (g.L.Link.line now.wire.link)) in
      let a = c.in_err-reported.ensures.outcome honest in
      let old = a.mid in
      err_keeps (state_of_parts was.is_ready was.tags (g.L.Link.stops was.wire.link) was.wire.heard.read) (state_of_parts now.is_ready now.tags (g.L.Link.stops now.wire.link) now.wire.heard.read) old new
      it.name.items it.validity it.next (flags_sent it.keywords c.args.flags old) (text_left c.args.copy) (Passes it.passed) c.in_err-reported.field-0.0 c.in_err-reported.ensures.ends ready
      (λ before. selected_then g.L.Link.visitors it.name.items it.validity it.next begin old a.visits (it.selected is_selected before (c.in_err-reported.ensures.was_honest honest)))
      (λ before. passes_then it.passed g.L.Link.visitors begin old a.visits (it.are_passed is_selected before (c.in_err-reported.ensures.was_honest honest)))
      (λ s m is. a.then (subst (λ (n : List ℕ). IsSelected n it.validity it.next old) (sym c.deref.ensures.value) s) m is);
}

pub invariant_of-self-in-Some : goal.invariant_of-self-in-Some
invariant_of-self-in-Some g c = record {
  named = c.args.self.now.named;
  selected = λ is_selected ready honest.
      let it = c.args.self.now in
      let was = it.session in
      let now = c.add.new.self in
      let begin = (reported_server (g.L.Link.line was.wire.link)) in
      let new = (reported_server (g.L.Link.line now.wire.link)) in
      let a = c.in_ok-reported.ensures.outcome honest in
      let old = a.mid in
      subst (λ (k : ℕ). IsSelected it.name.items it.validity k new) (ap (next_known it.next) c.in-Some.is ∙ ap (λ (u : ℕ). u + 1) (sym c.get.ensures.number))
      (ok_selected (state_of_parts was.is_ready was.tags (g.L.Link.stops was.wire.link) was.wire.heard.read) (state_of_parts now.is_ready now.tags (g.L.Link.stops now.wire.link) now.wire.heard.read) old new
      it.name.items it.validity it.next (flags_sent it.keywords c.args.flags old) (text_left c.args.copy) c.in_ok-reported.reported c.in_ok-reported.ensures.ends
      (λ before. selected_then g.L.Link.visitors it.name.items it.validity it.next begin old a.visits (it.selected is_selected before (c.in_ok-reported.ensures.was_honest honest)))
      (λ s m is. a.then (subst (λ (n : List ℕ). IsSelected n it.validity it.next old) (sym c.deref.ensures.value) s) m is));
  numbers = (c.args.self.now.numbers.0, omega arith);
  map = c.args.self.now.map;
  are_passed = λ is_selected ready honest.
      let it = c.args.self.now in
      let was = it.session in
      let now = c.add.new.self in
      let begin = (reported_server (g.L.Link.line was.wire.link)) in
      let new = (reported_server (g.L.Link.line now.wire.link)) in
      let a = c.in_ok-reported.ensures.outcome honest in
      let old = a.mid in
      adds_passes it.passed it.name.items it.validity it.next (flags_sent it.keywords c.args.flags old) (text_left c.args.copy) c.in_ok-reported.reported
      (state_of_parts was.is_ready was.tags (g.L.Link.stops was.wire.link) was.wire.heard.read) (state_of_parts now.is_ready now.tags (g.L.Link.stops now.wire.link) now.wire.heard.read) old new c.in_ok-reported.ensures.ends
      (λ before. selected_then g.L.Link.visitors it.name.items it.validity it.next begin old a.visits (it.selected is_selected before (c.in_ok-reported.ensures.was_honest honest)))
      (λ before. passes_then it.passed g.L.Link.visitors begin old a.visits (it.are_passed is_selected before (c.in_ok-reported.ensures.was_honest honest)))
      (λ s m is. a.then (subst (λ (n : List ℕ). IsSelected n it.validity it.next old) (sym c.deref.ensures.value) s) m is);
}

pub invariant_of-self-in_default : goal.invariant_of-self-in_default
invariant_of-self-in_default g c = record {
  named = c.args.self.now.named;
  selected = λ is_selected ready honest.
      let it = c.args.self.now in
      let was = it.session in
      let now = c.add.new.self in
      let begin = (reported_server (g.L.Link.line was.wire.link)) in
      let new = (reported_server (g.L.Link.line now.wire.link)) in
      let a = c.in_ok-reported.ensures.outcome honest in
      let old = a.mid in
      subst (λ (k : ℕ). IsSelected it.name.items it.validity k new) (none_known it.next c.in_ok-reported.reported c.in_default.not-Some)
      (ok_selected (state_of_parts was.is_ready was.tags (g.L.Link.stops was.wire.link) was.wire.heard.read) (state_of_parts now.is_ready now.tags (g.L.Link.stops now.wire.link) now.wire.heard.read) old new
      it.name.items it.validity it.next (flags_sent it.keywords c.args.flags old) (text_left c.args.copy) c.in_ok-reported.reported c.in_ok-reported.ensures.ends
      (λ before. selected_then g.L.Link.visitors it.name.items it.validity it.next begin old a.visits (it.selected is_selected before (c.in_ok-reported.ensures.was_honest honest)))
      (λ s m is. a.then (subst (λ (n : List ℕ). IsSelected n it.validity it.next old) (sym c.deref.ensures.value) s) m is));
  numbers = c.args.self.now.numbers;
  map = c.args.self.now.map;
  are_passed = λ is_selected ready honest.
      let it = c.args.self.now in
      let was = it.session in
      let now = c.add.new.self in
      let begin = (reported_server (g.L.Link.line was.wire.link)) in
      let new = (reported_server (g.L.Link.line now.wire.link)) in
      let a = c.in_ok-reported.ensures.outcome honest in
      let old = a.mid in
      adds_passes it.passed it.name.items it.validity it.next (flags_sent it.keywords c.args.flags old) (text_left c.args.copy) c.in_ok-reported.reported
      (state_of_parts was.is_ready was.tags (g.L.Link.stops was.wire.link) was.wire.heard.read) (state_of_parts now.is_ready now.tags (g.L.Link.stops now.wire.link) now.wire.heard.read) old new c.in_ok-reported.ensures.ends
      (λ before. selected_then g.L.Link.visitors it.name.items it.validity it.next begin old a.visits (it.selected is_selected before (c.in_ok-reported.ensures.was_honest honest)))
      (λ before. passes_then it.passed g.L.Link.visitors begin old a.visits (it.are_passed is_selected before (c.in_ok-reported.ensures.was_honest honest)))
      (λ s m is. a.then (subst (λ (n : List ℕ). IsSelected n it.validity it.next old) (sym c.deref.ensures.value) s) m is);
}

pub returns-in_err-reported-clause-outcome : goal.returns-in_err-reported-clause-outcome
returns-in_err-reported-clause-outcome g c honest has is_selected =
    let p = err_from_is_err_and c.from_residual.result c.from_residual.ensures.1 in
    let it = c.args.self.now in
    let was = it.session in
    let now = c.add.new.self in
    let begin = (reported_server (g.L.Link.line was.wire.link)) in
    let new = (reported_server (g.L.Link.line now.wire.link)) in
    subst (λ (r : Result (Option ℕ) FarFault). Among g.L.Link.visitors (λ s t. (m : FarMailbox) → selected s ≡ Some m → Outcome (Adds m (kept c.args.self.now.keywords c.args.flags) (text_left c.args.copy)) (NoUidLeft m) (AddsSome m (kept c.args.self.now.keywords c.args.flags) (text_left c.args.copy)) r s t) begin new) (sym (p.1 ∙ ap Err p.2))
    (among_where (Option ℕ) (state_of_parts was.is_ready was.tags (g.L.Link.stops was.wire.link) was.wire.heard.read) (state_of_parts now.is_ready now.tags (g.L.Link.stops now.wire.link) now.wire.heard.read) begin new
    g.L.Link.visitors (λ s. IsSelected c.deref.result.now it.validity it.next s × HasMap it.keywords s) (λ m. Adds m (kept c.args.self.now.keywords c.args.flags) (text_left c.args.copy)) (λ m. NoUidLeft m) (λ m. AddsSome m (kept c.args.self.now.keywords c.args.flags) (text_left c.args.copy)) (Err c.in_err-reported.field-0.0)
    c.in_err-reported.ensures.ends (λ failed. ap (λ s. reported_server (g.L.Link.line s.wire.link)) (c.in_err-reported.ensures.stuck failed))
    (λ before mid visits. (
      subst (λ (n : List ℕ). IsSelected n it.validity it.next mid) (sym c.deref.ensures.value)
          (selected_then g.L.Link.visitors it.name.items it.validity it.next begin mid visits (it.selected is_selected before (c.in_err-reported.ensures.was_honest honest))),
      mapped_then g.L.Link.visitors it.keywords begin mid visits has,
    ))
    (where_mapped g.L.Link.visitors it.keywords c.args.flags (text_left c.args.copy) (Err c.in_err-reported.field-0.0) it.map (λ s. IsSelected c.deref.result.now it.validity it.next s) begin new (c.in_err-reported.ensures.outcome honest)))

pub returns-clause-outcome : goal.returns-clause-outcome
returns-clause-outcome g c =
    let so : g.L.Link.honest c.add.new.self.wire.link → HasMap c.args.self.now.keywords (reported_server (g.L.Link.line c.args.self.now.session.wire.link)) → c.args.self.now.is_selected ≡ true
    → Among g.L.Link.visitors (λ s t. (m : FarMailbox) → selected s ≡ Some m → Adds m (kept c.args.self.now.keywords c.args.flags) (text_left c.args.copy) c.in_ok-reported.reported s t) (reported_server (g.L.Link.line c.args.self.now.session.wire.link)) (reported_server (g.L.Link.line c.add.new.self.wire.link)) = λ honest has is_selected.
    let it = c.args.self.now in
    let was = it.session in
    let now = c.add.new.self in
    let begin = (reported_server (g.L.Link.line was.wire.link)) in
    let new = (reported_server (g.L.Link.line now.wire.link)) in
    among_where (Option ℕ) (state_of_parts was.is_ready was.tags (g.L.Link.stops was.wire.link) was.wire.heard.read) (state_of_parts now.is_ready now.tags (g.L.Link.stops now.wire.link) now.wire.heard.read) begin new
    g.L.Link.visitors (λ s. IsSelected c.deref.result.now it.validity it.next s × HasMap it.keywords s) (λ m. Adds m (kept c.args.self.now.keywords c.args.flags) (text_left c.args.copy)) (λ m. NoUidLeft m) (λ m. AddsSome m (kept c.args.self.now.keywords c.args.flags) (text_left c.args.copy)) (Ok c.in_ok-reported.reported)
    c.in_ok-reported.ensures.ends (λ failed. ap (λ s. reported_server (g.L.Link.line s.wire.link)) (c.in_ok-reported.ensures.stuck failed))
    (λ before mid visits. (
      subst (λ (n : List ℕ). IsSelected n it.validity it.next mid) (sym c.deref.ensures.value)
          (selected_then g.L.Link.visitors it.name.items it.validity it.next begin mid visits (it.selected is_selected before (c.in_ok-reported.ensures.was_honest honest))),
      mapped_then g.L.Link.visitors it.keywords begin mid visits has,
    ))
    (where_mapped g.L.Link.visitors it.keywords c.args.flags (text_left c.args.copy) (Ok c.in_ok-reported.reported) it.map (λ s. IsSelected c.deref.result.now it.validity it.next s) begin new (c.in_ok-reported.ensures.outcome honest)) in
    elim c.match-reported.branch [
      | in-Some w ↦ rw w.self-is (rw w.reported-is
          (subst (λ (reported : Option ℕ). g.L.Link.honest c.add.new.self.wire.link → HasMap c.args.self.now.keywords (reported_server (g.L.Link.line c.args.self.now.session.wire.link)) → c.args.self.now.is_selected ≡ true
          → Among g.L.Link.visitors (λ s t. (m : FarMailbox) → selected s ≡ Some m → Adds m (kept c.args.self.now.keywords c.args.flags) (text_left c.args.copy) reported s t) (reported_server (g.L.Link.line c.args.self.now.session.wire.link)) (reported_server (g.L.Link.line c.add.new.self.wire.link)))
          w.in-Some.is so))
      | in_default w ↦ rw w.self-is (rw w.reported-is so)
    ]
