use Rattle.std.proofs.Common.{List, ℕ, sym, subst}
use Rattle.imap_session.specs.Lines.{reported_server}
use Rattle.imap_client.specs.Boxes.{IsSelected}
use Rattle.imap_client.specs.Requests.{IsWord}
use Rattle.imap_client.proofs.Selecting.{selected_so}
use Rattle.imap_client.proofs.session.Session.select.Goals as goal

pub invariant_of-result : goal.invariant_of-result
invariant_of-result g c = record {
  named = subst IsWord (sym c.in-Ok.ensures.name) c.requires;
  selected = λ is_selected ready honest.
      let a = c.in-Ok.ensures.chosen honest in
      let new = (reported_server (g.L.Link.line c.choose.new.self.wire.link)) in
      subst (λ (name : List ℕ). IsSelected name c.in-Ok.chosen.validity c.in-Ok.chosen.next new) (sym c.in-Ok.ensures.name)
      (selected_so c.args.name.now c.in-Ok.chosen.validity c.in-Ok.chosen.next a.mid new a.then);
  numbers = c.in-Ok.chosen.numbers;
  map = c.choose.ensures.map;
  are_passed = λ is_selected ready honest m at. c.new-passed.ensures m.store.next m.store.messages;
}
