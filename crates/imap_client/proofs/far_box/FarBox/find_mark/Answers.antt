use Rattle.std.proofs.Common.{◌≡◌, ℕ, true, max, Option, arith}
use Rattle.mailcore.specs.Operations.{marked_from}
use Rattle.imap_session.specs.Servers.{selected}
use Rattle.imap_session.specs.Lines.{reported_server}
use Rattle.imap_client.specs.Boxes.{IsSelected, Passes}
use Rattle.imap_client.proofs.Changed.{state_of_parts}
use Rattle.imap_client.proofs.Passing.{found_from, known_then, marked_after, passes_then, search_passes}
use Rattle.imap_client.proofs.Staying.{keeps, stays}
use Rattle.imap_client.proofs.Visited.{selected_then}
use Rattle.imap_client.proofs.far_box.FarBox.find_mark.Goals as goal

pub mark-requires : goal.mark-requires
mark-requires g c = let low = c.begin.ensures.reaches.1 in let first = c.max.ensures in omega (arith, low, first)

pub invariant_of-self : goal.invariant_of-self
invariant_of-self g c =
    let it = c.args.self.now in
    let was = it.session in
    let now = c.mark.new.self in
    let old = state_of_parts was.is_ready was.tags (g.L.Link.stops was.wire.link) was.wire.heard.read in
    let end = state_of_parts now.is_ready now.tags (g.L.Link.stops now.wire.link) now.wire.heard.read in
    let before = reported_server (g.L.Link.line was.wire.link) in
    let new = reported_server (g.L.Link.line now.wire.link) in
    record {
      named = it.named;
      selected = λ is_selected ready honest.
          let a = c.mark.ensures.remains honest in
          stays it.name.items it.validity it.next old end a.mid new ready
          (λ was_ready. selected_then g.L.Link.visitors it.name.items it.validity it.next before a.mid a.visits (it.selected is_selected was_ready (c.mark.ensures.was_honest honest)))
          (λ m is. a.then m is) (Option ℕ) 1 c.mark.result c.mark.ensures.ends;
      numbers = it.numbers;
      map = it.map;
      are_passed = λ is_selected ready honest.
          let a = c.mark.ensures.passed honest in
          let was_honest = c.mark.ensures.was_honest honest in
          let known : was.is_ready ≡ true → IsSelected it.name.items it.validity it.next a.mid × Passes it.passed a.mid =
          λ was_ready. known_then g.L.Link.visitors it.name.items it.validity it.next it.passed before a.mid a.visits (it.selected is_selected was_ready was_honest, it.are_passed is_selected was_ready was_honest) in
          keeps (Passes c.mark.new.passed) it.name.items it.validity it.next old end a.mid new ready
          (λ was_ready. (known was_ready).0)
          (λ was_ready.
          search_passes c.begin.new.self c.mark.new.passed it.name.items it.validity it.next a.mid (known was_ready).0
          (λ m at. c.begin.ensures.passed m.store.next m.store.messages (c.keep_if.ensures.passed m.store.next m.store.messages (λ _. (known was_ready).1 m at)))
          (λ m at small passed. (a.then m at).1 small passed ready))
          (λ m is. (a.then m is).0) (Option ℕ) 1 c.mark.result c.mark.ensures.ends;
    }

pub returns-clause-outcome : goal.returns-clause-outcome
returns-clause-outcome g c honest =
    let it = c.args.self.now in
    let was = it.session in
    let now = c.mark.new.self in
    let before = reported_server (g.L.Link.line was.wire.link) in
    let new = reported_server (g.L.Link.line now.wire.link) in
    let a = c.mark.ensures.outcome honest in
    record {
      mid = a.mid;
      visits = a.visits;
      then = λ m is store range.
          let below = c.begin.new.self.below in
          let low = c.begin.ensures.reaches.1 in
          let first = c.max.ensures in
          found_from (state_of_parts was.is_ready was.tags (g.L.Link.stops was.wire.link) was.wire.heard.read) (state_of_parts now.is_ready now.tags (g.L.Link.stops now.wire.link) now.wire.heard.read) a.mid new
          (marked_from c.args.mark below m.store) (marked_from c.args.mark c.args.from m.store)
          (λ was_ready.
          marked_after c.args.mark c.args.from below (omega (arith, low, first)) m.store.messages range.uids
          (λ k d within up under.
          c.begin.ensures.other m.store.next m.store.messages
          (c.keep_if.ensures.passed m.store.next m.store.messages
          (λ is_selected. passes_then it.passed g.L.Link.visitors before a.mid a.visits (it.are_passed is_selected was_ready (c.mark.ensures.was_honest honest)) m is))
          k d within (omega (arith, up, first)) under))
          c.mark.result c.mark.ensures.ends (a.then m is store range);
    }
