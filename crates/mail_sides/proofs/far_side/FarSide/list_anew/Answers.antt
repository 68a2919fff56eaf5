use Rattle.std.proofs.Common.{◌∙◌, ℕ, List, ap, arith, refl, subst, sym}
use Rattle.mailcore.specs.declared.keywords.Keyword.{Keyword}
use Rattle.mailcore.specs.declared.listing.Listing.{Listing}
use Rattle.mailcore.specs.Visitors.{Visitors}
use Rattle.imap_session.specs.Visits.{Among}
use Rattle.imap_link.specs.Outcomes.{Outcome, Never}
use Rattle.mailcore.specs.Stores.{Store}
use Rattle.imap_client.specs.Sessions.{server_of, state_of}
use Rattle.mail_sides.specs.Chosen.{IsChosen, KeepsMailboxes, ListsAll, store_at}
use Rattle.mail_sides.specs.FarSides.{honest_of}
use Rattle.mail_sides.specs.FarStops.{Ends}
use Rattle.mail_sides.proofs.Endings.{ends_after, ends_of}
use Rattle.mail_sides.proofs.Joined.{err_so, handed, listed, within_of}
use Rattle.mail_sides.proofs.Visited.{found_then, next_then, range_then, stocked, store_then, visits_between}
use Rattle.mail_sides.proofs.Mailboxes.{selected_is, sound_there, store_is}
use Rattle.mail_sides.proofs.OpenCalls.{chosen_in}
use Rattle.mail_sides.proofs.far_side.FarSide.list_anew.Goals as goal

pub returns-in_err-refresh-clause-ends : goal.returns-in_err-refresh-clause-ends
returns-in_err-refresh-clause-ends g c =
    let old = state_of c.args.self.now.far.session in
    let new = state_of c.refresh.new.self.far.session in
    handed (λ r. Ends old new r) c.in_err-refresh.field-0.0 c.from_residual.result c.from_residual.ensures.1 c.in_err-refresh.ensures.ends

pub returns-clause-ends : goal.returns-clause-ends
returns-clause-ends g c =
    let old = state_of c.args.self.now.far.session in
    let mid = state_of c.refresh.new.self.far.session in
    let new = state_of c.list.new.self.session in
    let went = c.in_ok-refresh.ensures.ends in
    ends_after old mid new c.list.result went.1 (ends_of 1 mid new c.list.result went.0 c.list.ensures.counts c.list.ensures.ends)

pub returns-in_err-refresh-clause-outcome : goal.returns-in_err-refresh-clause-outcome
returns-in_err-refresh-clause-outcome g c h =
    let name = c.args.self.now.account.mailbox.items in
    let v = g.L.Link.visitors in
    let old = server_of c.args.self.now.far.session in
    let new = server_of c.refresh.new.self.far.session in
    let known = (store_at name old.mailboxes).next in
    let e = c.in_err-refresh.field-0.0 in
    let a = c.in_err-refresh.ensures.outcome h in
    handed (λ r. Among v (Outcome (ListsAll c.args.self.now.far.keywords v.alone known name) Never KeepsMailboxes r) old new) e c.from_residual.result c.from_residual.ensures.1
    (record {
      mid = a.mid;
      visits = a.visits;
      then = err_so Never Never KeepsMailboxes a.mid a.mid new refl (λ k. k) (λ u. absurd u) (Unit {0}) Listing (λ _. KeepsMailboxes) (ListsAll c.args.self.now.far.keywords v.alone known name) e a.then;
    })

pub returns-clause-outcome : goal.returns-clause-outcome
returns-clause-outcome g c h =
    let name = c.args.self.now.account.mailbox.items in
    let v : Visitors = g.L.Link.visitors in
    let side = c.refresh.new.self in
    let refreshed = c.in_ok-refresh.ensures in
    let old = server_of c.args.self.now.far.session in
    let mid = server_of side.far.session in
    let new = server_of c.list.new.self.session in
    let was : honest_of side = c.list.ensures.was_honest h in
    let first = refreshed.outcome was in
    let chosen = chosen_in name side.far (λ s. side.named s ∙ refreshed.mailbox) refreshed.selected refreshed.ends.0 was in
    let sound = sound_there name mid chosen (g.met.L.Link.sound side.far.session.wire.link was) in
    let next = side.fresh refreshed.fresh was ∙ ap (λ (n : List ℕ). (store_at n mid.mailboxes).next) refreshed.mailbox in
    let a = c.list.ensures.outcome h (side.letters was) refreshed.selected in
    let found = found_then v name mid a.mid a.visits chosen.mailbox chosen.there in
    let late : IsChosen name a.mid = record { condition = a.visits.condition ∙ chosen.condition; mailbox = found.mailbox; there = found.is } in
    let store = store_then v chosen.mailbox.store found.mailbox.store found.gains sound.store in
    let range = range_then v chosen.mailbox.store found.mailbox.store found.gains sound.range.messages in
    let before = next_then v name old first.mid first.visits in
    let kept = ap (λ ms. (store_at name ms).next) first.then in
    let later = next_then v name mid a.mid a.visits in
    let last = ap (λ (s : Store). s.next) (store_is name a.mid late) in
    record {
      mid = stocked v old a.mid.mailboxes;
      visits = visits_between v old first.mid mid a.mid first.visits first.then a.visits;
      then =
          subst (λ (k : List Keyword). Outcome (ListsAll k v.alone (store_at name old.mailboxes).next name) Never KeepsMailboxes c.list.result (stocked v old a.mid.mailboxes) new) refreshed.keywords
          (listed side.far.keywords v.alone (store_at name old.mailboxes).next name (stocked v old a.mid.mailboxes) a.mid new side.far.next late refl store
          (omega (arith, before, kept, next)) (omega (arith, next, later, last))
          (λ alone. next ∙ sym (ap (λ ms. (store_at name ms).next) (a.visits.nobody alone)) ∙ last) c.list.result
          (a.then found.mailbox (selected_is name a.mid late) store range));
    }

pub returns-clause-within : goal.returns-clause-within
returns-clause-within g c h =
    let it = c.args.self.now in
    let name = it.account.mailbox.items in
    let old = server_of it.far.session in
    let new = server_of c.list.new.self.session in
    let a = returns-clause-outcome g c h in
    within_of it.far.keywords g.L.Link.visitors.alone (store_at name old.mailboxes).next name a.mid new c.list.result a.then
