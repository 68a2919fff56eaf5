use Rattle.std.proofs.Common.{◌≡◌, Some, ◌+◌, List, map, sym, ◌∙◌, ap, subst, Result, Ok, Err}
use Rattle.std.proofs.lemmas.Result.{err_from_is_err_and}
use Rattle.mailcore.specs.declared.listing.Item.{Item}
use Rattle.mailcore.specs.declared.side.Side.TheVariants.{Far}
use Rattle.mailcore.specs.Listed.{item_of}
use Rattle.mailcore.specs.Ranges.{AreInRange}
use Rattle.mailcore.specs.Stores.{IsStore}
use Rattle.imap_commands.specs.declared.command.FetchItems.TheVariants as wanted
use Rattle.imap_replies.specs.declared.reply.Reply.{Reply}
use Rattle.imap_session.specs.Mailboxes.{FarMailbox}
use Rattle.imap_session.specs.Servers.{selected}
use Rattle.imap_session.specs.Lines.{reported_server}
use Rattle.imap_session.specs.Visits.{Among}
use Rattle.imap_link.specs.declared.fault.FarFault.{FarFault}
use Rattle.imap_link.specs.Outcomes.{Outcome, Never}
use Rattle.imap_client.specs.Calls.{from_on}
use Rattle.imap_answers.specs.Fetching.{TookRows}
use Rattle.imap_answers.specs.Listings.{items_reported}
use Rattle.imap_client.specs.Logins.{Remains}
use Rattle.imap_client.specs.Seen.{HasMap, seen_through}
use Rattle.imap_answers.specs.Readings.{Reports}
use Rattle.imap_client.specs.Tags.{tag_text}
use Rattle.imap_client.proofs.Changed.{outcome_err}
use Rattle.imap_client.proofs.Fetched.{ListingReports, fetch_unchanged, listing_exchanged, reads_err, reads_so}
use Rattle.imap_client.proofs.Mapped.{mapped_then}
use Rattle.imap_client.proofs.Rows.{lists_reported}
use Rattle.imap_client.proofs.session.Session.items.Goals as goal

pub returns-in_err-ask_into-clause-outcome : goal.returns-in_err-ask_into-clause-outcome
returns-in_err-ask_into-clause-outcome g c honest has =
    let a = c.in_err-ask_into.ensures.outcome honest in
    record {
      mid = a.mid;
      visits = a.visits;
      then = λ m is store range.
          let p = err_from_is_err_and c.from_residual.result c.from_residual.ensures.1 in
          let f = c.in_err-ask_into.field-0.0 in
          let n = c.args.self.now.tags + 1 in
          let read = c.ask_into.new.self.wire.heard.read in
          let old = a.mid in
          let new = (reported_server (g.L.Link.line c.ask_into.new.self.wire.link)) in
          let took : List Reply → Type 0 = λ reported. TookRows c.new-rows.result reported c.ask_into.new.sink in
          let so = λ (items : List Item). items ≡ map (item_of Far) (seen_through c.args.keywords.now m.store).messages in
          subst (λ (r : Result (List Item) FarFault). Outcome (Reports so) Never Remains r old new) (sym (p.1 ∙ ap Err p.2))
          (outcome_err (Unit {0}) (List Item) (λ x. Reports (λ _. ListingReports n c.args.keywords.now m (from_on 1) took) x) (Reports so) Never Remains old new f
          (listing_exchanged n old m is (from_on 1) c.args.keywords.now (mapped_then g.L.Link.visitors c.args.keywords.now _ old a.visits has) took (Err f) read new a.then));
    }

pub returns-in_err-items-clause-outcome : goal.returns-in_err-items-clause-outcome
returns-in_err-items-clause-outcome g c honest has =
    let a = c.in_ok-ask_into.ensures.outcome honest in
    record {
      mid = a.mid;
      visits = a.visits;
      then = λ m is store range.
          let p = err_from_is_err_and c.from_residual-in_err-items.result c.from_residual-in_err-items.ensures.1 in
          let n = c.args.self.now.tags + 1 in
          let old = a.mid in
          let new = (reported_server (g.L.Link.line c.ask_into.new.self.wire.link)) in
          let rows = c.ask_into.new.sink in
          let so = λ (items : List Item). items ≡ map (item_of Far) (seen_through c.args.keywords.now m.store).messages in
          let reported = listing_exchanged n old m is (from_on 1) c.args.keywords.now (mapped_then g.L.Link.visitors c.args.keywords.now _ old a.visits has) (λ reported. TookRows c.new-rows.result reported rows) (Ok tt) c.ask_into.new.self.wire.heard.read new a.then in
          subst (λ (r : Result (List Item) FarFault). Outcome (Reports so) Never Remains r old new) (sym (p.1 ∙ ap Err p.2))
          (reads_err (List Item) (List Item) (λ items. items) (items_reported rows.rows) (map (item_of Far) (seen_through c.args.keywords.now m.store).messages) (lists_reported c.args.keywords.now c.requires.map m (tag_text n) store range c.new-rows.result rows reported.0.replies c.new-rows.ensures reported.0.reported reported.0.heard_as) old new reported.1
          c.in_err-items.field-0.0 c.in_err-items.ensures.reported);
    }

pub returns-clause-outcome : goal.returns-clause-outcome
returns-clause-outcome g c =
    let n = c.args.self.now.tags + 1 in
    let old = (reported_server (g.L.Link.line c.args.self.now.wire.link)) in
    let rows = c.ask_into.new.sink in
    subst (λ w. g.L.Link.honest w.link → HasMap c.args.keywords.now old → Among g.L.Link.visitors (λ old new. (m : FarMailbox) → selected old ≡ Some m → IsStore m.store → AreInRange m.store.messages → Reports (λ (items : List Item). items ≡ map (item_of Far) (seen_through c.args.keywords.now m.store).messages) c.in_ok-items.items old new) old (reported_server (g.L.Link.line w.link))) (sym c.done.ensures.wire)
    (λ honest has.
    let a = c.in_ok-ask_into.ensures.outcome honest in
    record {
      mid = a.mid;
      visits = a.visits;
      then = λ m is store range.
          let new = (reported_server (g.L.Link.line c.ask_into.new.self.wire.link)) in
          let reported = listing_exchanged n a.mid m is (from_on 1) c.args.keywords.now (mapped_then g.L.Link.visitors c.args.keywords.now old a.mid a.visits has) (λ reported. TookRows c.new-rows.result reported rows) (Ok tt) c.ask_into.new.self.wire.heard.read new a.then in
          reads_so (List Item) (List Item) (λ items. items) (items_reported rows.rows) (map (item_of Far) (seen_through c.args.keywords.now m.store).messages) (lists_reported c.args.keywords.now c.requires.map m (tag_text n) store range c.new-rows.result rows reported.0.replies c.new-rows.ensures reported.0.reported reported.0.heard_as) a.mid new reported.1
          c.in_ok-items.items c.in_ok-items.ensures.reported;
    })

pub returns-in_err-ask_into-clause-remains : goal.returns-in_err-ask_into-clause-remains
returns-in_err-ask_into-clause-remains g c honest =
    let a = c.in_err-ask_into.ensures.outcome honest in
    record {
      mid = a.mid;
      visits = a.visits;
      then = λ m is.
          fetch_unchanged (c.args.self.now.tags + 1) a.mid m is (from_on 1) wanted.Listing (λ reported. TookRows c.new-rows.result reported c.ask_into.new.sink) (Err c.in_err-ask_into.field-0.0)
          c.ask_into.new.self.wire.heard.read (reported_server (g.L.Link.line c.ask_into.new.self.wire.link)) a.then;
    }

pub returns-in_err-items-clause-remains : goal.returns-in_err-items-clause-remains
returns-in_err-items-clause-remains g c honest =
    let a = c.in_ok-ask_into.ensures.outcome honest in
    record {
      mid = a.mid;
      visits = a.visits;
      then = λ m is.
          fetch_unchanged (c.args.self.now.tags + 1) a.mid m is (from_on 1) wanted.Listing (λ reported. TookRows c.new-rows.result reported c.ask_into.new.sink) (Ok tt)
          c.ask_into.new.self.wire.heard.read (reported_server (g.L.Link.line c.ask_into.new.self.wire.link)) a.then;
    }

pub returns-clause-remains : goal.returns-clause-remains
returns-clause-remains g c =
    let old = (reported_server (g.L.Link.line c.args.self.now.wire.link)) in
    subst (λ w. g.L.Link.honest w.link → Among g.L.Link.visitors (λ old new. (m : FarMailbox) → selected old ≡ Some m → Remains old new) old (reported_server (g.L.Link.line w.link))) (sym c.done.ensures.wire)
    (λ honest.
    let a = c.in_ok-ask_into.ensures.outcome honest in
    record {
      mid = a.mid;
      visits = a.visits;
      then = λ m is.
          fetch_unchanged (c.args.self.now.tags + 1) a.mid m is (from_on 1) wanted.Listing (λ reported. TookRows c.new-rows.result reported c.ask_into.new.sink) (Ok tt)
          c.ask_into.new.self.wire.heard.read (reported_server (g.L.Link.line c.ask_into.new.self.wire.link)) a.then;
    })
