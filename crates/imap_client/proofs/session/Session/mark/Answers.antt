use Rattle.std.proofs.Common.{◌≡◌, ◌≤◌, ℕ, true, Option, Some, ◌+◌, List, sym, ◌∙◌, ap, subst, Result, Ok, Err}
use Rattle.std.proofs.lemmas.Bool.{false≢true}
use Rattle.std.proofs.lemmas.Result.{err_from_is_err_and}
use Rattle.mailcore.specs.Operations.{marked_from}
use Rattle.mailcore.specs.Ranges.{AreInRange}
use Rattle.mailcore.specs.Stores.{IsStore}
use Rattle.imap_commands.specs.declared.command.FetchItems.TheVariants as wanted
use Rattle.imap_replies.specs.declared.reply.Reply.{Reply}
use Rattle.imap_session.specs.Mailboxes.{FarMailbox}
use Rattle.imap_session.specs.Servers.{selected}
use Rattle.imap_session.specs.Lines.{reported_server}
use Rattle.imap_session.specs.Visits.{Among}
use Rattle.imap_link.specs.declared.fault.FarFault.{FarFault}
use Rattle.imap_link.specs.Outcomes.{Outcome, Never}
use Rattle.imap_client.specs.Calls.{from_on}
use Rattle.imap_answers.specs.declared.marks.MarkSearch.{MarkSearch}
use Rattle.imap_answers.specs.Markings.{mark_found, TookHeads}
use Rattle.imap_client.specs.Logins.{Remains}
use Rattle.imap_answers.specs.Readings.{Reports}
use Rattle.imap_client.specs.Tags.{tag_text}
use Rattle.imap_client.proofs.Changed.{outcome_err}
use Rattle.imap_client.proofs.Fetched.{replies_for, FetchReports, fetch_exchanged, fetch_unchanged, reads_so, reads_err}
use Rattle.imap_client.proofs.Marks.{finds_mark}
use Rattle.imap_client.proofs.ShownAll.{shows_passed}
use Rattle.mailcore.specs.Passed.{ArePassed}
use Rattle.imap_client.proofs.session.Session.mark.Goals as goal

pub returns-in_err-ask_into-clause-outcome : goal.returns-in_err-ask_into-clause-outcome
returns-in_err-ask_into-clause-outcome g c honest =
    let a = c.in_err-ask_into.ensures.outcome honest in
    record {
      mid = a.mid;
      visits = a.visits;
      then = λ m is store range.
          let p = err_from_is_err_and c.from_residual.result c.from_residual.ensures.1 in
          let f = c.in_err-ask_into.field-0.0 in
          let n = c.args.self.now.tags + 1 in
          let read = c.ask_into.new.self.wire.heard.read in
          let old = a.mid in
          let new = (reported_server (g.L.Link.line c.ask_into.new.self.wire.link)) in
          let took : List Reply → Type 0 = λ reported. TookHeads c.new-search.result reported c.ask_into.new.sink in
          let so = λ (found : Option ℕ). found ≡ marked_from c.args.mark c.args.passed.now.below m.store in
          subst (λ (r : Result (Option ℕ) FarFault). Outcome (Reports so) Never Remains r old new) (sym (p.1 ∙ ap Err p.2))
          (outcome_err (Unit {0}) (Option ℕ) (λ x. Reports (λ _. FetchReports n old.keywords m (from_on c.args.passed.now.below) wanted.Head took read) x) (Reports so) Never Remains old new f
          (fetch_exchanged n old m is (from_on c.args.passed.now.below) wanted.Head took tt (Err f) read new a.then));
    }

pub returns-in_err-found-clause-outcome : goal.returns-in_err-found-clause-outcome
returns-in_err-found-clause-outcome g c honest =
    let a = c.in_ok-ask_into.ensures.outcome honest in
    record {
      mid = a.mid;
      visits = a.visits;
      then = λ m is store range.
          let p = err_from_is_err_and c.from_residual-in_err-found.result c.from_residual-in_err-found.ensures.1 in
          let n = c.args.self.now.tags + 1 in
          let old = a.mid in
          let new = (reported_server (g.L.Link.line c.ask_into.new.self.wire.link)) in
          let search = c.ask_into.new.sink in
          let mark = c.args.mark in
          let from = c.args.passed.now.below in
          let so = λ (found : Option ℕ). found ≡ marked_from c.args.mark c.args.passed.now.below m.store in
          let rs = replies_for a.mid.keywords m (from_on c.args.passed.now.below) wanted.Head (tag_text n) in
          let reported = fetch_exchanged n old m is (from_on c.args.passed.now.below) wanted.Head (λ reported. TookHeads c.new-search.result reported search) tt (Ok tt) c.ask_into.new.self.wire.heard.read new a.then in
          subst (λ (r : Result (Option ℕ) FarFault). Outcome (Reports so) Never Remains r old new) (sym (p.1 ∙ ap Err p.2))
          (reads_err (Option ℕ) (Option ℕ) (λ uid. uid) (mark_found mark from rs) (marked_from mark from m.store) (finds_mark a.mid.keywords mark from m (tag_text n) store range) old new reported.1
          c.in_err-found.field-0.0 (c.in_err-found.ensures.reported mark from rs (subst (λ (first : MarkSearch). TookHeads first rs search) c.new-search.ensures reported.0.0)));
    }

pub returns-clause-outcome : goal.returns-clause-outcome
returns-clause-outcome g c =
    let n = c.args.self.now.tags + 1 in
    let old = (reported_server (g.L.Link.line c.args.self.now.wire.link)) in
    let search = c.ask_into.new.sink in
    let mark = c.args.mark in
    let from = c.args.passed.now.below in
    subst (λ w. g.L.Link.honest w.link → Among g.L.Link.visitors (λ old new. (m : FarMailbox) → selected old ≡ Some m → IsStore m.store → AreInRange m.store.messages → Reports (λ (found : Option ℕ). found ≡ marked_from c.args.mark c.args.passed.now.below m.store) c.in_ok-found.found old new) old (reported_server (g.L.Link.line w.link))) (sym c.done.ensures.wire)
    (λ honest.
    let a = c.in_ok-ask_into.ensures.outcome honest in
    record {
      mid = a.mid;
      visits = a.visits;
      then = λ m is store range.
          let new = (reported_server (g.L.Link.line c.ask_into.new.self.wire.link)) in
          let rs = replies_for a.mid.keywords m (from_on c.args.passed.now.below) wanted.Head (tag_text n) in
          let reported = fetch_exchanged n a.mid m is (from_on c.args.passed.now.below) wanted.Head (λ reported. TookHeads c.new-search.result reported search) tt (Ok tt) c.ask_into.new.self.wire.heard.read new a.then in
          reads_so (Option ℕ) (Option ℕ) (λ uid. uid) (mark_found mark from rs) (marked_from mark from m.store) (finds_mark a.mid.keywords mark from m (tag_text n) store range) a.mid new reported.1
          c.in_ok-found.found (c.in_ok-found.ensures.reported mark from rs (subst (λ (first : MarkSearch). TookHeads first rs search) c.new-search.ensures reported.0.0));
    })

pub returns-in_err-ask_into-clause-remains : goal.returns-in_err-ask_into-clause-remains
returns-in_err-ask_into-clause-remains g c honest =
    let a = c.in_err-ask_into.ensures.outcome honest in
    record {
      mid = a.mid;
      visits = a.visits;
      then = λ m is.
          fetch_unchanged (c.args.self.now.tags + 1) a.mid m is (from_on c.args.passed.now.below) wanted.Head (λ reported. TookHeads c.new-search.result reported c.ask_into.new.sink) (Err c.in_err-ask_into.field-0.0)
          c.ask_into.new.self.wire.heard.read (reported_server (g.L.Link.line c.ask_into.new.self.wire.link)) a.then;
    }

pub returns-in_err-found-clause-remains : goal.returns-in_err-found-clause-remains
returns-in_err-found-clause-remains g c honest =
    let a = c.in_ok-ask_into.ensures.outcome honest in
    record {
      mid = a.mid;
      visits = a.visits;
      then = λ m is.
          fetch_unchanged (c.args.self.now.tags + 1) a.mid m is (from_on c.args.passed.now.below) wanted.Head (λ reported. TookHeads c.new-search.result reported c.ask_into.new.sink) (Ok tt)
          c.ask_into.new.self.wire.heard.read (reported_server (g.L.Link.line c.ask_into.new.self.wire.link)) a.then;
    }

pub returns-clause-remains : goal.returns-clause-remains
returns-clause-remains g c =
    let old = (reported_server (g.L.Link.line c.args.self.now.wire.link)) in
    subst (λ w. g.L.Link.honest w.link → Among g.L.Link.visitors (λ old new. (m : FarMailbox) → selected old ≡ Some m → Remains old new) old (reported_server (g.L.Link.line w.link))) (sym c.done.ensures.wire)
    (λ honest.
    let a = c.in_ok-ask_into.ensures.outcome honest in
    record {
      mid = a.mid;
      visits = a.visits;
      then = λ m is.
          fetch_unchanged (c.args.self.now.tags + 1) a.mid m is (from_on c.args.passed.now.below) wanted.Head (λ reported. TookHeads c.new-search.result reported c.ask_into.new.sink) (Ok tt)
          c.ask_into.new.self.wire.heard.read (reported_server (g.L.Link.line c.ask_into.new.self.wire.link)) a.then;
    })

pub returns-in_err-ask_into-clause-passed : goal.returns-in_err-ask_into-clause-passed
returns-in_err-ask_into-clause-passed g c honest =
    let a = c.in_err-ask_into.ensures.outcome honest in
    record {
      mid = a.mid;
      visits = a.visits;
      then = λ m is. (
        fetch_unchanged (c.args.self.now.tags + 1) a.mid m is (from_on c.args.passed.now.below) wanted.Head (λ reported. TookHeads c.new-search.result reported c.ask_into.new.sink) (Err c.in_err-ask_into.field-0.0)
            c.ask_into.new.self.wire.heard.read (reported_server (g.L.Link.line c.ask_into.new.self.wire.link)) a.then,
        λ small passed ready. passed,
      );
    }

pub returns-in_err-found-clause-passed : goal.returns-in_err-found-clause-passed
returns-in_err-found-clause-passed g c honest =
    let a = c.in_ok-ask_into.ensures.outcome honest in
    record {
      mid = a.mid;
      visits = a.visits;
      then = λ m is. (
        fetch_unchanged (c.args.self.now.tags + 1) a.mid m is (from_on c.args.passed.now.below) wanted.Head (λ reported. TookHeads c.new-search.result reported c.ask_into.new.sink) (Ok tt)
            c.ask_into.new.self.wire.heard.read (reported_server (g.L.Link.line c.ask_into.new.self.wire.link)) a.then,
        λ small passed ready. absurd (false≢true (sym c.in_ok-ask_into.ensures.asked.begun ∙ ready)),
      );
    }

pub returns-clause-passed : goal.returns-clause-passed
returns-clause-passed g c =
    let old = (reported_server (g.L.Link.line c.args.self.now.wire.link)) in
    subst
    (λ w. g.L.Link.honest w.link → Among g.L.Link.visitors
    (λ s t. (m : FarMailbox) → selected s ≡ Some m → Remains s t
    × (c.args.next ≤ m.store.next → ArePassed m.store.next m.store.messages c.args.passed.now → c.done.new.self.is_ready ≡ true → ArePassed m.store.next m.store.messages c.end.new.passed)) old (reported_server (g.L.Link.line w.link)))
    (sym c.done.ensures.wire)
    (λ honest.
    let n = c.args.self.now.tags + 1 in
    let a = c.in_ok-ask_into.ensures.outcome honest in
    let from = c.args.passed.now.below in
    let search = c.ask_into.new.sink in
    let read = c.ask_into.new.self.wire.heard.read in
    let new = (reported_server (g.L.Link.line c.ask_into.new.self.wire.link)) in
    let took : List Reply → Type 0 = λ reported. TookHeads c.new-search.result reported search in
    record {
      mid = a.mid;
      visits = a.visits;
      then = λ m is.
          let reported = fetch_exchanged n a.mid m is (from_on from) wanted.Head took tt (Ok tt) read new a.then in (
            reported.1,
            λ small passed ready.
                c.in_ok-found.ensures.passed m.store.next m.store.messages small passed
                (shows_passed a.mid.keywords from c.args.next m (tag_text n) c.requires c.args.mark search
                (subst (λ (first : MarkSearch). TookHeads first (replies_for a.mid.keywords m (from_on from) wanted.Head (tag_text n)) search) c.new-search.ensures reported.0.0)),
          );
    })
