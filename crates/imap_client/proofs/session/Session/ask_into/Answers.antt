use Rattle.std.proofs.Common.{ℕ, ◌+◌, List, sym, ◌∙◌, ap, subst, Result, Err, OnOk}
use Rattle.std.proofs.lemmas.Result.{err_from_is_err_and}
use Rattle.imap_replies.specs.declared.reply.Reply.{Reply}
use Rattle.imap_replies.specs.declared.word.Status.{Status}
use Rattle.imap_session.specs.Lines.{reported_server}
use Rattle.imap_session.specs.Visits.{Among}
use Rattle.imap_link.specs.declared.fault.FarFault.{FarFault}
use Rattle.imap_link.specs.Buffers.{IsAnswerText}
use Rattle.imap_link.specs.Exchanges.{Replied}
use Rattle.imap_client.specs.Calls.{request_of}
use Rattle.imap_client.specs.States.{AskedSo}
use Rattle.imap_client.specs.Exchanged.{command_at, Exchanged}
use Rattle.imap_client.specs.Tags.{tag_text}
use Rattle.imap_client.specs.Transcripts.{EndsBy, of_command}
use Rattle.imap_client.proofs.Exchanging.{state_at, asked_err, judged_asked, judged_ok, exchanged_err, exchanged_of}
use Rattle.imap_client.proofs.Transcribed.{unheard, judged_ends}
use Rattle.imap_client.proofs.session.Session.ask_into.Goals as goal

pub returns-in_err-status-clause-asked : goal.returns-in_err-status-clause-asked
returns-in_err-status-clause-asked g c =
    let p = err_from_is_err_and c.from_residual.result c.from_residual.ensures.1 in
    let was = c.args.self.now in
    let now = c.ask_status.new.self in
    let old = state_at was.is_ready was.tags (g.L.Link.stops was.wire.link) was.wire.heard.read in
    let new = state_at now.is_ready now.tags (g.L.Link.stops now.wire.link) now.wire.heard.read in
    subst (λ (r : Result (Unit {0}) FarFault). AskedSo old new r) (sym (p.1 ∙ ap Err p.2)) (asked_err Status (Unit {0}) old new c.in_err-status.field-0.0 c.in_err-status.ensures.asked)

pub returns-in_err-status-clause-outcome : goal.returns-in_err-status-clause-outcome
returns-in_err-status-clause-outcome g c honest =
    let a = c.in_err-status.ensures.outcome honest in
    record {
      mid = a.mid;
      visits = a.visits;
      then =
          let p = err_from_is_err_and c.from_residual.result c.from_residual.ensures.1 in
          let command = command_at (c.args.self.now.tags + 1) (request_of c.args.call.now) in
          let reported : List Reply → Type 0 = λ replies. g.S.ReplySink.took c.args.sink.now replies c.ask_status.new.sink in
          let old = a.mid in
          let new = (reported_server (g.L.Link.line c.ask_status.new.self.wire.link)) in
          let read = c.ask_status.new.self.wire.heard.read in
          subst (λ (r : Result (Unit {0}) FarFault). Exchanged command reported r read old new) (sym (p.1 ∙ ap Err p.2))
          (exchanged_err reported command (λ status. Replied command status reported read) c.in_err-status.field-0.0 read old new a.then);
    }

pub returns-in_err-status-clause-heard : goal.returns-in_err-status-clause-heard
returns-in_err-status-clause-heard g c =
    let p = err_from_is_err_and c.from_residual.result c.from_residual.ensures.1 in
    let read = c.ask_status.new.self.wire.heard.read in
    let old = c.args.self.now.transcript in
    let new = c.ask_status.new.self.transcript in
    let command = of_command (c.args.self.now.tags + 1) read in
    subst (λ (r : Result (Unit {0}) FarFault). EndsBy command r old new) (sym (p.1 ∙ ap Err p.2)) (unheard (Unit {0}) command read old new c.in_err-status.field-0.0 c.in_err-status.ensures.heard)

pub returns-clause-heard : goal.returns-clause-heard
returns-clause-heard g c =
    let n = c.args.self.now.tags + 1 in
    let old = c.args.self.now.transcript in
    let was = c.ask_status.new.self in
    subst (λ w. EndsBy (of_command n w.heard.read) c.judge.result old c.judge.new.self.transcript) (sym c.judge.ensures.wire)
    (subst (λ (t : List (List ℕ)). EndsBy (of_command n was.wire.heard.read) c.judge.result old t) (sym c.judge.ensures.transcript)
    (judged_ends n (tag_text was.tags) (ap tag_text c.in_ok-status.ensures.asked.tags) c.in_ok-status.status c.judge.new.self.is_ready was.wire.heard.read c.in_ok-status.ensures.answer
    c.judge.result old was.transcript c.judge.ensures.judged c.in_ok-status.ensures.heard))

pub returns-clause-asked : goal.returns-clause-asked
returns-clause-asked g c =
    let was = c.args.self.now in
    let mid = c.ask_status.new.self in
    let now = c.judge.new.self in
    judged_asked c.in_ok-status.status
    (state_at was.is_ready was.tags (g.L.Link.stops was.wire.link) was.wire.heard.read) (state_at mid.is_ready mid.tags (g.L.Link.stops mid.wire.link) mid.wire.heard.read)
    (state_at now.is_ready now.tags (g.L.Link.stops now.wire.link) now.wire.heard.read) c.judge.result c.in_ok-status.ensures.asked (ap (λ w. g.L.Link.stops w.link) c.judge.ensures.wire) c.judge.ensures.tags c.judge.ensures.judged

pub returns-clause-outcome : goal.returns-clause-outcome
returns-clause-outcome g c =
    let command = command_at (c.args.self.now.tags + 1) (request_of c.args.call.now) in
    let reported : List Reply → Type 0 = λ replies. g.S.ReplySink.took c.args.sink.now replies c.ask_status.new.sink in
    let old = (reported_server (g.L.Link.line c.args.self.now.wire.link)) in
    subst (λ w. g.L.Link.honest w.link → Among g.L.Link.visitors (Exchanged command reported c.judge.result w.heard.read) old (reported_server (g.L.Link.line w.link))) (sym c.judge.ensures.wire)
    (λ honest.
    let a = c.in_ok-status.ensures.outcome honest in
    record {
      mid = a.mid;
      visits = a.visits;
      then =
          exchanged_of reported command c.in_ok-status.status c.ask_status.new.self.wire.heard.read a.mid (reported_server (g.L.Link.line c.ask_status.new.self.wire.link)) a.then
          c.judge.new.self.is_ready c.judge.result c.judge.ensures.judged;
    })

pub returns-clause-answer : goal.returns-clause-answer
returns-clause-answer g c =
    let tag = tag_text c.judge.new.self.tags in
    subst (λ w. OnOk c.judge.result (IsAnswerText tag _ w.heard.read)) (sym c.judge.ensures.wire)
    (subst (λ (t : ℕ). OnOk c.judge.result (IsAnswerText (tag_text t) _ c.ask_status.new.self.wire.heard.read)) (sym c.judge.ensures.tags)
    (judged_ok c.in_ok-status.status c.judge.new.self.is_ready c.judge.result c.judge.ensures.judged (λ s. IsAnswerText (tag_text c.ask_status.new.self.tags) s c.ask_status.new.self.wire.heard.read) c.in_ok-status.ensures.answer))
