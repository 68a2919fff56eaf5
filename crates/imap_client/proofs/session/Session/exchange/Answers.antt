use Rattle.std.proofs.Common.{◌≡◌, ◌∙◌, ◌+◌, List, true, ap, inl, refl, subst, sym, Err}
use Rattle.std.proofs.lemmas.Result.{err_from_is_err_and}
use Rattle.imap_replies.specs.declared.reply.Reply.{Reply}
use Rattle.imap_session.specs.Lines.{reported_server}
use Rattle.imap_session.specs.Visits.{Among}
use Rattle.imap_client.specs.Exchanged.{command_at, AnsweredSo}
use Rattle.imap_commands.specs.declared.command.Command.{Command}
use Rattle.imap_session.specs.Servers.{is_logged_in}
use Rattle.imap_session.specs.Ends.{is_logout}
use Rattle.imap_client.specs.Logins.{StaysIn}
use Rattle.imap_client.specs.Seen.{KeepsMap}
use Rattle.imap_client.proofs.Lasting.{answered_so}
use Rattle.imap_client.proofs.Mapped.{among_keeps, among_stays, login_lasts, map_lasts}
use Rattle.imap_client.proofs.Visited.{stopped_or}
use Rattle.imap_client.proofs.session.Session.exchange.Goals as goal

pub returns-in_err-command-clause-outcome : goal.returns-in_err-command-clause-outcome
returns-in_err-command-clause-outcome g c honest =
    let p = err_from_is_err_and c.from_residual.result c.from_residual.ensures.1 in
    subst (λ w. Among g.L.Link.visitors (AnsweredSo (command_at (c.args.self.now.tags + 1) c.args.request) (λ reported. g.S.ReplySink.took c.args.sink.now reported c.args.sink.now) c.from_residual.result w.heard.read) (reported_server (g.L.Link.line c.args.self.now.wire.link)) (reported_server (g.L.Link.line w.link))) (sym (c.in_err-command.ensures.same.0))
    (stopped_or g.L.Link.visitors (λ r. AnsweredSo (command_at (c.args.self.now.tags + 1) c.args.request) (λ reported. g.S.ReplySink.took c.args.sink.now reported c.args.sink.now) r c.args.self.now.wire.heard.read) c.from_residual.result c.in_err-command.field-0.0 (reported_server (g.L.Link.line c.args.self.now.wire.link)) (p.1 ∙ ap Err p.2) c.in_err-command.ensures.err (inl refl) (inl refl))

pub returns-clause-letters : goal.returns-clause-letters
returns-clause-letters g c honest =
    let new = reported_server (g.L.Link.line c.send.new.self.wire.link) in
    let command = c.in_ok-command.command in
    let stays = ap (λ (k : Command). is_logout k.request) c.in_ok-command.ensures.command.0 ∙ c.requires.stays in
    let reported : List Reply → Type 0 = λ replies. g.S.ReplySink.took c.args.sink.now replies c.send.new.sink in
    subst (λ w. KeepsMap (reported_server (g.L.Link.line w.link)) new) c.in_ok-command.ensures.same.0
    (among_keeps g.L.Link.visitors _ _ new (λ mid h. answered_so (KeepsMap mid) command stays reported c.send.new.self.wire.heard.read mid new (map_lasts mid) c.send.result h) (c.send.ensures.outcome honest))

pub returns-clause-stays_in : goal.returns-clause-stays_in
returns-clause-stays_in g c honest =
    let new = reported_server (g.L.Link.line c.send.new.self.wire.link) in
    let command = c.in_ok-command.command in
    let stays = ap (λ (k : Command). is_logout k.request) c.in_ok-command.ensures.command.0 ∙ c.requires.stays in
    let reported : List Reply → Type 0 = λ replies. g.S.ReplySink.took c.args.sink.now replies c.send.new.sink in
    subst (λ w. StaysIn (reported_server (g.L.Link.line w.link)) new) c.in_ok-command.ensures.same.0
    (among_stays g.L.Link.visitors _ _ new
    (λ mid h logged. answered_so (λ t. is_logged_in t.condition ≡ true) command stays reported c.send.new.self.wire.heard.read mid new (login_lasts mid logged) c.send.result h) (c.send.ensures.outcome honest))
