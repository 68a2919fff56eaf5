use Rattle.std.proofs.Common.{◌∙◌, None, Some, ap, sym, subst}
use Rattle.std.proofs.lemmas.Result.{IfOk-weaker}
use Rattle.imap_session.specs.Portions.{LineFault}
use Rattle.imap_session.specs.Unread.{Dropping}
use Rattle.imap_server.specs.Unreads.{fault_of}
use Rattle.imap_server.specs.Taking.{reporting, dropped_answer}
use Rattle.imap_server.specs.Writing.{Answered}
use Rattle.imap_server.proofs.DropFeeds.{drops_on, drops_all, passes_from, dropped_sound}
use Rattle.imap_server.proofs.service.Service.drop_line.Goals as goal

pub returns-in-Some-clause-ok : goal.returns-in-Some-clause-ok
returns-in-Some-clause-ok c =
    let fault = ap fault_of (c.in-Some.ensures.same ∙ c.new-dropped.ensures.fault) in
    IfOk-weaker c.end_line.result _ _
    (λ after h in_time text at is parts line.
    drops_all c.args.self.now text line (fault_of c.args.fault) at is c.in-Some.field-0 c.pass.new.self.last c.args.out.now.items c.end_line.new.out.items c.end_line.new.self after in_time
    (passes_from c.new-dropped.result.last (c.args.rest.now) _ (Some c.in-Some.field-0) c.pass.new.self.last c.new-dropped.ensures.last (sym parts) c.in-Some.ensures.passes) h.0
    (subst (λ (f : LineFault). Answered (reporting (dropped_answer f c.pass.new.self.last) c.args.self.now) c.args.out.now.items c.end_line.new.out.items c.end_line.new.self) fault h.1))
    c.end_line.ensures.ok

pub returns-in-None-clause-ok : goal.returns-in-None-clause-ok
returns-in-None-clause-ok c in_time text at is parts line =
    let fault = ap fault_of (c.in-None.ensures.same ∙ c.new-dropped.ensures.fault) in
    drops_on c.args.self.now text line (fault_of c.args.fault) at is c.pass.new.self.last c.args.out.now.items _ in_time
    (passes_from c.new-dropped.result.last (c.args.rest.now) _ None c.pass.new.self.last c.new-dropped.ensures.last (sym parts) c.in-None.ensures.passes)
    (ap (λ (f : LineFault). Dropping f c.pass.new.self.last) fault)
    (dropped_sound c.args.self.now c.pass.new.self in_time)
