use Rattle.std.proofs.Common.{ℕ, ◌+◌, List, ◌∙◌, ap, subst}
use Rattle.imap_session.specs.Lines.{reported_server}
use Rattle.imap_commands.specs.declared.command.Command.{Command}
use Rattle.imap_client.specs.Appending.{request_to_add}
use Rattle.imap_client.specs.Exchanged.{Exchanged}
use Rattle.imap_client.specs.Tags.{tag_text}
use Rattle.imap_client.proofs.InTwo.{addition_in_two}
use Rattle.imap_session.specs.Visits.{Among}
use Rattle.std.proofs.Common.{inl, refl, sym, Err}
use Rattle.std.proofs.lemmas.Result.{err_from_is_err_and}
use Rattle.imap_link.specs.declared.fault.FarFault.TheVariants as faults
use Rattle.imap_client.specs.Exchanged.{command_at}
use Rattle.imap_client.specs.Seen.{KeepsMap}
use Rattle.imap_client.proofs.Lasting.{exchanged_so}
use Rattle.imap_client.proofs.Mapped.{among_keeps, map_lasts}
use Rattle.imap_client.proofs.Visited.{stopped_or, unsent}
use Rattle.imap_link.specs.Sinks.{any_replies}
use Rattle.imap_client.proofs.session.Session.ask_to_add.Goals as goal

pub deliver-requires-clause-parts : goal.deliver-requires-clause-parts
deliver-requires-clause-parts g c = record {
  command = record { tag = c.in_ok-tag.tag; request = request_to_add c.args.addition.now };
  is = addition_in_two c.in_ok-tag.tag c.deref.result.now c.in_ok-front.front.items c.args.addition.now c.requires c.deref.ensures.value c.in_ok-front.ensures;
}

pub returns-clause-outcome : goal.returns-clause-outcome
returns-clause-outcome g c honest =
    let request = request_to_add c.args.addition.now in
    let new = (reported_server (g.L.Link.line c.deliver.new.self.wire.link)) in
    let heard = c.deliver.new.self.wire.heard.read in
    let tag = c.in_ok-tag.ensures.tag.0 ∙ ap (λ (k : ℕ). tag_text (k + 1)) c.in_ok-begin.ensures.same.1 in
    let wire = c.in_ok-tag.ensures.same.0 ∙ c.in_ok-begin.ensures.same.0 in
    let parts = addition_in_two c.in_ok-tag.tag c.deref.result.now c.in_ok-front.front.items c.args.addition.now c.requires c.deref.ensures.value c.in_ok-front.ensures in
    subst (λ w. Among g.L.Link.visitors (Exchanged (record { tag = tag_text (c.args.self.now.tags + 1); request = request }) any_replies c.deliver.result heard) (reported_server (g.L.Link.line w.link)) new) wire
    (subst (λ (t : List ℕ). Among g.L.Link.visitors (Exchanged (record { tag = t; request = request }) any_replies c.deliver.result heard) (reported_server (g.L.Link.line c.next_tag.new.self.wire.link)) new) tag
    (c.deliver.ensures.outcome honest (record { tag = c.in_ok-tag.tag; request = request }) parts))

pub returns-in_err-begin-clause-outcome : goal.returns-in_err-begin-clause-outcome
returns-in_err-begin-clause-outcome g c honest =
    let p = err_from_is_err_and c.from_residual.result c.from_residual.ensures.1 in
    subst (λ w. Among g.L.Link.visitors (Exchanged (command_at (c.args.self.now.tags + 1) (request_to_add c.args.addition.now)) any_replies c.from_residual.result w.heard.read) (reported_server (g.L.Link.line c.args.self.now.wire.link)) (reported_server (g.L.Link.line w.link))) (sym (c.in_err-begin.ensures.same.0))
    (unsent g.L.Link.visitors (λ r. Exchanged (command_at (c.args.self.now.tags + 1) (request_to_add c.args.addition.now)) any_replies r c.args.self.now.wire.heard.read) c.from_residual.result faults.Stopped (reported_server (g.L.Link.line c.args.self.now.wire.link)) (p.1 ∙ ap Err (p.2 ∙ c.in_err-begin.ensures.failed.0)) (inl refl))

pub returns-in_err-tag-clause-outcome : goal.returns-in_err-tag-clause-outcome
returns-in_err-tag-clause-outcome g c honest =
    let p = err_from_is_err_and c.from_residual-in_err-tag.result c.from_residual-in_err-tag.ensures.1 in
    subst (λ w. Among g.L.Link.visitors (Exchanged (command_at (c.args.self.now.tags + 1) (request_to_add c.args.addition.now)) any_replies c.from_residual-in_err-tag.result w.heard.read) (reported_server (g.L.Link.line c.args.self.now.wire.link)) (reported_server (g.L.Link.line w.link))) (sym (c.in_err-tag.ensures.same.0 ∙ c.in_ok-begin.ensures.same.0))
    (stopped_or g.L.Link.visitors (λ r. Exchanged (command_at (c.args.self.now.tags + 1) (request_to_add c.args.addition.now)) any_replies r c.args.self.now.wire.heard.read) c.from_residual-in_err-tag.result c.in_err-tag.field-0.0 (reported_server (g.L.Link.line c.args.self.now.wire.link)) (p.1 ∙ ap Err p.2) c.in_err-tag.ensures.err (inl refl) (inl refl))

pub returns-in_err-front-clause-outcome : goal.returns-in_err-front-clause-outcome
returns-in_err-front-clause-outcome g c honest =
    let p = err_from_is_err_and c.from_residual-in_err-front.result c.from_residual-in_err-front.ensures.1 in
    subst (λ w. Among g.L.Link.visitors (Exchanged (command_at (c.args.self.now.tags + 1) (request_to_add c.args.addition.now)) any_replies c.from_residual-in_err-front.result w.heard.read) (reported_server (g.L.Link.line c.args.self.now.wire.link)) (reported_server (g.L.Link.line w.link))) (sym (c.in_ok-tag.ensures.same.0 ∙ c.in_ok-begin.ensures.same.0))
    (unsent g.L.Link.visitors (λ r. Exchanged (command_at (c.args.self.now.tags + 1) (request_to_add c.args.addition.now)) any_replies r c.args.self.now.wire.heard.read) c.from_residual-in_err-front.result faults.NoMemory (reported_server (g.L.Link.line c.args.self.now.wire.link)) (p.1 ∙ ap Err p.2) (inl refl))

pub returns-clause-letters : goal.returns-clause-letters
returns-clause-letters g c honest =
    let new = reported_server (g.L.Link.line c.deliver.new.self.wire.link) in
    let command : Command = record { tag = c.in_ok-tag.tag; request = request_to_add c.args.addition.now } in
    let parts = addition_in_two c.in_ok-tag.tag c.deref.result.now c.in_ok-front.front.items c.args.addition.now c.requires c.deref.ensures.value c.in_ok-front.ensures in
    subst (λ w. KeepsMap (reported_server (g.L.Link.line w.link)) new) (c.in_ok-tag.ensures.same.0 ∙ c.in_ok-begin.ensures.same.0)
    (among_keeps g.L.Link.visitors _ _ new (λ mid h. exchanged_so (KeepsMap mid) command refl any_replies c.deliver.new.self.wire.heard.read mid new (map_lasts mid) c.deliver.result h) (c.deliver.ensures.outcome honest command parts))
