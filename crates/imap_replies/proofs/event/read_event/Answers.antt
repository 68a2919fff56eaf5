use Rattle.std.proofs.Common.{◌∙◌, ap, refl, sym, Option}
use Rattle.std.proofs.lemmas.Result.{err_from_is_err_and}
use Rattle.wire_reader.specs.Machine.{run_end}
use Rattle.wire_tokens.specs.Atoms.{is_atom_byte}
use Rattle.imap_replies.specs.declared.event.Event.{Event}
use Rattle.imap_replies.specs.Heads.{event_of}
use Rattle.imap_replies.proofs.AtomDecided.{decided_ok, decided_err, refused_end, atom_stop}
use Rattle.imap_replies.proofs.EventParts.{event_is}
use Rattle.imap_replies.proofs.event.read_event.Goals as goal

pub returns-in_err-atom : goal.returns-in_err-atom
returns-in_err-atom c =
    let p = err_from_is_err_and c.from_residual.result c.from_residual.ensures.1 in
    rw (p.1, p.2) (decided_err (event_of c.args.number) refl c.args.bytes.now _ c.in_err-atom.ensures)

pub returns-in-Some : goal.returns-in-Some
returns-in-Some c =
    let a = c.text.ensures.atom in
    let some = a.some in
    decided_ok (event_of c.args.number) refl c.args.bytes.now _ _ c.in_ok-atom.ensures
    ∙ ap (λ (o : Option Event). run_end o c.in_ok-atom.rest.now) (rw c.text.ensures.same at (event_is c.args.number c.text.result.now _ some refl ∙ sym c.in-Some.ensures))

pub returns-in-None : goal.returns-in-None
returns-in-None c =
    let a = c.text.ensures.atom in
    let some = a.some in
    decided_ok (event_of c.args.number) refl c.args.bytes.now _ _ c.in_ok-atom.ensures
    ∙ ap (λ (o : Option Event). run_end o c.in_ok-atom.rest.now) (rw c.text.ensures.same at (event_is c.args.number c.text.result.now _ some refl ∙ sym c.in-None.ensures))
    ∙ refused_end is_atom_byte c.in_ok-atom.rest.now (atom_stop c.args.bytes.now _ _ c.in_ok-atom.ensures)
