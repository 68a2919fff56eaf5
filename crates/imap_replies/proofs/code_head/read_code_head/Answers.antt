use Rattle.std.proofs.Common.{◌∙◌, ap, refl, sym, Option, Some}
use Rattle.std.proofs.lemmas.Result.{err_from_is_err_and}
use Rattle.wire_reader.specs.Machine.{run_end}
use Rattle.imap_replies.specs.declared.code_head.CodeHead.{CodeHead}
use Rattle.imap_replies.specs.Heads.{code_of}
use Rattle.imap_replies.proofs.AtomDecided.{decided_ok, decided_err}
use Rattle.imap_replies.proofs.CodeHeadParts.{code_is}
use Rattle.imap_replies.proofs.code_head.read_code_head.Goals as goal

pub returns-in_err-atom : goal.returns-in_err-atom
returns-in_err-atom c =
    let p = err_from_is_err_and c.from_residual.result c.from_residual.ensures.1 in
    rw (p.1, p.2) (decided_err code_of refl c.args.bytes.now _ c.in_err-atom.ensures)

pub returns : goal.returns
returns c =
    let a = c.text.ensures.atom in
    let some = a.some in
    decided_ok code_of refl c.args.bytes.now _ _ c.in_ok-atom.ensures
    ∙ ap (λ (o : Option CodeHead). run_end o c.in_ok-atom.rest.now) (rw c.text.ensures.same at (code_is c.text.result.now some ∙ ap (λ (h : CodeHead). Some h) (sym c.code_of.ensures)))
