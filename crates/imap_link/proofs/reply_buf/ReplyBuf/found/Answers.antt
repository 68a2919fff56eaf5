use Rattle.std.proofs.Common.{◌≡◌, ◌∙◌, ℕ, List, Ok, ap, refl, subst}
use Rattle.imap_link.specs.ReplyBuffers.{Buffer}
use Rattle.imap_link.specs.Fronts.{Begun, Looks}
use Rattle.imap_link.proofs.BufferExits.{slice_is}
use Rattle.imap_link.proofs.reply_buf.ReplyBuf.found.Goals as goal

pub returns-in_default : goal.returns-in_default
returns-in_default c =
    let b = c.self.inside in
    let same = slice_is c.deref.result.now b.bytes.items b.next c.deref.ensures.value ∙ ap (λ (v : Buffer). v.unread) c.self.view_is in
    record {
      looks = subst (λ (l : List ℕ). Looks l (Ok c.in_ok-answer.answer)) same c.in_ok-answer.ensures.looks;
      begun = subst (λ (l : List ℕ). Begun l (Ok c.in_ok-answer.answer)) same c.in_ok-answer.ensures.begun;
      same = refl;
    }
