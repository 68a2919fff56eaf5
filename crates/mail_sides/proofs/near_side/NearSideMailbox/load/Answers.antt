use Rattle.std.proofs.Common.{◌≡◌, ℕ, List, Bool, true, false, Some, None, Result, Ok, Err}
use Rattle.std.specs.Prelude.{IfOk, if◌then◌else◌}
use Rattle.mailcore.specs.Operations.{bytes_of}
use Rattle.near_box.specs.declared.near_fault.NearFault.{NearFault}
use Rattle.near_box.specs.Boxes.{mailbox_of}
use Rattle.mailcore.specs.Mailboxes.{Mailbox}
use Rattle.outside.specs.MailboxOperations.{Loads}
use Rattle.mail_sides.proofs.NearCalls.{reads}
use Rattle.mail_sides.proofs.near_side.NearSideMailbox.load.Goals as goal

loaded : (uid : ℕ) (body : List ℕ) (n : Mailbox) (answer : Result Bool NearFault) → IfOk answer (λ is_there. bytes_of uid n.store ≡ (if is_there then Some body else None))
    → IfOk answer (λ is_there. Loads uid body is_there n)
loaded uid body n (Ok true) h = h
loaded uid body n (Ok false) h = h
loaded uid body n (Err e) h = tt

pub returns-clause-call : goal.returns-clause-call
returns-clause-call g c = rw c.reported_by.ensures (reads c.args.self.now c.load.new.self c.requires.open c.requires.whole
    (Loads c.args.uid c.load.new.self.body.items) c.load.result c.load.ensures.ends (λ h. (c.load.ensures.keeps h).0)
    (λ h. loaded c.args.uid c.load.new.self.body.items (mailbox_of c.args.self.now.near) c.load.result (c.load.ensures.bytes h)))
