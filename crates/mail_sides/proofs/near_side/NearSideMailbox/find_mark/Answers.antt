use Rattle.outside.specs.MailboxOperations.{Finds}
use Rattle.mail_sides.proofs.NearCalls.{reads}
use Rattle.mail_sides.proofs.near_side.NearSideMailbox.find_mark.Goals as goal

pub returns-clause-call : goal.returns-clause-call
returns-clause-call g c = rw c.reported_by.ensures (reads c.args.self.now c.find_mark.new.self c.requires.open c.requires.whole
    (Finds c.args.mark c.args.from) c.find_mark.result c.find_mark.ensures.ends (λ h. (c.find_mark.ensures.keeps h).0) c.find_mark.ensures.found)
