use Rattle.std.proofs.Common.{◌≡◌, ℕ, ap, ◌∙◌, arith, Result, Ok, Err}
use Rattle.mailcore.specs.CopyPieces.{text_left}
use Rattle.mailcore.specs.KeywordNames.{kept}
use Rattle.near_box.specs.declared.near_fault.NearFault.{NearFault}
use Rattle.near_box.specs.declared.near_fault.NearFault.TheVariants as near
use Rattle.mail_sides.specs.NearFaults.{reported}
use Rattle.mail_sides.proofs.NearCalls.{added_none, added_one, has_no_uid, ready}
use Rattle.mail_sides.proofs.near_side.NearSideMailbox.append_copy.Goals as goal

pub returns-in-Ok-clause-call : goal.returns-in-Ok-clause-call
returns-in-Ok-clause-call g c = added_one c.args.self.now c.append_copy.new.self c.requires.open c.requires.whole (text_left c.args.copy) (kept c.args.self.now.near.keywords c.args.flags) c.in-Ok.uid
    c.in-Ok.ensures.ends c.in-Ok.ensures.uid c.in-Ok.ensures.effect

pub returns-in-Err-clause-call : goal.returns-in-Err-clause-call
returns-in-Err-clause-call g c = rw c.reported.ensures (added_none c.args.self.now c.append_copy.new.self c.requires.open c.requires.whole (text_left c.args.copy) (kept c.args.self.now.near.keywords c.args.flags) c.in-Err.fault
    c.in-Err.ensures.ends c.in-Err.ensures.effect (λ h is. omega (arith, ((c.in-Err.ensures.exhausted h).0 (ap (λ (e : NearFault). Err e) is)).1)))

pub returns-in-Ok-clause-full : goal.returns-in-Ok-clause-full
returns-in-Ok-clause-full g c = λ h full.
    let out : Ok c.in-Ok.uid ≡ Err near.UidsExhausted =
    (c.in-Ok.ensures.exhausted h).1 (ready c.args.self.now c.append_copy.new.self c.requires.open c.requires.whole, has_no_uid c.args.self.now c.append_copy.new.self c.requires.open c.requires.whole (c.append_copy.ensures.was_honest h) full) in
    absurd (cc)

pub returns-in-Err-clause-full : goal.returns-in-Err-clause-full
returns-in-Err-clause-full g c = λ h full.
    let answer : Result ℕ NearFault = Err c.in-Err.fault in
    let out : answer ≡ Err near.UidsExhausted =
    (c.in-Err.ensures.exhausted h).1 (ready c.args.self.now c.append_copy.new.self c.requires.open c.requires.whole, has_no_uid c.args.self.now c.append_copy.new.self c.requires.open c.requires.whole (c.append_copy.ensures.was_honest h) full) in
    let is : c.in-Err.fault ≡ near.UidsExhausted = cc in
    ap Err (c.reported.ensures ∙ ap reported is)
