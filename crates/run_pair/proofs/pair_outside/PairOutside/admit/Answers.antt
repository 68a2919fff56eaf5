use Rattle.std.proofs.Common.{◌∙◌, sym, inl, refl}
use Rattle.std.specs.Prelude.{◌&&◌, length}
use Rattle.mailcore.specs.declared.side.Side.TheVariants as side
use Rattle.outside.specs.MailboxOperations.{NoRoom}
use Rattle.run_pair.specs.BookParts.{kept_of}
use Rattle.run_pair.specs.Faults.{unstepped}
use Rattle.run_pair.specs.Pairs.{device_of, far_answered}
use Rattle.run_pair.proofs.Arriving.{alone_right}
use Rattle.run_pair.proofs.BoxCalls.{admitting, near_ends}
use Rattle.run_pair.proofs.BeforeSteps.{opening_call, unstepped_call}
use Rattle.run_pair.proofs.Ending.{stuck}
use Rattle.run_pair.proofs.Opening.{near_open, near_stays}
use Rattle.run_pair.proofs.pair_outside.PairOutside.admit.Goals as goal

pub returns-then-is_broken-clause-call : goal.returns-then-is_broken-clause-call
returns-then-is_broken-clause-call g c = stuck _ _ _ _ _ _ _ (device_of c.args.self.now) c.args.self.now.tally (sym c.is_broken.ensures ∙ c.if-is_broken.true) tt (inl refl)

pub admit-answer-requires : goal.admit-answer-requires
admit-answer-requires g c =
    let p = c.args.self.now in
    let whole = sym c.is_broken.ensures ∙ c.if-is_broken.false in
    record { whole = p.near_whole whole; «open» = near_open (far_answered p) _ _ p.listed.devices (kept_of p.book) c.requires.is_open }

pub returns : goal.returns
returns g c =
    let p = c.args.self.now in
    let b = c.admit-answer in
    let e = c.end_opening in
    let whole = sym c.is_broken.ensures ∙ c.if-is_broken.false in
    let ends = near_ends p (admitting (device_of p) g.N.Mailbox.alone (g.F.Mailbox.alone && g.N.Mailbox.alone) (alone_right g.F.Mailbox.alone g.N.Mailbox.alone) (g.N.Mailbox.seen p.near).stored.waiting) b.new.self e.new.self (unstepped b.result) e.result whole e.ensures.same e.ensures.now (unstepped_call _ _ _ (NoRoom side.Near (λ b. length b.waiting)) _ _ _ _ b.result (rw p.near_is at b.ensures.call)) in
    record {
      was_honest = λ h. (h.0, b.ensures.was_honest h.1, h.2);
      keywords = refl;
      opened = near_stays (far_answered p) _ _ _ p.listed.devices (kept_of p.book) c.requires.is_open b.ensures.open;
      call = opening_call side.Near b.result e.result e.ensures.same ends.call;
      why = ends.why;
      tallied = ends.tallied;
    }
