use Rattle.std.proofs.Common.{◌∙◌, sym, refl}
use Rattle.std.specs.Prelude.{◌&&◌}
use Rattle.mailcore.specs.declared.side.Side.TheVariants as side
use Rattle.mailcore.specs.Spared.{spares}
use Rattle.outside.specs.MailboxCalls.{Never}
use Rattle.outside.specs.MailboxOperations.{HasNumbers, ListsWithin}
use Rattle.run_pair.specs.BookParts.{kept_of}
use Rattle.run_pair.specs.Faults.{unstepped}
use Rattle.run_pair.specs.Pairs.{device_of, near_answered}
use Rattle.run_pair.proofs.Arriving.{alone_left}
use Rattle.run_pair.proofs.BoxCalls.{far_ends, if_ok, listing_far}
use Rattle.run_pair.proofs.BeforeSteps.{if_answered, opening_call, unstepped_call}
use Rattle.run_pair.proofs.Ending.{stuck}
use Rattle.run_pair.proofs.Opening.{far_open, far_stays}
use Rattle.run_pair.proofs.pair_outside.PairOutside.look_far.Goals as goal

pub returns-then-is_broken-clause-call : goal.returns-then-is_broken-clause-call
returns-then-is_broken-clause-call g c = stuck _ _ _ _ _ _ _ (device_of c.args.self.now) c.args.self.now.tally (sym c.is_broken.ensures ∙ c.if-is_broken.true) tt refl

pub list-answer-requires : goal.list-answer-requires
list-answer-requires g c =
    let p = c.args.self.now in
    let whole = sym c.is_broken.ensures ∙ c.if-is_broken.false in
    record { whole = p.far_whole whole; «open» = far_open _ _ (near_answered p) p.listed.devices (kept_of p.book) c.requires.is_open }

pub returns : goal.returns
returns g c =
    let p = c.args.self.now in
    let b = c.list-answer in
    let e = c.end_opening in
    let whole = sym c.is_broken.ensures ∙ c.if-is_broken.false in
    let ends = far_ends p (listing_far (device_of p) g.F.Mailbox.alone (g.F.Mailbox.alone && g.N.Mailbox.alone) (alone_left g.F.Mailbox.alone g.N.Mailbox.alone) (g.F.Mailbox.seen p.far).stored.store.next (spares c.none.result)) b.new.self e.new.self (unstepped b.result) e.result whole e.ensures.same e.ensures.now (unstepped_call _ _ _ Never _ _ _ _ b.result (rw p.far_is at b.ensures.call)) in
    record {
      was_honest = λ h. (b.ensures.was_honest h.0, h.1, h.2);
      keywords = b.ensures.keywords;
      opened = far_stays _ _ _ (near_answered p) p.listed.devices (kept_of p.book) c.requires.is_open b.ensures.open;
      call = opening_call side.Far b.result e.result e.ensures.same ends.call;
      why = ends.why;
      tallied = ends.tallied;
      numbers = if_ok side.Far HasNumbers (unstepped b.result) e.result e.ensures.same (if_answered HasNumbers b.result b.ensures.numbers);
      within = λ h. if_ok side.Far (ListsWithin (g.F.Mailbox.keywords p.far)) (unstepped b.result) e.result e.ensures.same (if_answered (ListsWithin (g.F.Mailbox.keywords p.far)) b.result (b.ensures.within h.0));
    }
