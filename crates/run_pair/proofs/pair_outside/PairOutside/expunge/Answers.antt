use Rattle.std.proofs.Common.{◌∙◌, sym, inl, refl}
use Rattle.mailcore.specs.declared.side.Side.TheVariants as side
use Rattle.outside.specs.MailboxOperations.{removed}
use Rattle.outside.proofs.Sparing.{removal_changes_one}
use Rattle.run_pair.specs.BookParts.{kept_of}
use Rattle.run_pair.specs.Pairs.{device_of, far_answered, near_answered}
use Rattle.run_pair.proofs.BoxCalls.{far_ends, near_ends, turning}
use Rattle.run_pair.proofs.Ending.{stuck}
use Rattle.run_pair.proofs.Opening.{far_open, far_stays, near_open, near_stays}
use Rattle.run_pair.proofs.pair_outside.PairOutside.expunge.Goals as goal

pub returns-then-is_broken-clause-call : goal.returns-then-is_broken-clause-call
returns-then-is_broken-clause-call g c = stuck _ _ _ _ _ _ _ (device_of c.args.self.now) c.args.self.now.tally (sym c.is_broken.ensures ∙ c.if-is_broken.true) tt (inl refl)

pub expunge-answer-requires : goal.expunge-answer-requires
expunge-answer-requires g c =
    let p = c.args.self.now in
    let whole = sym c.is_broken.ensures ∙ c.if-is_broken.false in
    record { whole = p.far_whole whole; «open» = far_open _ _ (near_answered p) p.listed.devices (kept_of p.book) (rw c.in-Far.is at c.requires.is_open) }

pub returns-in-Far : goal.returns-in-Far
returns-in-Far g c =
    let p = c.args.self.now in
    let b = c.expunge-answer in
    let e = c.end_naming in
    let whole = sym c.is_broken.ensures ∙ c.if-is_broken.false in
    let ends = far_ends p (turning (device_of p) c.args.uid (removed c.args.uid) (removal_changes_one c.args.uid) side.Far) b.new.self e.new.self b.result e.result whole e.ensures.same e.ensures.now (rw p.far_is at b.ensures.call) in
    record {
      was_honest = λ h. (b.ensures.was_honest h.0, h.1, h.2);
      keywords = b.ensures.keywords;
      opened = far_stays _ _ _ (near_answered p) p.listed.devices (kept_of p.book) (rw c.in-Far.is at c.requires.is_open) b.ensures.open;
      call = rw c.in-Far.is ends.call;
      why = rw c.in-Far.is ends.why;
      tallied = rw c.in-Far.is ends.tallied;
    }

pub expunge-answer-requires-in-Near : goal.expunge-answer-requires-in-Near
expunge-answer-requires-in-Near g c =
    let p = c.args.self.now in
    let whole = sym c.is_broken.ensures ∙ c.if-is_broken.false in
    record { whole = p.near_whole whole; «open» = near_open (far_answered p) _ _ p.listed.devices (kept_of p.book) (rw c.in-Near.is at c.requires.is_open) }

pub returns-in-Near : goal.returns-in-Near
returns-in-Near g c =
    let p = c.args.self.now in
    let b = c.expunge-answer-in-Near in
    let e = c.end_naming-in-Near in
    let whole = sym c.is_broken.ensures ∙ c.if-is_broken.false in
    let ends = near_ends p (turning (device_of p) c.args.uid (removed c.args.uid) (removal_changes_one c.args.uid) side.Near) b.new.self e.new.self b.result e.result whole e.ensures.same e.ensures.now (rw p.near_is at b.ensures.call) in
    record {
      was_honest = λ h. (h.0, b.ensures.was_honest h.1, h.2);
      keywords = refl;
      opened = near_stays (far_answered p) _ _ _ p.listed.devices (kept_of p.book) (rw c.in-Near.is at c.requires.is_open) b.ensures.open;
      call = rw c.in-Near.is ends.call;
      why = rw c.in-Near.is ends.why;
      tallied = rw c.in-Near.is ends.tallied;
    }
