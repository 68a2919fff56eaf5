use Rattle.std.proofs.Common.{◌∙◌, sym, refl}
use Rattle.mailcore.specs.declared.side.Side.TheVariants as side
use Rattle.run_pair.specs.Faults.{unstepped}
use Rattle.run_pair.specs.Pairs.{CannotOpen, device_of, far_answered, near_answered}
use Rattle.run_pair.specs.BookParts.{kept_of}
use Rattle.run_pair.proofs.BoxCalls.{far_ends, if_ok, near_ends, opening}
use Rattle.run_pair.proofs.BeforeSteps.{if_answered, opening_call, unstepped_call}
use Rattle.run_pair.proofs.Ending.{stuck}
use Rattle.run_pair.proofs.Opening.{far_opened, near_opened}
use Rattle.run_pair.proofs.pair_outside.PairOutside.open_box.Goals as goal

pub returns-then-is_broken-clause-call : goal.returns-then-is_broken-clause-call
returns-then-is_broken-clause-call g c = stuck _ _ _ _ _ _ _ (device_of c.args.self.now) c.args.self.now.tally (sym c.is_broken.ensures ∙ c.if-is_broken.true) tt refl

pub open-answer-requires : goal.open-answer-requires
open-answer-requires g c =
    let p = c.args.self.now in
    let whole = sym c.is_broken.ensures ∙ c.if-is_broken.false in
    record { whole = p.far_whole whole }

pub returns-in-Far : goal.returns-in-Far
returns-in-Far g c =
    let p = c.args.self.now in
    let b = c.open-answer in
    let e = c.end_opening in
    let whole = sym c.is_broken.ensures ∙ c.if-is_broken.false in
    let ends = far_ends p (opening (device_of p) side.Far (CannotOpen side.Far p)) b.new.self e.new.self (unstepped b.result) e.result whole e.ensures.same e.ensures.now (unstepped_call _ _ _ (CannotOpen side.Far p) _ _ _ _ b.result (rw p.far_is at b.ensures.call)) in
    record {
      was_honest = λ h. (b.ensures.was_honest h.0, h.1, h.2);
      keywords = b.ensures.keywords;
      opened = rw c.in-Far.is (if_ok side.Far _ (unstepped b.result) e.result e.ensures.same (if_answered _ b.result (far_opened (far_answered p) _ p.far_validities.items _ (near_answered p) p.listed.devices (kept_of p.book) b.result c.note_opened.ensures b.ensures.open)));
      call = rw c.in-Far.is (opening_call side.Far b.result e.result e.ensures.same ends.call);
      why = rw c.in-Far.is ends.why;
      tallied = ends.tallied;
    }

pub open-answer-requires-in-Near : goal.open-answer-requires-in-Near
open-answer-requires-in-Near g c =
    let p = c.args.self.now in
    let whole = sym c.is_broken.ensures ∙ c.if-is_broken.false in
    record { whole = p.near_whole whole }

pub returns-in-Near : goal.returns-in-Near
returns-in-Near g c =
    let p = c.args.self.now in
    let b = c.open-answer-in-Near in
    let e = c.end_opening-in-Near in
    let whole = sym c.is_broken.ensures ∙ c.if-is_broken.false in
    let ends = near_ends p (opening (device_of p) side.Near (CannotOpen side.Near p)) b.new.self e.new.self (unstepped b.result) e.result whole e.ensures.same e.ensures.now (unstepped_call _ _ _ (CannotOpen side.Near p) _ _ _ _ b.result (rw p.near_is at b.ensures.call)) in
    record {
      was_honest = λ h. (h.0, b.ensures.was_honest h.1, h.2);
      keywords = refl;
      opened = rw c.in-Near.is (if_ok side.Near _ (unstepped b.result) e.result e.ensures.same (if_answered _ b.result (near_opened (far_answered p) (near_answered p) _ p.near_validities.items _ p.listed.devices (kept_of p.book) b.result c.note_opened-in-Near.ensures b.ensures.open)));
      call = rw c.in-Near.is (opening_call side.Near b.result e.result e.ensures.same ends.call);
      why = rw c.in-Near.is ends.why;
      tallied = ends.tallied;
    }
