use Rattle.std.proofs.Common.{◌∙◌, sym, inl, refl}
use Rattle.mailcore.specs.KeywordNames.{kept}
use Rattle.run_pair.specs.BookParts.{kept_of}
use Rattle.run_pair.specs.Pairs.{device_of, far_answered, near_answered}
use Rattle.run_pair.proofs.CarryCalls.{pull_ends, push_ends}
use Rattle.run_pair.proofs.Ending.{stuck}
use Rattle.run_pair.proofs.Opening.{both_stay, far_open, near_open}
use Rattle.run_pair.proofs.pair_outside.PairOutside.carry.Goals as goal

pub returns-then-is_broken-clause-call : goal.returns-then-is_broken-clause-call
returns-then-is_broken-clause-call g c = stuck _ _ _ _ _ _ _ (device_of c.args.self.now) c.args.self.now.tally (sym c.is_broken.ensures ∙ c.if-is_broken.true) tt (inl refl)

pub copy-answer-requires : goal.copy-answer-requires
copy-answer-requires g c =
    let p = c.args.self.now in
    let whole = sym c.is_broken.ensures ∙ c.if-is_broken.false in
    record {
      source = p.far_is;
      target = p.near_is;
      from_whole = p.far_whole whole;
      to_whole = p.near_whole whole;
      from_open = far_open _ _ (near_answered p) p.listed.devices (kept_of p.book) c.requires.far_open;
      to_open = near_open (far_answered p) _ _ p.listed.devices (kept_of p.book) c.requires.near_open;
    }

pub returns-in-Pull : goal.returns-in-Pull
returns-in-Pull g c =
    let p = c.args.self.now in
    let b = c.copy-answer in
    let e = c.end_carry in
    let whole = sym c.is_broken.ensures ∙ c.if-is_broken.false in
    let ends = pull_ends p c.args.uid (kept (g.N.Mailbox.keywords p.near) c.args.flags) c.args.mark b.new.from b.new.to e.new.self b.result e.result whole e.ensures.same e.ensures.now b.ensures.why b.ensures.effect in
    record {
      was_honest = λ h. (b.ensures.from_was h.0, b.ensures.to_was h.1, h.2);
      keywords = b.ensures.from_keywords;
      opened = both_stay _ _ _ _ _ _ p.listed.devices (kept_of p.book) c.requires.far_open c.requires.near_open b.ensures.from_open b.ensures.to_open;
      call = rw (c.in-Pull.is, p.one_map) ends.call;
      why = rw c.in-Pull.is ends.why;
      tallied = ends.tallied;
    }

pub copy-answer-requires-in-Push : goal.copy-answer-requires-in-Push
copy-answer-requires-in-Push g c =
    let p = c.args.self.now in
    let whole = sym c.is_broken.ensures ∙ c.if-is_broken.false in
    record {
      source = p.near_is;
      target = p.far_is;
      from_whole = p.near_whole whole;
      to_whole = p.far_whole whole;
      from_open = near_open (far_answered p) _ _ p.listed.devices (kept_of p.book) c.requires.near_open;
      to_open = far_open _ _ (near_answered p) p.listed.devices (kept_of p.book) c.requires.far_open;
    }

pub returns-in-Push : goal.returns-in-Push
returns-in-Push g c =
    let p = c.args.self.now in
    let b = c.copy-answer-in-Push in
    let e = c.end_carry-in-Push in
    let whole = sym c.is_broken.ensures ∙ c.if-is_broken.false in
    let ends = push_ends p c.args.uid (kept (g.F.Mailbox.keywords p.far) c.args.flags) c.args.mark b.new.to b.new.from e.new.self b.result e.result whole e.ensures.same e.ensures.now b.ensures.why b.ensures.effect in
    record {
      was_honest = λ h. (b.ensures.to_was h.0, b.ensures.from_was h.1, h.2);
      keywords = b.ensures.to_keywords;
      opened = both_stay _ _ _ _ _ _ p.listed.devices (kept_of p.book) c.requires.far_open c.requires.near_open b.ensures.to_open b.ensures.from_open;
      call = rw c.in-Push.is ends.call;
      why = rw c.in-Push.is ends.why;
      tallied = ends.tallied;
    }
