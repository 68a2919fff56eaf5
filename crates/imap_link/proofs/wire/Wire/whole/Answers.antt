use Rattle.std.proofs.Common.{◌++◌, ◌∙◌, ap, arith, length, max, refl, subst, Ok, Result}
use Rattle.wire_reader.specs.declared.answer.Read.{Read}
use Rattle.wire_reader.specs.declared.answer.WireFault.{WireFault}
use Rattle.imap_session.specs.Ends.{ends_of}
use Rattle.imap_link.specs.Fronts.{Looks}
use Rattle.imap_link.specs.ReplyBuffers.{Buffer, Moves}
use Rattle.imap_link.proofs.Kept.{keeps-refl}
use Rattle.imap_link.proofs.Late.{after_now, begun_by, first_more, late_more, waits_as_before}
use Rattle.imap_link.proofs.Heard.{whole_read}
use Rattle.imap_link.proofs.wire.Wire.whole.Goals as goal

pub loop-init : goal.loop-init
loop-init g c = record {
  was_honest = λ h. h;
  steady = refl;
  same = λ h. keeps-refl _;
  read = refl;
  late = first_more _ c.args.self.now.heard.unread (omega arith);
}

pub returns-in-Whole-clause-heard : goal.returns-in-Whole-clause-heard
returns-in-Whole-clause-heard g c =
    let e = c.in_ok-len.ensures in
    whole_read (g.L.Link.honest c.loop.self.link) (ends_of (g.L.Link.line c.args.self.now.link) c.args.self.now.heard.unread) (g.L.Link.line c.loop.self.link) c.args.self.now.heard.read c.loop.self.heard c.step.new.self c.in-Whole.len
    (subst (λ (r : Read (Unit {0})). Looks c.loop.self.heard.unread (Ok r)) c.in-Whole.is e.looks) (subst (λ (r : Read (Unit {0})). Moves (Ok r) c.loop.self.heard c.step.new.self) c.in-Whole.is e.moves) c.loop.invariant.read c.loop.invariant.same

-- a piece came, and with it an error
pub returns-in_err-more-in_default-clause-late : goal.returns-in_err-more-in_default-clause-late
returns-in_err-more-in_default-clause-late g c =
    let most = length c.args.self.now.heard.unread in
    let grown = c.in_err-more-in_default.ensures.grows in
    let same = waits_as_before c.loop.self.heard c.step.new.self c.in_ok-len.field-0 c.in_ok-len.ensures.looks c.in_ok-len.ensures.moves c.in_default.not-Whole in
    let begun = begun_by c.loop.self.heard.unread c.in_ok-len.field-0 c.in_ok-len.ensures.looks c.in_ok-len.ensures.begun c.in_default.not-Whole in
    after_now c.args.self.now.heard.read (max 4096 most) c.more.new.self.heard c.more.new.self.heard refl (c.in_err-more-in_default.ensures.read ∙ ap (λ (b : Buffer). b.read) same ∙ c.loop.invariant.read)
    (late_more most c.loop.self.heard.unread c.more.new.self.heard.unread grown.0 (grown.2 ∙ ap (λ (b : Buffer). b.unread ++ grown.0) same) grown.1 begun.0 begun.1)
