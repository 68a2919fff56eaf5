use Rattle.std.proofs.Common.{arith, true, false}
use Rattle.mailcore.proofs.DrawLemmas.{GivesListed-none, GivesListed-more, GivesNew-after}
use Rattle.mailcore.proofs.KnownLemmas.{is_listed-look_up}
use Rattle.mailcore.proofs.marks.draw_new.Goals as goal

pub draws-init : goal.draws-init
draws-init g c = GivesListed-none _ _

pub draws-preserved : goal.draws-preserved
draws-preserved g c =
    GivesListed-more _ _ _ _ _ _ c.draws.invariant c.draw-mark.ensures.mark (is_listed-look_up c.args.known.now.keys _ true (cc)) c.draw-mark.ensures.moved

pub returns-then-not-contains-clause-new : goal.returns-then-not-contains-clause-new
returns-then-not-contains-clause-new g c =
    GivesNew-after _ _ _ _ _ _ c.draws.invariant (omega arith) c.draw-mark.ensures.mark (is_listed-look_up c.args.known.now.keys _ false (cc)) c.draw-mark.ensures.moved
