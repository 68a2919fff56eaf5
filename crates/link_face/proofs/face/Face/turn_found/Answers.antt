use Rattle.std.proofs.Common.{subst}
use Rattle.link_face.specs.Extents.{Looks}
use Rattle.link_face.proofs.FaceLemmas.{other_unchanged}
use Rattle.link_face.proofs.face.Face.turn_found.Goals as goal

pub returns-in_ok-turn_front-in-Whole-clause-unchanged : goal.returns-in_ok-turn_front-in-Whole-clause-unchanged
returns-in_ok-turn_front-in-Whole-clause-unchanged c =
    other_unchanged c.args.self.now c.turn_front.new.self c.in-Whole.len (subst (Looks c.args.self.now.incoming) c.in-Whole.is c.requires.looks) c.in_ok-turn_front-in-Whole.ensures.renamed
