use Rattle.link_face.proofs.FaceLemmas.{listed_notes}
use Rattle.link_face.proofs.face.Face.turn_list.Goals as goal

pub returns-clause-names : goal.returns-clause-names
returns-clause-names c = listed_notes c.args.self.now _ c.args.len c.requires.listed c.in_ok-turn_front.ensures.rest
