use Rattle.std.proofs.Common.{◌∙◌}
use Rattle.link_face.proofs.Pieces.{front_and_rest}
use Rattle.link_face.proofs.incoming.Incoming.take.Goals as goal

pub returns-clause-ok : goal.returns-clause-ok
returns-clause-ok c =
    front_and_rest c.self.inside.bytes.items c.args.self.now c.in_ok-front.front.items c.self.inside.taken c.args.len c.self.view_is
    (c.in_ok-front.ensures.items ∙ c.front.ensures)
