use Rattle.link_face.proofs.ChunkLemmas.{rest-are_some, taken_first}
use Rattle.link_face.proofs.chunks.Chunks.take_first.Goals as goal

pub invariant_of-self : goal.invariant_of-self
invariant_of-self c = rest-are_some c.self.inside.chunks.items c.pop.new.self.items c.pop.result c.self.invariant c.pop.ensures.items

pub returns : goal.returns
returns c =
    taken_first c.self.inside.chunks.items c.pop.new.self.items c.pop.result c.args.self.now c.self.inside.chunks.len c.pop.new.self.len c.self.invariant c.pop.ensures.items
    c.self.inside.chunks.ok.0 c.pop.ensures.cases c.self.view_is
