use Rattle.link_face.proofs.ChunkLemmas.{took_before}
use Rattle.link_face.proofs.ready.Ready.take.Goals as goal

pub returns-clause-took : goal.returns-clause-took
returns-clause-took c =
    took_before c.self.inside.bytes.items c.deref.result.now c.copy_front-count.new.piece c.args.self.now c.self.inside.later _ c.self.inside.given c.copy_front-count.result c.self.view_is
    c.deref.ensures.value c.copy_front-count.ensures.copied c.given_next-self-inside.ensures.same
