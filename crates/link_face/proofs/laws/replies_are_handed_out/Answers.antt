use Rattle.link_face.proofs.HandingLemmas.{replies_are_handed_out}
use Rattle.link_face.proofs.laws.replies_are_handed_out.Goals as goal

pub returns : goal.returns
returns c = replies_are_handed_out
