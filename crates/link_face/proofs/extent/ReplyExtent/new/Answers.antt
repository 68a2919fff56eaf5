use Rattle.std.proofs.Common.{arith}
use Rattle.link_face.proofs.SoughtLemmas.{none_empty}
use Rattle.link_face.proofs.extent.ReplyExtent.new.Goals as goal

pub returns : goal.returns
returns c = λ bytes. record { within = omega arith; scanner_is = c.new.ensures; none = none_empty }
