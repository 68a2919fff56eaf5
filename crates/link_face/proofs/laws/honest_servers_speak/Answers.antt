use Rattle.link_face.proofs.Speaking.{started_speaks, sent_speaks, received_speaks}
use Rattle.link_face.proofs.laws.honest_servers_speak.Goals as goal

pub returns : goal.returns
returns c = record {
  starts = started_speaks;
  sends = λ v came bytes old new s h. sent_speaks v came bytes old new s h;
  receives = λ came bytes old new r h. received_speaks old new came bytes r h;
}
