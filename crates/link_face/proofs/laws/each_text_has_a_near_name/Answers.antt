use Rattle.link_face.proofs.NamesBack.{has_near_name}
use Rattle.link_face.proofs.laws.each_text_has_a_near_name.Goals as goal

pub returns : goal.returns
returns c = has_near_name
