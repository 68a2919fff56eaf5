use Rattle.mailcore.proofs.CopyLemmas.{mark_of-copy_text}
use Rattle.mailcore.proofs.laws.mark_of_copy.Goals as goal

pub returns : goal.returns
returns c = mark_of-copy_text
