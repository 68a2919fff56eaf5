use Rattle.mailcore.proofs.CopyLemmas.{content-copy_text}
use Rattle.mailcore.proofs.laws.content_of_copy.Goals as goal

pub returns : goal.returns
returns c = content-copy_text
