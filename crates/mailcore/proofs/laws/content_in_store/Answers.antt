use Rattle.mailcore.proofs.CopyLemmas.{content-with_line_ends}
use Rattle.mailcore.proofs.laws.content_in_store.Goals as goal

pub returns : goal.returns
returns c = content-with_line_ends
