use Rattle.mailcore.proofs.ContentLemmas.{content-content}
use Rattle.mailcore.proofs.laws.content_of_content.Goals as goal

pub returns : goal.returns
returns c = content-content
