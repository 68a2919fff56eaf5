use Rattle.worlds.proofs.ListedLemmas.{listings_end}
use Rattle.worlds.proofs.listed.read_listings.Goals as goal

pub returns-clause-text : goal.returns-clause-text
returns-clause-text c = listings_end _ _ _ _ _ _ _ c.in_ok-far.ensures.text c.in_ok-near.ensures.text c.in_ok-admit_waiting.ensures.text
