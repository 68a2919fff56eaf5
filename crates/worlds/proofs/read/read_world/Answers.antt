use Rattle.std.proofs.Common.{ℕ, List, subst}
use Rattle.worlds.specs.OptionsText.{IsHead}
use Rattle.worlds.specs.WorldText.{text_from_far}
use Rattle.worlds.specs.Worlds.{world_of}
use Rattle.worlds.proofs.TextLemmas.{world_ends}
use Rattle.worlds.proofs.read.read_world.Goals as goal

pub returns-clause-text : goal.returns-clause-text
returns-clause-text c = λ kept.
    let w = c.in_ok-world.world in
    subst (λ (text : List ℕ). IsHead w.options (text_from_far (world_of w)) text) c.new-lines.ensures.1 (world_ends _ (text_from_far (world_of w)) _ _ (c.in_ok-world.ensures.text kept) c.in_ok-read_nothing.ensures.ok)
