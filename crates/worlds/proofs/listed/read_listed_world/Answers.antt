use Rattle.std.proofs.Common.{List, ℕ, subst}
use Rattle.worlds.specs.declared.listed.ListedWorld.{ListedWorld}
use Rattle.worlds.specs.ListedWorlds.{ListsWorld}
use Rattle.worlds.proofs.ListedLemmas.{lists_world}
use Rattle.worlds.proofs.listed.read_listed_world.Goals as goal

pub returns-clause-text : goal.returns-clause-text
returns-clause-text c =
    let listed : ListedWorld = record { options = c.in_ok-options.options; far = c.in_ok-far.far; near = c.in_ok-far.near; state = c.in_ok-state.state } in
    subst (λ (text : List ℕ). ListsWorld listed text) c.new-lines.ensures.1
    (lists_world listed _ _ _ _ _ c.in_ok-options.ensures.head c.in_ok-far.ensures.text c.in_ok-state.ensures.text c.in_ok-read_end.ensures.text c.in_ok-read_nothing.ensures.ok)
