use Rattle.std.proofs.Common.{◌≡◌, ◌++◌, ◌∷◌, [], map}
use Rattle.std.specs.Prelude.{codes}
use Rattle.std.specs.List.{flat_map}
use Rattle.mailcore.specs.declared.side.Side.TheVariants.{Far, Near}
use Rattle.worlds.specs.WorldText.{line_of, mailbox_text, state_text, waiting_line}
use Rattle.worlds.specs.Worlds.{store_of, waiting_of}
use Rattle.worlds.proofs.TextLemmas.{world_begins}
use Rattle.worlds.proofs.read.take_world.Goals as goal

pub returns-clause-text : goal.returns-clause-text
returns-clause-text c = λ kept.
    let parts = c.in_ok-far in
    let boxes : c.read_options.new.lines.rest.now ≡ mailbox_text Far (store_of parts.far) ++ (mailbox_text Near (store_of parts.near)
    ++ (flat_map waiting_line (map waiting_of parts.waiting.items) ++ c.read_mailboxes.new.lines.rest.now)) = parts.ensures.text kept in
    world_begins _ (mailbox_text Far (store_of parts.far)) (mailbox_text Near (store_of parts.near)) (flat_map waiting_line (map waiting_of parts.waiting.items))
    (state_text c.in_ok-state.state) (line_of (codes "end" ∷ [])) _ _ _ _ _ c.in_ok-options.ensures.head boxes c.in_ok-state.ensures.text c.in_ok-read_end.ensures.text
