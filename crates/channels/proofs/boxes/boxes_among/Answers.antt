use Rattle.std.proofs.Common.{[], ap, ◌∙◌}
use Rattle.std.specs.List.{filter}
use Rattle.channels.specs.Boxes.{put_names}
use Rattle.channels.proofs.BoxLemmas.{put_names-both}
use Rattle.channels.proofs.boxes.boxes_among.Goals as goal

pub returns-clause-boxes : goal.returns-clause-boxes
returns-clause-boxes c = λ is_chosen states.
    let none = c.new-boxes.ensures.items in
    let far = c.in_ok-add_chosen.ensures.boxes is_chosen states in
    let near = c.in_ok-add_chosen-2.ensures.boxes is_chosen states in
    near ∙ ap (λ boxes. put_names boxes (filter is_chosen c.args.near.now)) (far ∙ ap (λ boxes. put_names boxes (filter is_chosen c.args.far.now)) none)
    ∙ put_names-both is_chosen [] c.args.far.now c.args.near.now
