-- What a run leaves where others add messages.
use Rattle.std.proofs.Common.{◌≡◌, refl}
use Rattle.mailcore.specs.declared.side.Side.TheVariants.{Far, Near}
use Rattle.mailcore.specs.Rise.{Rise}
use Rattle.rules.specs.declared.options.Options.{Options}
use Rattle.rules.specs.AlikeBy.{AlikeBy}
use Rattle.rules.specs.World.{World, store}
use Rattle.law_outcome.proofs.Finished.{alike_in_order}
use Rattle.law_outcome.specs.AlikeLaws.{own_world}
use Rattle.run_states.specs.Openings.{world_at}
use Rattle.run_states.proofs.Foreign.{two}
use Rattle.run_states.specs.Among.{DoneIsAlikeAmong, listed}

-- what is alike by lists to a world is so without what waits there
alike_listed : (w : World) (options : Options) (found : World) → AlikeBy w options found → AlikeBy (listed w) options found
alike_listed w options found a = record {
  uids = a.uids;
  marks = a.marks;
  are_marks = record { count = a.are_marks.count; each = a.are_marks.each; differ = a.are_marks.differ };
  each = a.each;
  rise = two (λ side. Rise (store (listed w) side).next (a.uids side) (store found side).next) (a.rise Far) (a.rise Near);
  messages = a.messages;
  validity = two (λ side. (store found side).validity ≡ (store (listed w) side).validity) (a.validity Far) (a.validity Near);
  waiting = a.waiting;
  state = record {
    run = a.state.run;
    far_validity = a.state.far_validity;
    near_validity = a.state.near_validity;
    max_pulled = a.state.max_pulled;
    max_pushed = a.state.max_pushed;
    entries = a.state.entries;
  };
}

pub done_is_alike_among : DoneIsAlikeAmong
done_is_alike_among ours alone opening d over marks count =
    let w : World = over.world in
    let order = over.grows.in_order in
    let below = over.below in
    let found : World = own_world w over.holds.marks (world_at d over.holds.state) in
    alike_in_order (listed w) opening.options marks found
    (record { far = order.far; near = order.near; pairs = order.pairs })
    (record { pulled = below.pulled; pushed = below.pushed; far = below.far; near = below.near })
    refl count (alike_listed w opening.options found over.holds.alike.alike)
