use Rattle.std.proofs.Common.{[], ◌∙◌}
use Rattle.channels.proofs.BoxLemmas.{put_names-next}
use Rattle.channels.proofs.boxes.in_order.Goals as goal

-- one name more
pub loop-name-preserved : goal.loop-name-preserved
loop-name-preserved c = record {
  rising = c.in_ok-put_name.ensures.rising;
  names =
      let next = put_names-next [] c.args.names.now c.loop-name.name-index c.name-item.result c.loop-name-test.true in
      let put = c.in_ok-put_name.ensures.put in
      let so_far = c.loop-name.invariant.names in
      let item = c.name-item.is in
      cc;
}
