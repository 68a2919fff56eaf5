use Rattle.std.proofs.Common.{List, Option, Some, None, ℕ, arith}
use Rattle.std.specs.Option.{option_map}
use Rattle.imap_answers.proofs.BodyReported.{item_stops, body_stops}
use Rattle.imap_answers.proofs.bodies.body_in.Goals as goal

pub returns-in_default-body_bytes : goal.returns-in_default-body_bytes
returns-in_default-body_bytes c = record {
  reported =
      let before : Option (List ℕ) = option_map (λ b. b.now) c.loop-item.body in
      item_stops (Some None) c.args.items.now c.loop-item.item-index c.item-item.result (Some before) (omega arith) c.item-item.is c.loop-item.invariant
      (body_stops before c.item-item.result c.in-Body.string c.in-Body.is c.in_default-body_bytes.ensures);
}
