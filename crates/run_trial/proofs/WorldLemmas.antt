-- The numbers of a world that a run may begin with are in their ranges, where they fit the words of a machine.
use Rattle.std.proofs.Common.{ℕ, suc, ◌+◌, ◌<◌, ◌≤◌, ◌^◌, List, [], ◌∷◌, length, get_or, All, arith}
use Rattle.std.proofs.lemmas.List.Elements.{All-head, All-tail}
use Rattle.mailcore.specs.declared.mailbox.Message.{Message}
use Rattle.mailcore.specs.declared.side.Side.TheVariants.{Near}
use Rattle.mailcore.specs.Listed.{AreRising}
use Rattle.mailcore.specs.Ranges.{IsInRange}
use Rattle.rules.specs.Opening.{IsOpening}
use Rattle.rules.specs.World.{World}
use Rattle.run_trial.specs.Worlds.{FitsWords}

pub near_in_range : (w : World) → IsOpening w → FitsWords w → IsInRange w.near
near_in_range w opening fits = record {
  validity = record { positive = (opening.mailbox Near).validity; below = fits.near_validity };
  next = record { positive = (opening.mailbox Near).next; below = fits.near_next };
  messages = record {
    uids = (opening.mailbox Near).uids;
    last = λ k d within. let l : (get_or w.near.messages k d).uid < w.near.next = opening.world.in_order.near.below k d within in let q = fits.near_next in omega arith;
    flags = opening.world.near_flags;
  };
}

-- as many messages as there are UIDs from this one up to the next one, at most
count_up_to : (ms : List Message) (low next : ℕ) → low ≤ next → AreRising ms → All (λ m. low ≤ m.uid) ms → All (λ m. m.uid < next) ms → length ms + low ≤ next
count_up_to [] low next upto rising from below = omega arith
count_up_to (m ∷ ms) low next upto rising from below =
    let here : m.uid < next = All-head (λ (x : Message). x.uid < next) m ms below in
    let least : low ≤ m.uid = All-head (λ (x : Message). low ≤ x.uid) m ms from in
    let rest : length ms + (m.uid + 1) ≤ next =
    count_up_to ms (m.uid + 1) next (omega arith) (λ i j d less within. rising (suc i) (suc j) d (omega arith) (omega arith))
    (λ k d within. let up = rising 0 (suc k) d (omega arith) (omega arith) in omega arith) (All-tail (λ (x : Message). x.uid < next) m ms below) in
    omega arith

pub few_files : (w : World) → IsOpening w → FitsWords w → length w.near.messages + length w.waiting ≤ 10 ^ 20
few_files w opening fits =
    let near = opening.world.in_order.near in
    let count : length w.near.messages + 0 ≤ w.near.next = count_up_to w.near.messages 0 w.near.next (omega arith) near.rising (λ k d within. omega arith) near.below in
    let p = fits.near_next in
    let q = fits.waiting in
    omega arith
