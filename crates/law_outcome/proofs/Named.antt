-- What the state found names is below the next UIDs found.
use Rattle.std.proofs.Common.{◌<◌, ◌≤◌, ◌+◌, ℕ, Bool, true, false, cond, List, [], ◌∷◌, ◌++◌, map, max, arith}
use Rattle.std.specs.Prelude.{All}
use Rattle.std.proofs.lemmas.List.Elements.{All-nil, All-cons, All-head, All-tail, All-append, All-weaker, All-contains}
use Rattle.std.proofs.lemmas.List.Sorted.{All-permutation}
use Rattle.mailcore.specs.declared.side.Side.{Side}
use Rattle.mailcore.specs.declared.side.Side.TheVariants.{Far, Near}
use Rattle.mailcore.specs.declared.side.Direction.{Direction}
use Rattle.mailcore.specs.declared.side.Direction.TheVariants.{Pull, Push}
use Rattle.mailcore.specs.declared.mailbox.Message.{Message}
use Rattle.mailcore.specs.Sides.{source}
use Rattle.mailcore.specs.Listed.{item_of}
use Rattle.mailcore.specs.Rise.{Rise}
use Rattle.mailcore.proofs.RiseLemmas.{rise-ends}
use Rattle.rules.specs.declared.entry.Entry.{Entry}
use Rattle.rules.specs.declared.options.Options.{Options}
use Rattle.rules.specs.Options.{goes}
use Rattle.rules.specs.Entries.{uid_of}
use Rattle.rules.specs.Called.{is_new}
use Rattle.rules.specs.Outcome.{greatest, highest_after, entries_after}
use Rattle.rules.specs.World.{World, IsInOrder, NamesBelow, store, scene_of}
use Rattle.rules.specs.WorldAfter.{new_messages}
use Rattle.rules.specs.Copies.{pair_of_copy, pairs_under}
use Rattle.rules.specs.AlikeBy.{AlikeBy}
use Rattle.rules.proofs.Walks.{All-from_contains, filter_contains}
use Rattle.law_outcome.proofs.Worlds.{kept_below}

-- ---- the highest UIDs

greatest_below : (side : Side) (next : ℕ) → 0 < next → (ms : List Message) → All (λ m. m.uid < next) ms → greatest (map (item_of side) ms) < next
greatest_below side next l [] below = l
greatest_below side next l (m ∷ ms) below =
    let a : m.uid < next = All-head (λ (x : Message). x.uid < next) m ms below in
    let b = greatest_below side next l ms (All-tail (λ (x : Message). x.uid < next) m ms below) in
    omega arith

raised_below : (b : Bool) (high top next : ℕ) → high < next → top < next → cond b (max high top) high < next
raised_below true high top next l k = omega arith
raised_below false high top next l k = l

pub highest_below : (w : World) (options : Options) → IsInOrder w → NamesBelow w → (d : Direction) → highest_after (scene_of w options) d < (store w (source d)).next
highest_below w options h b Pull =
    raised_below (goes options.cells.new Pull) w.state.max_pulled (greatest (map (item_of Far) w.far.messages)) w.far.next b.pulled (greatest_below Far w.far.next (let l : w.state.max_pulled < w.far.next = b.pulled in omega arith) w.far.messages h.far.below)
highest_below w options h b Push =
    raised_below (goes options.cells.new Push) w.state.max_pushed (greatest (map (item_of Near) w.near.messages)) w.near.next b.pushed (greatest_below Near w.near.next (let l : w.state.max_pushed < w.near.next = b.pushed in omega arith) w.near.messages h.near.below)

-- ---- entries

-- those of pairs, by their messages and by their copies
by_message : (d : Direction) (uids : List ℕ) (ms : List Message) (next : ℕ) → All (λ m. m.uid < next) ms → All (λ e. uid_of (source d) e < next) (pairs_under d uids ms)
by_message d [] ms next below = All-nil (λ (e : Entry). uid_of (source d) e < next)
by_message d (u ∷ uids) [] next below = All-nil (λ (e : Entry). uid_of (source d) e < next)
by_message d (u ∷ uids) (m ∷ ms) next below =
    All-cons (λ (e : Entry). uid_of (source d) e < next) (pair_of_copy d u m) (pairs_under d uids ms) (at d (All-head (λ (x : Message). x.uid < next) m ms below))
    (by_message d uids ms next (All-tail (λ (x : Message). x.uid < next) m ms below))
  where
    at : (d : Direction) → m.uid < next → uid_of (source d) (pair_of_copy d u m) < next
    at Pull l = l
    at Push l = l

pulls_by_copy : (least : ℕ) (uids : List ℕ) (ms : List Message) (next : ℕ) → Rise least uids next → All (λ e. uid_of Near e < next) (pairs_under Pull uids ms)
pulls_by_copy least [] ms next h = All-nil (λ (e : Entry). uid_of Near e < next)
pulls_by_copy least (u ∷ uids) [] next h = All-nil (λ (e : Entry). uid_of Near e < next)
pulls_by_copy least (u ∷ uids) (m ∷ ms) next h =
    All-cons (λ (e : Entry). uid_of Near e < next) (pair_of_copy Pull u m) (pairs_under Pull uids ms)
    (let k = rise-ends (u + 1) uids next h.1 in let l : u < next = omega arith in l) (pulls_by_copy (u + 1) uids ms next h.1)

pushes_by_copy : (least : ℕ) (uids : List ℕ) (ms : List Message) (next : ℕ) → Rise least uids next → All (λ e. uid_of Far e < next) (pairs_under Push uids ms)
pushes_by_copy least [] ms next h = All-nil (λ (e : Entry). uid_of Far e < next)
pushes_by_copy least (u ∷ uids) [] next h = All-nil (λ (e : Entry). uid_of Far e < next)
pushes_by_copy least (u ∷ uids) (m ∷ ms) next h =
    All-cons (λ (e : Entry). uid_of Far e < next) (pair_of_copy Push u m) (pairs_under Push uids ms)
    (let k = rise-ends (u + 1) uids next h.1 in let l : u < next = omega arith in l) (pushes_by_copy (u + 1) uids ms next h.1)

-- ---- the state found

module _ (w : World) (options : Options) (found : World) (h : IsInOrder w) (b : NamesBelow w) (a : AlikeBy w options found) where
  ends : (side : Side) → (store w side).next ≤ (store found side).next
  ends side = rise-ends (store w side).next (a.uids side) (store found side).next (a.rise side)

  stored_below : (side : Side) → All (λ m. m.uid < (store w side).next) (store w side).messages
  stored_below Far = h.far.below
  stored_below Near = h.near.below

  news_below : (d : Direction) → All (λ m. m.uid < (store found (source d)).next) (new_messages w options d)
  news_below d =
      All-from_contains (λ (m : Message). m.uid < (store found (source d)).next) (new_messages w options d)
      (λ m c.
      let l : m.uid < (store w (source d)).next = All-contains (λ (x : Message). x.uid < (store w (source d)).next) (store w (source d)).messages m (stored_below (source d))
      (filter_contains (λ (x : Message). is_new (scene_of w options) d (item_of (source d) x)) (store w (source d)).messages m c).0 in
      let k = ends (source d) in
      omega arith)

  named : (side : Side) → All (λ e. uid_of side e < (store w side).next) w.state.entries
  named Far = b.far
  named Near = b.near

  kept : (side : Side) → All (λ e. uid_of side e < (store found side).next) (entries_after (scene_of w options))
  kept side =
      All-weaker (λ (e : Entry). uid_of side e < (store w side).next) (λ e. uid_of side e < (store found side).next) (λ e l. let k = ends side in omega arith) (entries_after (scene_of w options))
      (kept_below (scene_of w options) (λ x. (store w x).next) named side)

  pub names_below : NamesBelow found
  names_below =
      let pulls : List Entry = pairs_under Pull (a.uids Near) (new_messages w options Pull) in
      let pushes : List Entry = pairs_under Push (a.uids Far) (new_messages w options Push) in
      record {
        pulled = let l = highest_below w options h b Pull in let k = ends Far in let e = a.state.max_pulled in omega arith;
        pushed = let l = highest_below w options h b Push in let k = ends Near in let e = a.state.max_pushed in omega arith;
        far = All-permutation (λ (e : Entry). uid_of Far e < found.far.next) (entries_after (scene_of w options) ++ pulls ++ pushes) found.state.entries a.state.entries
            (All-append (λ (e : Entry). uid_of Far e < found.far.next) (entries_after (scene_of w options) ++ pulls) pushes
            (All-append (λ (e : Entry). uid_of Far e < found.far.next) (entries_after (scene_of w options)) pulls (kept Far) (by_message Pull (a.uids Near) (new_messages w options Pull) found.far.next (news_below Pull)))
            (pushes_by_copy w.far.next (a.uids Far) (new_messages w options Push) found.far.next (a.rise Far)));
        near = All-permutation (λ (e : Entry). uid_of Near e < found.near.next) (entries_after (scene_of w options) ++ pulls ++ pushes) found.state.entries a.state.entries
            (All-append (λ (e : Entry). uid_of Near e < found.near.next) (entries_after (scene_of w options) ++ pulls) pushes
            (All-append (λ (e : Entry). uid_of Near e < found.near.next) (entries_after (scene_of w options)) pulls (kept Near) (pulls_by_copy w.near.next (a.uids Near) (new_messages w options Pull) found.near.next (a.rise Near)))
            (by_message Push (a.uids Far) (new_messages w options Push) found.near.next (news_below Push)));
      }
