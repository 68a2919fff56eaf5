-- The world after a run, named at once from the world before, under the UIDs and marks that the copies get.
use Rattle.std.specs.Prelude.{ℕ, ◌+◌, List, [], ◌++◌, map, length, filter, not, take, drop}
use Rattle.std.specs.List.{range_with_len}
use Rattle.mailcore.specs.declared.side.Side.{Side}
use Rattle.mailcore.specs.declared.side.Side.TheVariants.{Far, Near}
use Rattle.mailcore.specs.declared.side.Direction.{Direction}
use Rattle.mailcore.specs.declared.side.Direction.TheVariants.{Pull, Push}
use Rattle.mailcore.specs.declared.mailbox.Message.{Message}
use Rattle.mailcore.specs.Sides.{source, towards}
use Rattle.mailcore.specs.Listed.{item_of}
use Rattle.rules.specs.declared.entry.Entry.{Entry}
use Rattle.rules.specs.declared.state.SyncState.{SyncState}
use Rattle.rules.specs.declared.options.Options.{Options}
use Rattle.rules.specs.Called.{is_expunged, flags_after}
use Rattle.rules.specs.Outcome.{new_among, entries_after, highest_after}
use Rattle.rules.specs.World.{World, Store, store, scene_of}
use Rattle.rules.specs.Copies.{copies_under, pairs_under}

-- ---- messages

-- the messages that are copied in a direction
abbrev pub new_messages : World → Options → Direction → List Message
new_messages w options d = new_among (item_of (source d)) (scene_of w options) d (store w (source d)).messages

-- the old messages of a side that stay, with their flags after
abbrev pub staying : World → Options → Side → List Message
staying w options side =
    map (λ m. record { uid = m.uid; flags = flags_after (scene_of w options) side m.uid m.flags; bytes = m.bytes })
    (filter (λ m. not (is_expunged (scene_of w options) side m.uid)) (store w side).messages)

-- the marks of the copies that a side gets: marks stand in the order of the plan, those of pulled messages first
abbrev pub marks_to : World → Options → Side → (marks : List (List ℕ)) → List (List ℕ)
marks_to w options Near marks = take (length (new_messages w options Pull)) marks
marks_to w options Far marks = drop (length (new_messages w options Pull)) marks

-- the messages of a side after the run: those that stay, and then the copies
abbrev pub messages_under : World → Options → Side → (uids : List ℕ) → (marks : List (List ℕ)) → List Message
messages_under w options side uids marks =
    staying w options side ++ copies_under side uids (marks_to w options side marks) (new_messages w options (towards side))

-- ---- entries

-- the entries that are not dropped, and then those of the new pairs
abbrev pub entries_under : World → Options → (uids : Side → List ℕ) → List Entry
entries_under w options uids =
    entries_after (scene_of w options)
    ++ pairs_under Pull (uids Near) (new_messages w options Pull)
    ++ pairs_under Push (uids Far) (new_messages w options Push)

-- ---- the world: each side's copies have these UIDs, and then `next` is what its mailbox gives

abbrev pub store_under : World → Options → Side → (uids : List ℕ) → (marks : List (List ℕ)) → (next : ℕ) → Store
store_under w options side uids marks next = record {
  validity = (store w side).validity;
  next = next;
  messages = messages_under w options side uids marks;
}

abbrev pub state_under : World → Options → (uids : Side → List ℕ) → SyncState
state_under w options uids = record {
  run = w.state.run + 1;
  far_validity = w.far.validity;
  near_validity = w.near.validity;
  max_pulled = highest_after (scene_of w options) Pull;
  max_pushed = highest_after (scene_of w options) Push;
  entries = entries_under w options uids;
}

abbrev pub outcome_under : World → Options → (uids : Side → List ℕ) → (marks : List (List ℕ)) → (next : Side → ℕ) → World
outcome_under w options uids marks next = record {
  far = store_under w options Far (uids Far) marks (next Far);
  near = store_under w options Near (uids Near) marks (next Near);
  waiting = [];
  state = state_under w options uids;
}

-- ---- where nothing is stopped: the UIDs from next on

abbrev pub copy_uids : World → Options → Side → List ℕ
copy_uids w options side = range_with_len (store w side).next (length (new_messages w options (towards side)))

abbrev pub next_after : World → Options → Side → ℕ
next_after w options side = (store w side).next + length (new_messages w options (towards side))

abbrev pub store_after : World → Options → (marks : List (List ℕ)) → Side → Store
store_after w options marks side = store_under w options side (copy_uids w options side) marks (next_after w options side)

abbrev pub state_after : World → Options → SyncState
state_after w options = state_under w options (copy_uids w options)

-- the outcome of a run on a world where no file waits
abbrev pub outcome : World → Options → (marks : List (List ℕ)) → World
outcome w options marks = outcome_under w options (copy_uids w options) marks (next_after w options)
