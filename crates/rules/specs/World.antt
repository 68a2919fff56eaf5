-- A pair of mailboxes with the state of the last run.
use Rattle.std.specs.Prelude.{◌<◌, ◌^◌, List, map, All}
use Rattle.mailcore.specs.declared.side.Side.{Side}
use Rattle.mailcore.specs.declared.side.Side.TheVariants.{Far, Near}
use Rattle.mailcore.specs.FlagSet.{FLAGS}
use Rattle.mailcore.specs.Listed.{item_of}
pub use Rattle.mailcore.specs.Stores.{Store, Waiting, IsStore, numbered}
use Rattle.rules.specs.declared.state.SyncState.{SyncState}
use Rattle.rules.specs.declared.options.Options.{Options}
use Rattle.rules.specs.Entries.{ArePairs, uid_of}
use Rattle.rules.specs.Scene.{Scene}

-- both mailboxes, the near files that have no UID yet, and the state
pub record World : Type 0 where
  pub far : Store
  pub near : Store
  pub waiting : List Waiting
  pub state : SyncState

abbrev pub store : World → Side → Store
store w Far = w.far
store w Near = w.near

-- UIDs rise and are below the next ones, and entries are pairs
pub record IsInOrder (w : World) : Type 0 where
  pub far : IsStore w.far
  pub near : IsStore w.near
  pub pairs : ArePairs w.state.entries

-- and the flags of each message are a set of the flags that there are
pub record IsWorld (w : World) : Type 0 where
  pub in_order : IsInOrder w
  pub far_flags : All (λ m. m.flags < 2 ^ FLAGS) w.far.messages
  pub near_flags : All (λ m. m.flags < 2 ^ FLAGS) w.near.messages

-- each UID that the state names on a side is below the next one of its mailbox
pub record NamesBelow (w : World) : Type 0 where
  pub pulled : w.state.max_pulled < w.far.next
  pub pushed : w.state.max_pushed < w.near.next
  pub far : All (λ e. uid_of Far e < w.far.next) w.state.entries
  pub near : All (λ e. uid_of Near e < w.near.next) w.state.entries

-- what a plan is made on, where no file waits
abbrev pub scene_of : World → Options → Scene
scene_of w options = record {
  far = map (item_of Far) w.far.messages;
  near = map (item_of Near) w.near.messages;
  entries = w.state.entries;
  max_pulled = w.state.max_pulled;
  max_pushed = w.state.max_pushed;
  options = options;
}
