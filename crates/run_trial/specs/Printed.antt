-- The world that stands in the devices of a trial, and its text as it is printed.
use Rattle.std.specs.Prelude.{◌≡◌, ◌++◌, ℕ, List, map}
use Rattle.mailcore.specs.Mailboxes.{Mailbox}
use Rattle.rules.specs.declared.state.SyncState.{SyncState}
use Rattle.worlds.specs.WorldText.{text_from_far}
use Rattle.book.specs.Books.{HoldsState}
use Rattle.outside.specs.Devices.{Device}
use Rattle.run_states.specs.Openings.{world_at}
use Rattle.run_trial.specs.declared.contents.Contents.{Contents}
use Rattle.run_trial.specs.Worlds.{waiting_of}

-- the mailbox of some contents
abbrev pub mailbox_in : Contents → Mailbox
mailbox_in c = record {
  store = record { validity = c.meta.validity; next = c.meta.next; messages = c.messages.items };
  waiting = map waiting_of c.waiting.items;
}

-- A text has grown by that of the world that a device holds, from its line `far` on: its mailboxes, the files that wait, and the state that its
-- state file spells. Its journal is not looked at.
pub record Prints (d : Device) (old new : List ℕ) : Type 0 where
  pub state : SyncState
  pub held : HoldsState d.files.state state
  pub text : new ≡ old ++ text_from_far (world_at d state)
