-- What is listed of the world that a text gives. Lines are read from the front: of `whole` those named, and then `rest`.
use Rattle.std.specs.Prelude.{◌≡◌, ℕ, ◌+◌, List, ◌++◌, length, map}
use Rattle.std.specs.List.{flat_map}
use Rattle.mailcore.specs.declared.listing.Listing.{Listing}
use Rattle.mailcore.specs.declared.side.Side.{Side}
use Rattle.mailcore.specs.declared.side.Side.TheVariants.{Far, Near}
use Rattle.mailcore.specs.Listed.{item_of}
use Rattle.mailcore.specs.Operations.{Shows}
use Rattle.mailcore.specs.Stores.{Store, Waiting, numbered}
use Rattle.rules.specs.Admission.{admitted}
use Rattle.rules.specs.World.{World}
use Rattle.worlds.specs.declared.listed.ListedWorld.{ListedWorld}
use Rattle.worlds.specs.OptionsText.{IsHead}
use Rattle.worlds.specs.WorldText.{mailbox_text, text_from_far, waiting_line}

-- ---- parts

-- the lines of a mailbox, and this is what it lists
pub record ListsMailbox (side : Side) (whole rest : List ℕ) (listing : Listing) : Type 0 where
  pub store : Store
  pub text : whole ≡ mailbox_text side store ++ rest
  pub shows : Shows side store listing

-- the lines of waiting files, which are listed after the others under the next UIDs
pub record ListsFiles (whole rest : List ℕ) (old new : Listing) : Type 0 where
  pub files : List Waiting
  pub text : whole ≡ flat_map waiting_line files ++ rest
  pub validity : new.validity ≡ old.validity
  pub next : new.next ≡ old.next + length files
  pub items : new.items ≡ old.items ++ map (item_of Near) (numbered old.next files)

-- the lines of both mailboxes and of the waiting files, and what is listed of them
pub record ListsMailboxes (whole rest : List ℕ) (far near : Listing) : Type 0 where
  pub far_store : Store
  pub near_store : Store
  pub waiting : List Waiting
  pub text : whole ≡ mailbox_text Far far_store ++ (mailbox_text Near near_store ++ (flat_map waiting_line waiting ++ rest))
  pub shows : Shows Far far_store far
  pub validity : near.validity ≡ near_store.validity
  pub next : near.next ≡ near_store.next + length waiting
  pub items : near.items ≡ map (item_of Near) (near_store.messages ++ numbered near_store.next waiting)

-- ---- the whole

-- A text is that of a world, from its line `far` on, and this is listed of it: what its mailboxes list once each waiting file has the next UID, and
-- its state.
pub record ListsWorld (listed : ListedWorld) (whole : List ℕ) : Type 0 where
  pub world : World
  pub text : IsHead listed.options (text_from_far world) whole
  pub far : Shows Far world.far listed.far
  pub near : Shows Near (admitted world).near listed.near
  pub state : listed.state ≡ world.state
