-- Where each mailbox that was lent stood.
use Rattle.std.specs.Prelude.{◌≡◌, ⊤, ℕ, List, [], ◌∷◌, Option}
use Rattle.std.proofs.Props.{props}
use Rattle.device.specs.Calls.{Seen as DeviceSeen}
use Rattle.device.specs.OwnFiles.{FilesParts}
use Rattle.imap_link.specs.declared.link.Link as link
use Rattle.maildir.specs.DiskFolders.{FolderParts, seen_on_disk}
use Rattle.maildir.specs.Folders.{Stored}
use Rattle.near_box.specs.Mailboxes.{near_of}
use Rattle.near_places.specs.Paths.{folder_of}
use Rattle.book.specs.DiskShelves.{seen_on_disk as seen_of_files}
use Rattle.book.specs.Shelves.{Files}
use Rattle.outside.specs.Calls.{Seen}
use Rattle.run_pair.specs.Parts.{device_with}
use Rattle.run_pair.specs.Tallies.{seen_with, untouched}
use Rattle.config.specs.declared.config.ImapStore.{ImapStore}
use Rattle.channels.specs.Asked.{Place}
use Rattle.mail_sides.specs.declared.far_side.FarSide.{FarSide}
use Rattle.mail_sides.specs.declared.sides.BothSides.{BothSides}
use Rattle.mail_sides.specs.FarSides.{seen_of}
use Rattle.mail_stores.specs.Addresses.{address_of}
use Rattle.mail_stores.specs.Lent.{Loan}
use Rattle.mail_stores.specs.declared.past.Past.{Past}
use Rattle.mail_stores.specs.Reached.{IsAccount}

module _ {L F S : Type 0} {links : link.Ghosts L} where
  -- what both sides of a mailbox show while nothing is open; the near one has this UIDVALIDITY where its folder has none
  abbrev pub shown : (folder : F → DeviceSeen Stored) → (shelf : S → DeviceSeen Files) → (fresh : ℕ) → BothSides L F S links → Seen
  shown folder shelf fresh sides = seen_with (device_with (seen_of sides.far).stored
      (near_of fresh sides.far.far.keywords (folder sides.folder).stored) (shelf sides.shelf).stored []) untouched

module _ {L : Type 0} {links : link.Ghosts L} (address : L → List ℕ) where
  -- the link of a far side leads to the server of this store
  abbrev pub LeadsTo : ImapStore → FarSide L links → Type 0
  LeadsTo store far = address far.far.session.wire.link ≡ address_of store

  -- Both sides are those of a mailbox by its names: at the server of its store as its user, and near in the folder of its name, with its
  -- state there.
  pub record AreOf (home : Option (List ℕ)) (place : Place) (sides : BothSides L FolderParts FilesParts links) : Type 0 where
    pub server : LeadsTo place.of.far_store sides.far
    pub account : IsAccount place.of.far_store place.far sides.far.account
    pub messages : sides.folder.disk.path ≡ folder_of home place.of.near_store place.near
    pub state : sides.shelf.disk.path ≡ folder_of home place.of.near_store place.near

  -- when it was lent, it stood on these sides, and was seen as they show it
  pub record StoodOn (home : Option (List ℕ)) (fresh : ℕ) (loan : Loan) (sides : BothSides L FolderParts FilesParts links) : Type 0 where
    pub are : AreOf home loan.place sides
    pub seen : loan.old ≡ shown seen_on_disk seen_of_files fresh sides

  -- so did each of these mailboxes, each on its own
  abbrev pub AllStood : (home : Option (List ℕ)) → (fresh : ℕ) → List Loan → List (BothSides L FolderParts FilesParts links) → Type 0
  AllStood home fresh [] [] = ⊤
  AllStood home fresh [] (sides ∷ more) = ⊥
  AllStood home fresh (loan ∷ loans) [] = ⊥
  AllStood home fresh (loan ∷ loans) (sides ∷ more) = StoodOn home fresh loan sides × AllStood home fresh loans more

  pub StoodOn-prop : (home : Option (List ℕ)) (fresh : ℕ) (loan : Loan) (sides : BothSides L FolderParts FilesParts links) → IsProp (StoodOn home fresh loan sides)
  StoodOn-prop home fresh loan sides = Prim.hlevel props

  pub AllStood-prop : (home : Option (List ℕ)) (fresh : ℕ) (loans : List Loan) (all : List (BothSides L FolderParts FilesParts links))
      → IsProp (AllStood home fresh loans all)
  AllStood-prop home fresh [] [] = Prim.hlevel props
  AllStood-prop home fresh [] (sides ∷ more) = Prim.hlevel props
  AllStood-prop home fresh (loan ∷ loans) [] = Prim.hlevel props
  AllStood-prop home fresh (loan ∷ loans) (sides ∷ more) =
      let this = StoodOn-prop home fresh loan sides in
      let others = AllStood-prop home fresh loans more in
      Prim.hlevel (this, others, props)

  -- of stores with this past, each mailbox that was lent stood at its place
  abbrev pub HaveStood : (home : Option (List ℕ)) → (fresh : ℕ) → Past L FolderParts FilesParts links → Type 0
  HaveStood home fresh past = AllStood home fresh past.loans.lent.loans past.as_lent.items
