-- Where mailboxes that were lent stood.
use Rattle.std.proofs.Common.{◌≡◌, ◌∙◌, ℕ, List, [], ◌∷◌, Option, String, ap, sym, subst}
use Rattle.std.specs.Global.{Global}
use Rattle.device.specs.Calls.{Seen as DeviceSeen}
use Rattle.device.specs.OwnFiles.{FilesParts}
use Rattle.imap_link.specs.declared.link.Link as link
use Rattle.mailcore.specs.declared.keywords.Keyword.{Keyword}
use Rattle.maildir.specs.DiskFolders.{FolderParts, seen_on_disk}
use Rattle.maildir.specs.Folders.{Stored}
use Rattle.near_box.specs.Mailboxes.{near_of}
use Rattle.near_places.specs.Paths.{folder_of}
use Rattle.book.specs.DiskShelves.{seen_on_disk as seen_of_files}
use Rattle.book.specs.Shelves.{Files}
use Rattle.outside.specs.Calls.{Seen}
use Rattle.run_pair.specs.Parts.{device_with}
use Rattle.run_pair.specs.Tallies.{seen_with, untouched}
use Rattle.channels.specs.Asked.{Place}
use Rattle.mail_sides.specs.declared.sides.BothSides.{BothSides}
use Rattle.mail_sides.specs.FarSides.{seen_of}
use Rattle.mail_stores.specs.Lent.{LendsAs, Loan}
use Rattle.mail_stores.specs.Reached.{AreIn, IsAccount}
use Rattle.mail_stores.specs.Placed.{AllStood, AreOf, LeadsTo, StoodOn, shown}

module _ {L F S : Type 0} {links : link.Ghosts L} where
  -- an outside shows what its sides show, where the near one has the map of the far one
  pub shown_as : (folder : F → DeviceSeen Stored) (shelf : S → DeviceSeen Files) (fresh : ℕ) (keywords : List Keyword) (sides : BothSides L F S links) (seen : Seen)
      → sides.far.far.keywords ≡ keywords
      → seen ≡ seen_with (device_with (seen_of sides.far).stored (near_of fresh keywords (folder sides.folder).stored) (shelf sides.shelf).stored []) untouched
      → seen ≡ shown folder shelf fresh sides
  shown_as folder shelf fresh keywords sides seen map is =
      is ∙ ap (λ (k : List Keyword). seen_with (device_with (seen_of sides.far).stored (near_of fresh k (folder sides.folder).stored) (shelf sides.shelf).stored []) untouched) (sym map)

module _ {L : Type 0} {links : link.Ghosts L} (address : L → List ℕ) where
  -- both sides in this folder, which is that of the mailbox, are those of the mailbox
  pub are_of : (home now : Option (List ℕ)) (place : Place) (path : List ℕ) (look : String Global) (sides : BothSides L FolderParts FilesParts links)
      → LeadsTo address place.of.far_store sides.far → IsAccount place.of.far_store place.far sides.far.account
      → AreIn path sides.folder sides.shelf look
      → path ≡ folder_of home place.of.near_store place.near → now ≡ home → AreOf address now place sides
  are_of home now place path look sides server account near of_name same =
      subst (λ (home : Option (List ℕ)). AreOf address home place sides) (sym same)
      (record { server = server; account = account; messages = near.messages ∙ of_name; state = near.state ∙ of_name })

  -- one more was lent, at its place
  pub stood_more : (home : Option (List ℕ)) (fresh : ℕ) (place : Place) (sides : BothSides L FolderParts FilesParts links) (loans more : List Loan)
      (all as_lent : List (BothSides L FolderParts FilesParts links))
      → LendsAs place (shown seen_on_disk seen_of_files fresh sides) loans more → as_lent ≡ sides ∷ all → AreOf address home place sides
      → AllStood address home fresh loans all → AllStood address home fresh more as_lent
  stood_more home fresh place sides loans more all as_lent one noted are stood =
      let this : StoodOn address home fresh one.loan sides = record {
        are = subst (λ (p : Place). AreOf address home p sides) (sym one.here) are;
        seen = one.was;
      } in
      let both : AllStood address home fresh (one.loan ∷ loans) (sides ∷ all) = (this, stood) in
      subst (λ (xs : List (BothSides L FolderParts FilesParts links)). AllStood address home fresh more xs) (sym noted)
      (subst (λ (ls : List Loan). AllStood address home fresh ls (sides ∷ all)) (sym one.noted) both)
