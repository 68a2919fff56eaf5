-- The mailboxes that stores have lent, and whether servers and disks have behaved as specified.
use Rattle.std.specs.Prelude.{All, List, map, ◌&&◌}
use Rattle.device.specs.OwnFiles.{FilesParts, KeptWord as KeptFiles}
use Rattle.mailcore.specs.Visitors.{Visitors}
use Rattle.imap_link.specs.declared.link.Link as link
use Rattle.maildir.specs.DiskFolders.{FolderParts, KeptWord as KeptFolder}
use Rattle.maildir.specs.Gains.{others}
use Rattle.channels.specs.Lendings.{LentPlace}
use Rattle.run_pair.specs.Parts.{both}
use Rattle.mail_sides.specs.FarSides.{honest_of}
use Rattle.mail_stores.specs.Lent.{lent_among}
use Rattle.mail_stores.specs.declared.loans.Loans.{Loans}

-- who else is at a far mailbox or at a near one
abbrev pub both_sides : (far near : Visitors) → Visitors
both_sides far near = record { ours = both far.ours near.ours; alone = far.alone && near.alone }

module _ {L F S : Type 0} {links : link.Ghosts L} where
  -- Of each mailbox that was lent: the link to its server, its folder and its shelf have behaved as specified until it was given back.
  pub record AreHonest (folder : F → Type 0) (shelf : S → Type 0) (loans : Loans L F S links) : Type 0 where
    pub servers : All honest_of loans.far_sides.items
    pub folders : All folder loans.folders.items
    pub shelves : All shelf loans.shelves.items

  -- each mailbox that was lent, the last first
  abbrev pub lent_among_all : Visitors → Loans L F S links → List LentPlace
  lent_among_all visitors loans = map (lent_among visitors.ours visitors.alone) loans.lent.loans

-- ---- of folders and shelves on disks

module _ {L : Type 0} {links : link.Ghosts L} where
  -- By their records, the answers of the system are those of folders to which others only add files, and of files that nobody else writes.
  abbrev pub HaveKept : Loans L FolderParts FilesParts links → Type 0
  HaveKept loans = AreHonest KeptFolder KeptFiles loans

  -- each mailbox that was lent, the last first
  abbrev pub lent_of : Loans L FolderParts FilesParts links → List LentPlace
  lent_of loans = lent_among_all (both_sides links.visitors others) loans
