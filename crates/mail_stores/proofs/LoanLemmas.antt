-- Mailboxes that were lent, and what they stood on.
use Rattle.std.proofs.Common.{◌≡◌, List, [], ◌∷◌, refl, ap, subst}
use Rattle.std.specs.Prelude.{All, map}
use Rattle.std.proofs.lemmas.List.Elements.{All-head, All-rest}
use Rattle.book.specs.declared.shelf.Shelf as shelf
use Rattle.imap_link.specs.declared.link.Link as link
use Rattle.device.specs.OwnFiles.{FilesParts}
use Rattle.maildir.specs.declared.folder.Folder as folder
use Rattle.maildir.specs.DiskFolders.{FolderParts}
use Rattle.mailcore.specs.Visitors.{Visitors}
use Rattle.outside.specs.Calls.{Seen}
use Rattle.outside.specs.declared.mailbox.Mailbox as mailbox
use Rattle.run_pair.specs.BookParts.{honest_in}
use Rattle.run_pair.specs.declared.pair.Pair.{Pair}
use Rattle.channels.specs.Asked.{Place}
use Rattle.channels.specs.Lendings.{IsLent, Lends, LendsNone, Lent, LentPlace}
use Rattle.mail_sides.specs.declared.far_side.FarSide.{FarSide}
use Rattle.mail_sides.specs.declared.near_side.NearSide.{NearSide}
use Rattle.mail_sides.specs.declared.sides.BothSides.{BothSides}
use Rattle.mail_sides.specs.FarSides.{honest_of}
use Rattle.mail_stores.specs.declared.loans.Loans.{Loans}
use Rattle.mail_stores.specs.declared.past.Past.{Past}
use Rattle.mail_stores.specs.Lent.{LendsAs, Loan, lent_among}
use Rattle.mail_stores.specs.Loans.{AreHonest, HaveKept, lent_among_all, lent_of}

-- this mailbox was lent, which was seen so
pub lends_as : (place : Place) (seen : Seen) (loan : Loan) (old new : List Loan) → new ≡ loan ∷ old → loan.place ≡ place → loan.old ≡ seen → LendsAs place seen old new
lends_as place seen loan old new noted here was = record { loan = loan; noted = noted; here = here; was = was }

module _ {L F S : Type 0} {links : link.Ghosts L} where
  -- one more was lent and given back, and so much was done over it
  pub lends_one : (kept : F → Type 0) (own : S → Type 0) (visitors : Visitors) (old new : Loans L F S links) (does : Lent → Type 0) (loan : Loan)
      (far : FarSide L links) (f : F) (s : S)
      → new.lent.loans ≡ loan ∷ old.lent.loans
      → new.far_sides.items ≡ far ∷ old.far_sides.items
      → new.folders.items ≡ f ∷ old.folders.items
      → new.shelves.items ≡ s ∷ old.shelves.items
      → (honest_of far → kept f → own s → does (lent_among visitors.ours visitors.alone loan).lent)
      → Lends (AreHonest kept own) (lent_among_all visitors) old new (IsLent loan.place does)
  lends_one kept own visitors old new does loan far f s lent fars folders shelves done = record {
    was_honest = λ h. record {
      servers = All-rest honest_of far old.far_sides.items new.far_sides.items fars h.servers;
      folders = All-rest kept f old.folders.items new.folders.items folders h.folders;
      shelves = All-rest own s old.shelves.items new.shelves.items shelves h.shelves;
    };
    since = λ h.
        let server : honest_of far = All-head honest_of far old.far_sides.items (subst (All honest_of) fars h.servers) in
        let names : kept f = All-head kept f old.folders.items (subst (All kept) folders h.folders) in
        let files : own s = All-head own s old.shelves.items (subst (All own) shelves h.shelves) in
        let this : LentPlace = lent_among visitors.ours visitors.alone loan in (
          this ∷ [],
          ap (λ (loans : List Loan). map (lent_among visitors.ours visitors.alone) loans) lent,
          record { this = this.lent; one = refl; done = done server names files },
        );
  }

module _ {L F S : Type 0} {links : link.Ghosts L} {folders : folder.Ghosts F} {shelves : shelf.Ghosts S}
    {fars : mailbox.Ghosts (FarSide L links)} {nears : mailbox.Ghosts (NearSide F folders)} where
  -- a pair has behaved as specified if what it stood on has, as it is given back
  pub honest_before : (p both : Pair (FarSide L links) (NearSide F folders) S fars nears shelves) (sides : BothSides L F S links)
      → both ≡ p → sides.far ≡ both.far → sides.folder ≡ both.near.near.folder → (shelves.honest sides.shelf → honest_in both.book)
      → honest_of sides.far → folders.honest sides.folder → shelves.honest sides.shelf
      → honest_of p.far × folders.honest p.near.near.folder × honest_in p.book
  honest_before p both sides same is_far is_folder book server names files =
      subst (λ (q : Pair (FarSide L links) (NearSide F folders) S fars nears shelves). honest_of q.far × folders.honest q.near.near.folder × honest_in q.book) same
      (subst honest_of is_far server, subst folders.honest is_folder names, book files)

module _ {X L : Type 0} {links : link.Ghosts L} where
  -- whoever holds the same loans has lent none
  pub lends_none : (held : X → Loans L FolderParts FilesParts links) (old new : X) → held new ≡ held old
      → LendsNone (λ x. HaveKept (held x)) (λ x. lent_of (held x)) old new
  lends_none held old new same = record {
    was_honest = λ h. subst (λ (loans : Loans L FolderParts FilesParts links). HaveKept loans) same h;
    same = λ h. ap (λ (loans : Loans L FolderParts FilesParts links). lent_of loans) same;
  }

module _ {L : Type 0} {links : link.Ghosts L} where
  -- of the same past nothing was lent
  pub none_kept : (old new : Past L FolderParts FilesParts links) → new ≡ old → LendsNone HaveKept lent_of old.loans new.loans
  none_kept old new same = record {
    was_honest = λ h. subst (λ (past : Past L FolderParts FilesParts links). HaveKept past.loans) same h;
    same = λ h. ap (λ (past : Past L FolderParts FilesParts links). lent_of past.loans) same;
  }
