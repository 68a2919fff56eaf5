-- What was listed of stores: what their servers and disks said.
use Rattle.std.specs.Prelude.{◌≡◌, ◌↔◌, ⊤, ℕ, List, [], ◌∷◌, Contains, Option}
use Rattle.config.specs.declared.config.ImapStore.{ImapStore}
use Rattle.config.specs.declared.config.MaildirStore.{MaildirStore}
use Rattle.device.specs.OwnFiles.{FilesParts}
use Rattle.device.specs.declared.history.History.{History}
use Rattle.imap_answers.specs.MailboxNames.{names_of}
use Rattle.imap_client.specs.Sessions.{server_of}
use Rattle.imap_link.specs.declared.link.Link as link
use Rattle.imap_session.specs.Servers.{Server}
use Rattle.maildir.specs.DiskFolders.{FolderParts}
use Rattle.near_places.specs.Trees.{Agrees, HasBox, Tree}
use Rattle.near_places.specs.declared.looks.Looks.{Looks}
use Rattle.channels.specs.Boxes.{put_names}
use Rattle.channels.specs.Listings.{ListedFar, ListedNear, far_listings, near_listings}
use Rattle.mail_sides.specs.declared.logged_in.LoggedIn.{LoggedIn}
use Rattle.mail_stores.specs.Addresses.{address_of}
use Rattle.mail_stores.specs.Names.{IsServable, synchronised}
use Rattle.mail_stores.specs.declared.past.Past.{Past}

-- ---- of far stores

-- of the mailboxes that a server has, those that a mailbox near can have
abbrev pub synchronised_at : Server → List (List ℕ)
synchronised_at server = synchronised (names_of server)

-- the same, each once, in the order of their bytes
abbrev pub listed_at : Server → List (List ℕ)
listed_at server = put_names [] (synchronised_at server)

module _ {L : Type 0} {links : link.Ghosts L} where
  -- Over a session, as it was after it listed and before, these names were listed. Where its link has behaved as specified until then,
  -- they are those that its server has.
  pub record Hears (before : LoggedIn L links) (names : List (List ℕ)) (over : List (LoggedIn L links)) : Type 0 where
    pub after : LoggedIn L links
    pub is : over ≡ after ∷ before ∷ []
    pub said : links.honest after.session.wire.link → names ≡ names_of (server_of before.session)

module _ {L : Type 0} {links : link.Ghosts L} (address : L → List ℕ) where
  -- So were these, over a session that led to the server of this store. Where its link has behaved as specified until then, they are those
  -- that this server has.
  pub record Lists (names_at : Server → List (List ℕ)) (store : ImapStore) (names : List (List ℕ)) (over : List (LoggedIn L links)) : Type 0 where
    pub before : LoggedIn L links
    pub after : LoggedIn L links
    pub is : over ≡ after ∷ before ∷ []
    pub server : address before.session.wire.link ≡ address_of store
    pub said : links.honest after.session.wire.link → names ≡ names_at (server_of before.session)

  -- so was each of these listings answered, each over its session
  abbrev pub AllListed : List ListedFar → List (History (LoggedIn L links)) → Type 0
  AllListed [] [] = ⊤
  AllListed [] (over ∷ more) = ⊥
  AllListed (listed ∷ others) [] = ⊥
  AllListed (listed ∷ others) (over ∷ more) = Lists listed_at listed.store listed.names over.items × AllListed others more

-- ---- of near stores

-- These are the mailboxes of the store that a server can have, in each tree of folders where all answers of the disk are as it gave them.
abbrev pub Finds : (home : Option (List ℕ)) → MaildirStore → (names : List (List ℕ)) → Looks → Type 0
Finds home store names looks =
    (tree : Tree) → Agrees tree looks.looks → (name : List ℕ) → Contains names name ↔ (HasBox tree home store name × IsServable name)

-- so was each of these listings answered, each by its answers
abbrev pub AllFound : (home : Option (List ℕ)) → List ListedNear → List Looks → Type 0
AllFound home [] [] = ⊤
AllFound home [] (looks ∷ more) = ⊥
AllFound home (listed ∷ others) [] = ⊥
AllFound home (listed ∷ others) (looks ∷ more) = Finds home listed.store listed.names looks × AllFound home others more

-- ---- of all

module _ {L : Type 0} {links : link.Ghosts L} (address : L → List ℕ) where
  -- so was, of stores with this past, each listing that they answered
  pub record HaveListed (home : Option (List ℕ)) (past : Past L FolderParts FilesParts links) : Type 0 where
    pub far : ∥ AllListed address (far_listings past.asked.asked) past.listed.items ∥₁
    pub near : ∥ AllFound home (near_listings past.asked.asked) past.found.items ∥₁
