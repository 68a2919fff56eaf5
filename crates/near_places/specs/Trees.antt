-- Which mailboxes a tree of folders has.
use Rattle.std.specs.Prelude.{◌≡◌, ◌≢◌, ◌↔◌, ◌⊎◌, ℕ, Bool, true, false, ◌&&◌, ◌||◌, not, List, [], ◌∷◌, ◌++◌, All, Contains, Option, Some, codes, bytes_eq, string_bytes}
use Rattle.mailcore.specs.MailboxNames.{is_mailbox_name}
use Rattle.config.specs.declared.config.MaildirStore.{MaildirStore}
use Rattle.config_words.specs.Inboxes.{is_inbox}
use Rattle.near_places.specs.Names.{has_own_part}
use Rattle.near_places.specs.Paths.{placed}
use Rattle.near_places.specs.declared.looks.Identity.{Identity}

-- ---- what the system says

-- a tree of folders: which folder is at a path, if one is; the names in the folder at a path; and whether a mailbox is at a path, which
-- is a folder with `cur`, `new` and `tmp`
pub record Tree : Type 0 where
  pub folder : (path : List ℕ) → Option Identity
  pub names : (path : List ℕ) → List (List ℕ)
  pub is_box : (path : List ℕ) → Bool

-- what the system was asked of a path, and its answer
pub data Look : Type 0 where
  FolderAt : (path : List ℕ) (found : Option Identity) → Look
  NamesIn : (path : List ℕ) (names : List (List ℕ)) → Look
  BoxAt : (path : List ℕ) (is_box : Bool) → Look

-- this is how it is in the tree
abbrev pub Answers : Tree → Look → Type 0
Answers tree (FolderAt path found) = tree.folder path ≡ found
Answers tree (NamesIn path names) = tree.names path ≡ names
Answers tree (BoxAt path is_box) = tree.is_box path ≡ is_box

-- all answers are as in the tree
abbrev pub Agrees : Tree → List Look → Type 0
Agrees tree looks = All (Answers tree) looks

-- a tree where all later answers are as they were given is one where the earlier ones are
pub record IsLater (old new : List Look) : Type 0 where
  pub earlier : (tree : Tree) → Agrees tree new → Agrees tree old

-- ---- the mailboxes of a tree

-- the three folders of a mailbox, which are not looked into
abbrev pub is_mail_folder : (part : List ℕ) → Bool
is_mail_folder part = bytes_eq part (codes "cur") || bytes_eq part (codes "new") || bytes_eq part (codes "tmp")

-- a mailbox below the path of a store can have this name
abbrev pub is_within : (name : List ℕ) → Bool
is_within name = is_mailbox_name name && not (has_own_part name)

-- A folder below another one, whose way from the root is known, and the folders on this way. One that is above itself, by a symlink, is
-- left out.
pub record IsBelow (tree : Tree) (root way : List ℕ) (above : List Identity) (part : List ℕ) (folder : Identity) : Type 0 where
  pub named : Contains (tree.names (root ++ way)) part
  pub other : is_mail_folder part ≡ false
  pub within : is_within (way ++ part) ≡ true
  pub stands : tree.folder (root ++ (way ++ part)) ≡ Some folder
  pub apart : ¬ (Contains above folder)

-- a way from the root down to a folder, each part of which a slash follows, and the folders on it
pub data Way (tree : Tree) (root : List ℕ) : (way : List ℕ) → (above : List Identity) → Type 0 where
  at_root : (top : Identity) → tree.folder root ≡ Some top → Way tree root [] (top ∷ [])
  below : (way : List ℕ) (above : List Identity) (part : List ℕ) (folder : Identity) → Way tree root way above
      → IsBelow tree root way above part folder → Way tree root ((way ++ part) ++ codes "/") (above ++ folder ∷ [])

-- A mailbox under the root. The folder of Inbox is none, whatever way leads to it, nor is one whose name means INBOX.
pub record IsBoxUnder (tree : Tree) (root inbox name : List ℕ) : Type 0 where
  pub way : List ℕ
  pub above : List Identity
  pub part : List ℕ
  pub folder : Identity
  pub leads : Way tree root way above
  pub below : IsBelow tree root way above part folder
  pub named : name ≡ way ++ part
  pub no_inbox : is_inbox name ≡ false
  pub elsewhere : tree.folder inbox ≢ Some folder
  pub is_box : tree.is_box (root ++ name) ≡ true

-- these are exactly the names of the mailboxes under the root, in each tree where all answers are as they were given
abbrev pub AreBoxesUnder : (root inbox : List ℕ) (looks : List Look) (names : List (List ℕ)) → Type 0
AreBoxesUnder root inbox looks names =
    (tree : Tree) → Agrees tree looks → (name : List ℕ) → Contains names name ↔ IsBoxUnder tree root inbox name

-- INBOX, if a mailbox is at the path of Inbox
abbrev pub IsInbox : (tree : Tree) (inbox name : List ℕ) → Type 0
IsInbox tree inbox name = (name ≡ codes "INBOX") × (tree.is_box inbox ≡ true)

-- a mailbox of a store in the tree
abbrev pub HasBox : (tree : Tree) (home : Option (List ℕ)) (store : MaildirStore) (name : List ℕ) → Type 0
HasBox tree home store name =
    IsInbox tree (placed home (string_bytes store.inbox)) name
    ⊎ IsBoxUnder tree (placed home (string_bytes store.path)) (placed home (string_bytes store.inbox)) name

-- these are exactly the names of the mailboxes of a store, in each such tree
abbrev pub AreBoxes : (home : Option (List ℕ)) (store : MaildirStore) (looks : List Look) (names : List (List ℕ)) → Type 0
AreBoxes home store looks names =
    (tree : Tree) → Agrees tree looks → (name : List ℕ) → Contains names name ↔ HasBox tree home store name
