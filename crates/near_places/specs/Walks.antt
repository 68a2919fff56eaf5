-- How the folders of a tree are read in turn.
use Rattle.std.specs.Prelude.{◌≡◌, ℕ, ◌==◌, Bool, false, ◌&&◌, not, if◌then◌else◌, List, [], ◌∷◌, ◌++◌, map, filter, Option, None, Some, codes, string_bytes}
use Rattle.std.specs.List.{list_any, flat_map}
use Rattle.config_words.specs.Inboxes.{is_inbox}
use Rattle.near_places.specs.Trees.{Tree, is_mail_folder, is_within}
use Rattle.near_places.specs.declared.looks.Identity.{Identity}
use Rattle.near_places.specs.declared.tree.WalkStart.{WalkStart}
use Rattle.near_places.specs.declared.tree.TreeFolder.{TreeFolder}
use Rattle.near_places.specs.declared.tree.TreeWalk.{TreeWalk}

-- a folder to be read: the way to it, and the folders on this way
pub record Folder : Type 0 where
  pub way : List ℕ
  pub above : List Identity

-- those to be read whose names are within the limits
abbrev pub folder_of : TreeFolder → Folder
folder_of f = record { way = string_bytes f.way; above = f.above.items }

abbrev pub folders_within : List TreeFolder → List Folder
folders_within fs = map folder_of (filter (λ f. f.is_within) fs)

-- a walk has gained these folders to be read, and these names
pub record Gained (old new : TreeWalk) (folders : List Folder) (names : List (List ℕ)) : Type 0 where
  pub ahead : folders_within new.ahead.items ≡ folders_within old.ahead.items ++ folders
  pub listed : map string_bytes new.names.within.items ≡ map string_bytes old.names.within.items ++ names

abbrev pub is_same : Identity → Identity → Bool
is_same a b = a.device == b.device && a.number == b.number

abbrev pub is_among : List Identity → Identity → Bool
is_among folders folder = list_any (λ other. is_same other folder) folders

abbrev pub is_at : Option Identity → Identity → Bool
is_at None folder = false
is_at (Some other) folder = is_same other folder

-- a folder that is there, unless it is above itself
abbrev pub new_folder : (above : List Identity) (found : Option Identity) → Option Identity
new_folder above None = None
new_folder above (Some folder) = if is_among above folder then None else Some folder

-- what is to be read of it
abbrev pub followed : (name : List ℕ) (above : List Identity) (found : Option Identity) → List Folder
followed name above None = []
followed name above (Some folder) = record { way = name ++ codes "/"; above = above ++ folder ∷ [] } ∷ []

-- what is to be read first
abbrev pub followed_root : (found : Option Identity) → List Folder
followed_root None = []
followed_root (Some top) = record { way = []; above = top ∷ [] } ∷ []

-- its name, if it is to be listed
abbrev pub listed_box : (name : List ℕ) (is_box : Bool) → List (List ℕ)
listed_box name is_box = if is_box && not (is_inbox name) then name ∷ [] else []

abbrev pub listed : (inbox : Option Identity) (name : List ℕ) (is_box : Bool) (found : Option Identity) → List (List ℕ)
listed inbox name is_box None = []
listed inbox name is_box (Some folder) = if is_at inbox folder then [] else listed_box name is_box

-- what is found at a part of a folder
abbrev pub found_at : (tree : Tree) (root : List ℕ) (folder : Folder) (part : List ℕ) → Option Identity
found_at tree root folder part =
    if not (is_mail_folder part) && is_within (folder.way ++ part) then new_folder folder.above (tree.folder (root ++ (folder.way ++ part))) else None

abbrev pub followed_at : (tree : Tree) (root : List ℕ) (folder : Folder) (part : List ℕ) → List Folder
followed_at tree root folder part = followed (folder.way ++ part) folder.above (found_at tree root folder part)

abbrev pub listed_at : (tree : Tree) (root : List ℕ) (inbox : Option Identity) (folder : Folder) (part : List ℕ) → List (List ℕ)
listed_at tree root inbox folder part =
    listed inbox (folder.way ++ part) (tree.is_box (root ++ (folder.way ++ part))) (found_at tree root folder part)

-- a walk has gained what is found at a name within the limits below these folders
abbrev pub GainedAt : (tree : Tree) (start : WalkStart) (name : List ℕ) (above : List Identity) (old new : TreeWalk) → Type 0
GainedAt tree start name above old new =
    let path : List ℕ = string_bytes start.root ++ name in
    let found : Option Identity = new_folder above (tree.folder path) in
    Gained old new (followed name above found) (listed start.inbox name (tree.is_box path) found)

-- what is found at a part of a folder
abbrev pub GainedOf : (tree : Tree) (start : WalkStart) (folder : TreeFolder) (part : List ℕ) (old new : TreeWalk) → Type 0
GainedOf tree start folder part old new =
    let root : List ℕ = string_bytes start.root in
    Gained old new (followed_at tree root (folder_of folder) part) (listed_at tree root start.inbox (folder_of folder) part)

-- what is found at these parts of a folder
abbrev pub GainedIn : (tree : Tree) (start : WalkStart) (folder : TreeFolder) (parts : List (List ℕ)) (old new : TreeWalk) → Type 0
GainedIn tree start folder parts old new =
    let root : List ℕ = string_bytes start.root in
    Gained old new (flat_map (followed_at tree root (folder_of folder)) parts) (flat_map (listed_at tree root start.inbox (folder_of folder)) parts)

-- INBOX, if it is there
abbrev pub first_names : (has_inbox : Bool) → List (List ℕ)
first_names has_inbox = if has_inbox then codes "INBOX" ∷ [] else []
