-- Where the folders of near mailboxes are.
use Rattle.std.specs.Prelude.{ℕ, ◌==◌, nat_eq, Bool, false, ◌&&◌, List, [], ◌∷◌, ◌++◌, Option, None, Some, codes, string_bytes, if◌then◌else◌}
use Rattle.std.specs.Cmp.Lexicographic.{pointwise}
use Rattle.config.specs.declared.config.MaildirStore.{MaildirStore}

-- whether a path begins with `/` (47)
abbrev pub begins_with_slash : List ℕ → Bool
begins_with_slash [] = false
begins_with_slash (b ∷ bs) = b == 47

-- a path with the home folder instead of a leading `~` (126), where a slash stands after it
abbrev pub placed : (home : Option (List ℕ)) (path : List ℕ) → List ℕ
placed None path = path
placed (Some home) [] = []
placed (Some home) (b ∷ bs) = if b == 126 && begins_with_slash bs then home ++ bs else b ∷ bs

-- the folder of the near mailbox of this name
abbrev pub folder_of : (home : Option (List ℕ)) (store : MaildirStore) (name : List ℕ) → List ℕ
folder_of home store name =
    if pointwise nat_eq name (codes "INBOX") then placed home (string_bytes store.inbox) else placed home (string_bytes store.path) ++ name
