-- The folder of a trial: the names of its files, and what it stores of a near mailbox.
use Rattle.std.specs.Prelude.{ℕ, zero, suc, ◌+◌, ◌/◌, ◌%◌, List, [], ◌∷◌, ◌++◌, length, fold, codes, Option, None, Some}
use Rattle.mailcore.specs.declared.keywords.Keyword.{Keyword}
use Rattle.mailcore.specs.declared.mailbox.Message.{Message}
use Rattle.mailcore.specs.Stores.{Store, Waiting}
use Rattle.maildir.specs.declared.folder.File.{File}
use Rattle.maildir.specs.declared.folder.Place.TheVariants.{Cur}
use Rattle.maildir.specs.Folders.{Stored, with_meta}
use Rattle.maildir.specs.Letters.{letters_with}
use Rattle.maildir.specs.MemFolders.{empty, with_file}
use Rattle.maildir.specs.Metas.{meta_text}
use Rattle.maildir.specs.Names.{name_text}

-- ---- names

-- so many digits of a number, the most significant first
unfoldable pub digits : (count number : ℕ) → List ℕ
digits zero number = []
digits (suc count) number = digits count (number / 10) ++ (48 + number % 10) ∷ []

-- a name whose letters are those of the flags that have a name in IMAP, by a map
abbrev pub name_with : List Keyword → (base : List ℕ) → (uid : Option ℕ) → (flags : ℕ) → List ℕ
name_with keywords base uid flags = name_text (record { base = base; uid = uid; letters = Some (letters_with keywords [] flags) })

abbrev pub message_name : List Keyword → Message → List ℕ
message_name keywords m = name_with keywords (codes "m") (Some m.uid) m.flags

-- as many digits for each, so that the byte order of the names is that of the numbers
abbrev pub waiting_base : ℕ → List ℕ
waiting_base number = codes "w" ++ digits 20 number

abbrev pub waiting_name : List Keyword → (number flags : ℕ) → List ℕ
waiting_name keywords number flags = name_with keywords (waiting_base number) None flags

-- ---- files

abbrev pub message_file : List Keyword → Message → File
message_file keywords m = record { place = Cur; name = message_name keywords m; bytes = m.bytes }

abbrev pub waiting_file : List Keyword → ℕ → Waiting → File
waiting_file keywords number f = record { place = Cur; name = waiting_name keywords number f.flags; bytes = f.bytes }

abbrev pub put_message : List Keyword → Stored → Message → Stored
put_message keywords s m = with_file (message_file keywords m) s

-- a file that waits is named by how many files stand there before it
abbrev pub put_waiting : List Keyword → Stored → Waiting → Stored
put_waiting keywords s f = with_file (waiting_file keywords (length s.files) f) s

-- ---- the folder

-- with the meta file of this mailbox, and no other
abbrev pub meta_alone : Store → Stored
meta_alone near = with_meta (meta_text (record { validity = near.validity; next = near.next })) empty

-- then the files of the messages are put there, and those that wait
abbrev pub folder_of : List Keyword → Store → List Waiting → Stored
folder_of keywords near waiting = fold (put_waiting keywords) (fold (put_message keywords) (meta_alone near) near.messages) waiting
