-- What others add to a folder while a run is at work: other programs deliver mail to it, and people file mail there.
use Rattle.std.specs.Prelude.{◌≡◌, ◌≢◌, ◌++◌, ℕ, Bool, true, false, List, All}
use Rattle.std.specs.List.Sorted.{IsPermutation}
use Rattle.mailcore.specs.Content.{mark_of}
use Rattle.mailcore.specs.Visitors.{Visitors, AreOctets, IsForeign}
use Rattle.maildir.specs.declared.folder.File.{File}
use Rattle.maildir.specs.Folders.{Stored, AreApart, name_of_file}
use Rattle.maildir.specs.Names.{is_waiting}

-- a file that waits for its UID, under a name that none of these files has, with a message that bears no mark of the run
pub record IsArrival (ours : List ℕ → Bool) (files : List File) (file : File) : Type 0 where
  pub waits : is_waiting file.name ≡ true
  pub own : All (λ f. name_of_file f ≢ name_of_file file) files
  pub octets : AreOctets file.bytes
  pub foreign : IsForeign ours (mark_of file.bytes)

-- Others add files that arrive. In which order the files of a folder stand is not known. Where a run is alone, nothing changes.
pub record Gains (visitors : Visitors) (old new : Stored) : Type 0 where
  pub more : List File
  pub files : IsPermutation (old.files ++ more) new.files
  pub arrivals : All (IsArrival visitors.ours old.files) more
  pub apart : AreApart more
  pub is_there : new.is_there ≡ old.is_there
  pub copy : new.copy ≡ old.copy
  pub meta : new.meta ≡ old.meta
  pub nobody : visitors.alone ≡ true → new ≡ old

-- others add files, which follow those that were there
pub record Adds (visitors : Visitors) (old new : Stored) : Type 0 where
  pub gains : Gains visitors old new
  pub following : new.files ≡ old.files ++ gains.more

-- nobody else adds files
abbrev pub nobody : Visitors
nobody = record { ours = λ mark. true; alone = true }

-- others add files, and write no marks
abbrev pub others : Visitors
others = record { ours = λ mark. true; alone = false }
