-- What is known of a configuration while it is read.
use Rattle.std.specs.Prelude.{ℕ, ◌<◌, ◌≤◌, List, All, IfSome}
use Rattle.config.specs.declared.draft.Draft.{Draft}
use Rattle.config.specs.declared.group.Member.{Member}
use Rattle.config.specs.declared.group.NamedGroup.{NamedGroup}
use Rattle.config.specs.declared.reading.Reading.{Reading}
use Rattle.config.specs.declared.section.Section.{Section}
use Rattle.config.specs.declared.section.Section.TheVariants.{Group}
use Rattle.config.specs.Lines.{IsUpTo}

-- a line from 1 to this one
abbrev pub IsLine : (last line : ℕ) → Type 0
IsLine last line = (0 < line) × (line ≤ last)

-- lines that name channels of groups are lines from 1 to this one
abbrev pub AreLines : ℕ → List Member → Type 0
AreLines last members = All (λ m. IsLine last m.line) members

abbrev pub HasLines : ℕ → List NamedGroup → Type 0
HasLines last groups = All (λ g. AreLines last g.members.items) groups

abbrev pub SectionLines : ℕ → Section → Type 0
SectionLines last (Group draft) = AreLines last draft.members.items
SectionLines last _ = Unit {0}

abbrev pub NamesLines : ℕ → Draft → Type 0
NamesLines last d = HasLines last d.groups.items × SectionLines last d.section

-- the lines that are named are lines from 1 to this one
pub record IsRead (last : ℕ) (reading : Reading) : Type 0 where
  pub begun : IfSome reading.begun (IsLine last)
  pub first : IfSome reading.first (IsUpTo last)
  pub members : NamesLines last reading.draft
