-- What a reading knows of the sections of its lines, where none of these was faulty.
use Rattle.std.specs.Prelude.{ℕ, ◌≡◌, true, List, [], IsSome, None}
use Rattle.config.specs.declared.draft.Draft.{Draft}
use Rattle.config.specs.declared.reading.Reading.{Reading}
use Rattle.config_words.specs.declared.keyword.LinePlace.{LinePlace}
use Rattle.config_words.specs.declared.keyword.LinePlace.TheVariants.{Start}
use Rattle.config.specs.Accepted.{AcceptsLine, AreUnmixed, IsAccepted}
use Rattle.config.specs.Configurations.{Parts}
use Rattle.config_words.specs.Places.{is_section}
use Rattle.config.specs.Views.{view, view_of}

-- a draft holds what these lines say
pub record IsDrawn (p : Parts) (d : Draft) : Type 0 where
  pub view : view d ≡ view_of p
  pub first : p.current.kind ≡ Start → p.ended ≡ []
  pub unmixed : AreUnmixed p

-- as long as no line was faulty
abbrev pub Draws : Parts → Reading → Type 0
Draws p reading = reading.first ≡ None → IsDrawn p reading.draft

pub record IsMeant (p : Parts) (reading : Reading) : Type 0 where
  pub draft : IsDrawn p reading.draft
  pub begun : is_section p.current.kind ≡ true → IsSome reading.begun

-- as long as no line was faulty
abbrev pub Knows : Parts → Reading → Type 0
Knows p reading = reading.first ≡ None → IsMeant p reading

-- no line was faulty before, and this line of words was not
abbrev pub Took : LinePlace → List ℕ × List ℕ → (old new : Reading) → Type 0
Took at words old new = new.first ≡ None → (old.first ≡ None) × IsAccepted at words

-- no line was faulty before, and this line was not, after these sections
abbrev pub TookLine : Parts → List ℕ → (old new : Reading) → Type 0
TookLine p line old new = new.first ≡ None → (old.first ≡ None) × AcceptsLine p.current.kind line
