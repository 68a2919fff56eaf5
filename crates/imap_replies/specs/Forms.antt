-- The two forms in which the parts of a reply stand.
use Rattle.std.specs.Prelude.{ℕ, List}
use Rattle.wire_reader.specs.Spelling.{Is, Word}

-- as it may be read, and as it is written
pub data Form : Type 0 where
  AsRead : Form
  AsWritten : Form

-- a word in any case, or in upper case, in which it is given
abbrev pub WordIn : Form → List ℕ → List ℕ → Type 0
WordIn AsRead = Word
WordIn AsWritten = Is
