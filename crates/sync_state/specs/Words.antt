-- The numbers and versions of states and journals.
use Rattle.std.specs.Prelude.{ℕ, ◌<◌, ◌^◌, List, codes}
use Rattle.sync_state.specs.declared.version.Version.{Version}
use Rattle.sync_state.specs.declared.version.Version.TheVariants.{One, Two}
pub use Rattle.rules.specs.Plans.{IsUid, IsPositive, IsUidOrNone}

-- the number of a run that was made
pub record IsRun (n : ℕ) : Type 0 where
  pub positive : 0 < n
  pub fits : n < 2 ^ 64

abbrev pub version_word : Version → List ℕ
version_word One = codes "1"
version_word Two = codes "2"
