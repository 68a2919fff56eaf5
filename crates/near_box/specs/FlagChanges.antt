-- Changes of the flags of a message.
use Rattle.std.specs.Prelude.{ℕ, List}
use Rattle.mailcore.specs.declared.keywords.Keyword.{Keyword}
use Rattle.mailcore.specs.FlagSet.{union, minus}
use Rattle.mailcore.specs.KeywordNames.{kept}
use Rattle.near_box.specs.declared.flag_change.FlagChange.{FlagChange}
use Rattle.near_box.specs.declared.flag_change.FlagChange.TheVariants.{Add, Remove}

-- what flags become
abbrev pub changed_flags : FlagChange → ℕ → ℕ
changed_flags (Add more) = λ flags. union flags more
changed_flags (Remove fewer) = λ flags. minus flags fewer

-- the change of those of its flags that have a name
abbrev pub kept_change : List Keyword → FlagChange → FlagChange
kept_change keywords (Add more) = Add (kept keywords more)
kept_change keywords (Remove fewer) = Remove (kept keywords fewer)
