use Rattle.std.proofs.Common.{◌≡◌, take}
use Rattle.std.specs.List.{fold}
use Rattle.mailcore.specs.KeywordNames.{with_flag, written_order}
use Rattle.mailcore.proofs.keywords.six.Given as goal

abbrev pub invariant-loop-flag : goal.invariant-loop-flag
invariant-loop-flag l = l.six ≡ fold with_flag 0 (take l.flag-index written_order)
