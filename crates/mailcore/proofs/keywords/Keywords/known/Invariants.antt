use Rattle.std.proofs.Common.{◌≡◌, take}
use Rattle.std.specs.List.{fold}
use Rattle.mailcore.specs.KeywordNames.{with_flag, with_letter, written_order}
use Rattle.mailcore.proofs.keywords.Keywords.known.Given as goal

abbrev pub invariant-loop-keyword : goal.invariant-loop-keyword
invariant-loop-keyword l = l.known ≡ fold with_letter (fold with_flag 0 written_order) (take l.keyword-index l.self)
