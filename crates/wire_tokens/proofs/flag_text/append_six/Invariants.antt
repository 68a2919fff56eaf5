use Rattle.std.proofs.Common.{◌≡◌, take}
use Rattle.std.specs.List.{fold}
use Rattle.mailcore.specs.KeywordNames.{written_order}
use Rattle.wire_tokens.specs.FlagLists.{with_flag_name}
use Rattle.wire_tokens.proofs.flag_text.append_six.Given as goal

abbrev pub invariant-loop-flag : goal.invariant-loop-flag
invariant-loop-flag l = l.text.items ≡ fold (with_flag_name l.flags) l.fn.text.items (take l.flag-index written_order)
