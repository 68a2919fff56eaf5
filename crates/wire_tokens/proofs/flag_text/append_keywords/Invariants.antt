use Rattle.std.proofs.Common.{◌≡◌, take}
use Rattle.std.specs.List.{fold}
use Rattle.wire_tokens.specs.FlagLists.{with_keyword_name}
use Rattle.wire_tokens.proofs.flag_text.append_keywords.Given as goal

abbrev pub invariant-loop-keyword : goal.invariant-loop-keyword
invariant-loop-keyword l = l.text.items ≡ fold (with_keyword_name l.flags) l.fn.text.items (take l.keyword-index l.keywords)
