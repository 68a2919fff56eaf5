use Rattle.std.proofs.Common.{◌≡◌, ◌++◌, [], take, string_bytes}
use Rattle.worlds.specs.Keywords.{keyword_lines}
use Rattle.worlds.proofs.write.write_keywords.Given as goal

abbrev pub invariant-loop-keyword : goal.invariant-loop-keyword
invariant-loop-keyword l = string_bytes l.text ≡ string_bytes l.fn.text ++ keyword_lines (take l.keyword-index l.keywords) []
