use Rattle.std.proofs.Common.{◌≡◌, drop}
use Rattle.wire_reader.specs.Words.{word_at}
use Rattle.wire_reader.proofs.keyword.word.Given as goal

abbrev pub invariant-loop-c : goal.invariant-loop-c
invariant-loop-c l = word_at (drop l.c-index l.word) l.rest ≡ word_at l.word l.bytes
