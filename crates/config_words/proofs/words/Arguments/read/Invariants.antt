use Rattle.std.proofs.Common.{◌≡◌, take}
use Rattle.std.specs.Prelude.{fold}
use Rattle.config_words.specs.Splitters.{split_of}
use Rattle.config_words.specs.Words.{no_split, split_on}
use Rattle.config_words.proofs.words.Arguments.read.Given as goal

abbrev pub invariant-loop-byte : goal.invariant-loop-byte
invariant-loop-byte l = split_of l.splitter ≡ fold split_on no_split (take l.byte-index l.text)
