use Rattle.std.proofs.Common.{◌↔◌, take}
use Rattle.std.specs.Prelude.{IsTrue}
use Rattle.config_words.specs.Patterns.{IsChosen}
use Rattle.config_words.proofs.patterns.matches.Given as goal

abbrev pub invariant-loop-word : goal.invariant-loop-word
invariant-loop-word l = IsTrue l.is_chosen ↔ IsChosen (take l.word-index l.word-items) l.name
