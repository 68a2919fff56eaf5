use Rattle.std.proofs.Common.{◌≡◌, map, take}
use Rattle.rules.specs.SyncWords.{word_text}
use Rattle.config.proofs.cells.written.Given as goal

-- the words so far stand as they are written
abbrev pub invariant-loop-word : goal.invariant-loop-word
invariant-loop-word l = map (λ t. t.now) l.texts.items ≡ map word_text (take l.word-index l.words)
