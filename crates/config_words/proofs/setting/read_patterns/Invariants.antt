use Rattle.std.proofs.Common.{◌≡◌, map, take, true, length}
use Rattle.std.specs.Prelude.{string_bytes, nat_le}
use Rattle.std.specs.List.{list_all}
use Rattle.config_words.proofs.setting.read_patterns.Given as goal

abbrev pub invariant-loop-word : goal.invariant-loop-word
invariant-loop-word l =
    (l.patterns.items ≡ map string_bytes (take l.word-index l.words))
    × (list_all (λ word. nat_le (length word) 1024) (map string_bytes (take l.word-index l.words)) ≡ true)
