use Rattle.std.proofs.Common.{◌≡◌, map, take}
use Rattle.std.specs.Prelude.{string_bytes}
use Rattle.config_words.proofs.setting.bytes_of.Given as goal

abbrev pub invariant-loop-argument : goal.invariant-loop-argument
invariant-loop-argument l = map (λ word. word.now) l.words.items ≡ map string_bytes (take l.argument-index l.arguments)
