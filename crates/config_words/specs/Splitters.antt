-- The reader of arguments, as clauses see it.
use Rattle.std.specs.Prelude.{map, option_map, string_bytes}
use Rattle.config_words.specs.declared.words.Splitter.{Splitter}
use Rattle.config_words.specs.Words.{Split}

abbrev pub split_of : Splitter → Split
split_of s = record { list = map string_bytes s.list.items; argument = option_map string_bytes s.argument; quoted = s.is_quoted; escaped = s.is_escaped }
