use Rattle.std.proofs.Common.{◌≡◌, ◌++◌, take, string_bytes}
use Rattle.std.specs.List.{flat_map}
use Rattle.worlds.proofs.FileTexts.{file_line}
use Rattle.worlds.proofs.write.write_waiting.Given as goal

abbrev pub invariant-loop-file : goal.invariant-loop-file
invariant-loop-file l = string_bytes l.text ≡ string_bytes l.fn.text ++ flat_map file_line (take l.file-index l.files)
