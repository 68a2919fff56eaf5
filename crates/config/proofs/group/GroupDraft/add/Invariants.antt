use Rattle.std.proofs.Common.{◌≡◌, ◌++◌, ℕ, map}
use Rattle.std.specs.Prelude.{string_bytes}
use Rattle.config.specs.Named.{member_name}
use Rattle.config.specs.Readings.{AreLines, IsLine}
use Rattle.config.proofs.group.GroupDraft.add.Given as goal

abbrev pub invariant-loop-name : goal.invariant-loop-name
invariant-loop-name l =
    (map member_name l.self.members.items ≡ map member_name l.fn.self.members.items ++ map string_bytes l.yielded)
    × ((last : ℕ) → IsLine last l.line → AreLines last l.fn.self.members.items → AreLines last l.self.members.items)
