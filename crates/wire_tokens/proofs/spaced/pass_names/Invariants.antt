use Rattle.std.proofs.Common.{◌≡◌, ◌-◌, suc, length}
use Rattle.wire_reader.specs.Folding.{fold_by}
use Rattle.wire_tokens.specs.Names.{name_at, nothing, names_passed}
use Rattle.wire_tokens.proofs.spaced.pass_names.Given as goal

abbrev pub invariant-loop : goal.invariant-loop
invariant-loop l = fold_by 32 (name_at l.kind) nothing (suc (length l.bytes) - l.counter) tt l.rest ≡ names_passed l.kind l.bytes
