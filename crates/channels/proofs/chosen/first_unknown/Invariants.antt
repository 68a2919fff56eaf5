use Rattle.std.proofs.Common.{◌≡◌, drop, not, string_bytes}
use Rattle.std.specs.List.{find}
use Rattle.channels.specs.Chosen.{is_known}
use Rattle.channels.proofs.chosen.first_unknown.Given as goal

-- none of the names so far is unknown
abbrev pub invariant-loop-name : goal.invariant-loop-name
invariant-loop-name l = find (λ name. not (is_known l.config (string_bytes name))) l.names ≡ find (λ name. not (is_known l.config (string_bytes name))) (drop l.name-index l.names)
