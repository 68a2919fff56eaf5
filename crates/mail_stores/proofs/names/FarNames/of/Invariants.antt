use Rattle.std.proofs.Common.{◌≡◌}
use Rattle.std.specs.Prelude.{filter}
use Rattle.near_places.specs.Names.{has_own_part}
use Rattle.mail_stores.specs.Names.{synchronised}
use Rattle.mail_stores.proofs.names.FarNames.of.Given as goal

abbrev pub invariant-loop-name : goal.invariant-loop-name
invariant-loop-name l = (l.synchronised.items ≡ synchronised l.yielded) × (l.skipped.items ≡ filter has_own_part l.yielded)
