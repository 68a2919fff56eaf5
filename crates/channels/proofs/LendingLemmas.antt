-- What is done over mailboxes that are lent.
use Rattle.std.proofs.Common.{◌≡◌, ap, subst}
use Rattle.outside.specs.Calls.{Seen, opened_again}
use Rattle.outside.specs.Devices.{Device}
use Rattle.outside.specs.GoingOn.{GoesOn}

-- what was opened again has the same device
pub goes_on_again : (old again : Seen) (d : Device) → again ≡ opened_again old → GoesOn again.device d → GoesOn old.device d
goes_on_again old again d e h = subst (λ (was : Device). GoesOn was d) (ap (λ (s : Seen). s.device) e) h
