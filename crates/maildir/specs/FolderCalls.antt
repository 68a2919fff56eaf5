-- What a call on a folder does before which others may have added files.
use Rattle.std.specs.Prelude.{Result}
use Rattle.device.specs.Calls.{Acts, Answers, Between, IsStop, Seen, Stays}
use Rattle.device.specs.declared.DeviceFault.{DeviceFault}
use Rattle.mailcore.specs.Visitors.{Visitors}
use Rattle.maildir.specs.Folders.{Stored}
use Rattle.maildir.specs.Gains.{Adds}

-- others add files, and then the call changes nothing and answers what is so
abbrev pub ReadAnew : {T : Type 0} → (honest : Type 0) → Visitors → (states : T → Stored → Type 0) → Seen Stored → Seen Stored → Result T DeviceFault → Type 0
ReadAnew honest visitors states = Acts honest IsStop (Between (Adds visitors)) (Answers states) (λ fault. Stays)
