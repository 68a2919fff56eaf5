-- Others who add messages to the mailboxes of a server in memory.
use Rattle.std.specs.Prelude.{ℕ, Bool, List, All, Option, None, Some}
use Rattle.std.proofs.Props.{props}
use Rattle.mailcore.specs.Content.{mark_of}
use Rattle.mailcore.specs.Visitors.{IsForeign}
use Rattle.mem_link.specs.declared.arrivals.Arrival.{Arrival}

-- none of their messages bears a mark that is the run's
abbrev pub AreForeign : (ours : List ℕ → Bool) → List Arrival → Type 0
AreForeign ours arrivals = All (λ a. IsForeign ours (mark_of a.bytes)) arrivals

-- ---- this has one proof

IsForeign-prop : (ours : List ℕ → Bool) (mark : Option (List ℕ)) → IsProp (IsForeign ours mark)
IsForeign-prop ours None = Prim.hlevel props
IsForeign-prop ours (Some mark) = Prim.hlevel props

pub AreForeign-prop : (ours : List ℕ → Bool) (arrivals : List Arrival) → IsProp (AreForeign ours arrivals)
AreForeign-prop ours arrivals = Prim.hlevel (IsForeign-prop, props)
