-- How the faults of the near box are reported.
use Rattle.std.specs.Prelude.{Result, Ok, Err}
use Rattle.near_box.specs.declared.near_fault.NearFault.{NearFault}
use Rattle.near_box.specs.declared.near_fault.NearFault.TheVariants as near
use Rattle.outside.specs.declared.box_fault.BoxFault.{BoxFault}
use Rattle.outside.specs.declared.box_fault.BoxFault.TheVariants.{Stopped, Own, NoMemory}
use Rattle.outside.specs.FaultNumbers.{NEAR_ABSENT, NEAR_TWO_WITH_ONE_UID, NEAR_BAD_META, NEAR_UIDS_EXHAUSTED}

-- those that are its own have numbers
abbrev pub reported : NearFault → BoxFault
reported near.Stopped = Stopped
reported near.Absent = Own NEAR_ABSENT
reported near.TwoWithOneUid = Own NEAR_TWO_WITH_ONE_UID
reported near.BadMeta = Own NEAR_BAD_META
reported near.UidsExhausted = Own NEAR_UIDS_EXHAUSTED
reported near.NoMemory = NoMemory

abbrev pub reported_by : {T : Type 0} → Result T NearFault → Result T BoxFault
reported_by (Ok answer) = Ok answer
reported_by (Err fault) = Err (reported fault)
