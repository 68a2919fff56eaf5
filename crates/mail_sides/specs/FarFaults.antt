-- How the faults of the far box are reported.
use Rattle.std.specs.Prelude.{Result, Ok, Err}
use Rattle.imap_link.specs.declared.fault.FarFault.{FarFault}
use Rattle.imap_link.specs.declared.fault.FarFault.TheVariants as far
use Rattle.outside.specs.declared.box_fault.BoxFault.{BoxFault}
use Rattle.outside.specs.declared.box_fault.BoxFault.TheVariants.{Stopped, Refused, Own, NoMemory}
use Rattle.outside.specs.FaultNumbers.{FAR_UNKNOWN_ANSWER, FAR_TOO_LONG, FAR_NO_REV2, FAR_READ_ONLY}

-- those that are its own have numbers
abbrev pub reported : FarFault → BoxFault
reported far.Stopped = Stopped
reported far.Refused = Refused
reported far.Protocol = Own FAR_UNKNOWN_ANSWER
reported far.TooLong = Own FAR_TOO_LONG
reported far.NoRev2 = Own FAR_NO_REV2
reported far.ReadOnly = Own FAR_READ_ONLY
reported far.NoMemory = NoMemory

abbrev pub reported_by : {T : Type 0} → Result T FarFault → Result T BoxFault
reported_by (Ok answer) = Ok answer
reported_by (Err fault) = Err (reported fault)
