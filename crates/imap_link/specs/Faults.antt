-- The faults of a link and of a reader, as those of a call.
use Rattle.wire_reader.specs.declared.answer.WireFault.{WireFault}
use Rattle.wire_reader.specs.declared.answer.WireFault.TheVariants as wire
use Rattle.imap_link.specs.declared.link.LinkFault.{LinkFault}
use Rattle.imap_link.specs.declared.link.LinkFault.TheVariants as links
use Rattle.imap_link.specs.declared.fault.FarFault.{FarFault}
use Rattle.imap_link.specs.declared.fault.FarFault.TheVariants.{Stopped, Refused, Protocol, TooLong, NoRev2, ReadOnly, NoMemory}

abbrev pub link_fault : LinkFault → FarFault
link_fault links.Stopped = Stopped
link_fault links.NoMemory = NoMemory

abbrev pub heard_fault : WireFault → FarFault
heard_fault (wire.Syntax at) = Protocol
heard_fault wire.LineTooLong = TooLong
heard_fault (wire.LiteralTooLong at) = TooLong
heard_fault wire.NoMemory = NoMemory

-- the faults of a stop or of too little memory; an honest server causes no other fault
abbrev pub IsStop : FarFault → Type 0
IsStop Stopped = Unit {0}
IsStop Refused = ⊥
IsStop Protocol = ⊥
IsStop TooLong = ⊥
IsStop NoRev2 = ⊥
IsStop ReadOnly = ⊥
IsStop NoMemory = Unit {0}

-- the faults that hearing replies reports; a refusal, and what a server lacks, are reported by the session
abbrev pub IsHearing : FarFault → Type 0
IsHearing Stopped = Unit {0}
IsHearing Refused = ⊥
IsHearing Protocol = Unit {0}
IsHearing TooLong = Unit {0}
IsHearing NoRev2 = ⊥
IsHearing ReadOnly = ⊥
IsHearing NoMemory = Unit {0}
