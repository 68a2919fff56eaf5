-- Which faults of a connection the errors of reading and writing are.
use Rattle.std.specs.declared.io.ErrorKind.{ErrorKind}
use Rattle.std.specs.declared.io.ErrorKind.TheVariants.{OutOfMemory}
use Rattle.serve.specs.declared.fault.ServeFault.{ServeFault}
use Rattle.serve.specs.declared.fault.ServeFault.TheVariants.{Connection, NoMemory}

-- too little memory is reported as such, and any other error as one of the connection
abbrev pub reported : ErrorKind → ServeFault
reported OutOfMemory = NoMemory
reported _ = Connection
