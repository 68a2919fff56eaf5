use Rattle.std.proofs.Common.{◌≡◌, ◌-◌, ◌≤◌, length, take, drop}
use Rattle.wire_reader.specs.Scanning.{scanned, place_from, first_place}
use Rattle.wire_reader.proofs.scanner.Scanner.advance.Given as goal

abbrev pub invariant-loop-done : goal.invariant-loop-done
invariant-loop-done l = record {
  within : l.done ≤ length l.bytes;
  moves : l.self ≡ scanned l.fn.self (take l.done l.bytes);
  place : place_from l.done l.self (drop l.done l.bytes) ≡ first_place l.fn.self l.bytes;
}

abbrev pub decreases-loop-done : goal.decreases-loop-done
decreases-loop-done l = length l.bytes - l.done
