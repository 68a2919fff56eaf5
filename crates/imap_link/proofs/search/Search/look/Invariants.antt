use Rattle.std.proofs.Common.{◌≤◌}
use Rattle.imap_link.specs.Searches.{IsSearched}
use Rattle.imap_link.proofs.search.Search.look.Given as goal

abbrev pub invariant-loop : goal.invariant-loop
invariant-loop l = record {
  searched : IsSearched l.self l.bytes;
  far : l.counter ≤ l.self.scanned;
}
