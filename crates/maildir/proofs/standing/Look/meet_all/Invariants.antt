use Rattle.std.proofs.Common.{◌≡◌, []}
use Rattle.maildir.specs.Standings.{HasMet, files_in, shown_by}
use Rattle.maildir.proofs.standing.Look.meet_all.Given as goal

abbrev pub invariant-loop-name : goal.invariant-loop-name
invariant-loop-name l = record {
  quiet : shown_by l.initial.self.sought.gone.now l.initial.self.sought.marked.now (files_in l.place l.yielded) ≡ [];
  met : HasMet l.initial.self.sought.marked.now (files_in l.place l.yielded) l.initial.self.marked.items l.self.marked.items l.initial.self.odd.items l.self.odd.items;
  sought : l.self.sought ≡ l.initial.self.sought;
}
