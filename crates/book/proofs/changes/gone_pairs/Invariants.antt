use Rattle.std.proofs.Common.{◌≡◌, take}
use Rattle.std.specs.List.{list_any}
use Rattle.rules.specs.declared.entry.Entry.{Entry}
use Rattle.book.specs.Changes.{is_of}
use Rattle.book.specs.Committed.{says_gone}
use Rattle.book.proofs.changes.gone_pairs.Given as goal

abbrev pub invariant-loop-step : goal.invariant-loop-step
invariant-loop-step l = (e : Entry) → list_any (is_of e) l.pairs.items ≡ list_any (says_gone l.direction e) (take l.step-index l.steps)
