use Rattle.std.proofs.Common.{◌≡◌, take}
use Rattle.std.specs.List.{fold}
use Rattle.imap_answers.specs.Fetching.{nothing_reported, reported_more}
use Rattle.imap_answers.proofs.reported.FetchReport.of.Given as goal

abbrev pub invariant-loop-item : goal.invariant-loop-item
invariant-loop-item l = l.reported ≡ fold (reported_more l.keywords) nothing_reported (take l.item-index l.items)
