use Rattle.std.proofs.Common.{◌≡◌, filter}
use Rattle.std.specs.List.{filter_map}
use Rattle.near_box.specs.SurveyParts.{named_entry, waits}
use Rattle.near_box.proofs.survey.FoundFiles.among.Given as goal

abbrev pub invariant-loop-file : goal.invariant-loop-file
invariant-loop-file l = record {
  entries : l.found.entries.items ≡ filter_map named_entry l.yielded;
  waiting : l.found.waiting.items ≡ filter waits l.yielded;
}
