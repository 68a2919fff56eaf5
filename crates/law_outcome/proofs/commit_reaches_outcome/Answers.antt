use Rattle.law_outcome.proofs.Committed.{kept_are, are_paired, commit_reaches, named_are}
use Rattle.law_outcome.proofs.commit_reaches_outcome.Goals as goal

pub returns-clause-kept : goal.returns-clause-kept
returns-clause-kept c = kept_are

pub returns-clause-paired : goal.returns-clause-paired
returns-clause-paired c = are_paired

pub returns-clause-state : goal.returns-clause-state
returns-clause-state c = commit_reaches

pub returns-clause-in_turn : goal.returns-clause-in_turn
returns-clause-in_turn c = named_are
