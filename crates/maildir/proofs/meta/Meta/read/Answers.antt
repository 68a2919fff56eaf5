use Rattle.std.proofs.Common.{rules}
use Rattle.maildir.specs.Metas.{meta_of}
use Rattle.maildir.proofs.meta.Meta.read.Goals as goal

pub returns-in_err-first-clause-value : goal.returns-in_err-first-clause-value
unfolding meta_of
returns-in_err-first-clause-value c = search rules

pub returns-in_err-second-clause-value : goal.returns-in_err-second-clause-value
unfolding meta_of
returns-in_err-second-clause-value c = search rules

pub returns-then-is_empty-clause-value : goal.returns-then-is_empty-clause-value
unfolding meta_of
returns-then-is_empty-clause-value c = search rules

pub returns-else-is_empty-clause-value : goal.returns-else-is_empty-clause-value
unfolding meta_of
returns-else-is_empty-clause-value c = search rules
