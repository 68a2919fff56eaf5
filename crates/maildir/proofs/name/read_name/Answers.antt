use Rattle.std.proofs.Common.{rules}
use Rattle.maildir.specs.Names.{name_of}
use Rattle.maildir.proofs.name.read_name.Goals as goal

pub returns-in_err-front : goal.returns-in_err-front
unfolding name_of
returns-in_err-front c = search rules

pub returns : goal.returns
unfolding name_of
returns c = search rules
