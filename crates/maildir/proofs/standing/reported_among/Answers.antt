use Rattle.std.proofs.Common.{rules, sym, tests}
use Rattle.maildir.proofs.StandingLemmas.{none_among}
use Rattle.maildir.proofs.standing.reported_among.Goals as goal

pub returns-then-is_empty : goal.returns-then-is_empty
returns-then-is_empty c = sym (none_among c.args.uids.now c.args.name.now (search (rules, tests)))
