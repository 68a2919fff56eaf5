use Rattle.maildir.proofs.GainLemmas.{adds_more, adds_none, apart_gained, gains_more, gains_none}
use Rattle.maildir.proofs.laws.others_add_in_turn.Goals as goal

pub returns-clause-nothing : goal.returns-clause-nothing
returns-clause-nothing c = gains_none

pub returns-clause-more : goal.returns-clause-more
returns-clause-more c = gains_more

pub returns-clause-apart : goal.returns-clause-apart
returns-clause-apart c = apart_gained

pub returns-clause-nothing_after : goal.returns-clause-nothing_after
returns-clause-nothing_after c = adds_none

pub returns-clause-more_after : goal.returns-clause-more_after
returns-clause-more_after c = adds_more
