use Rattle.std.proofs.Common.{◌∙◌, sym}
use Rattle.std.proofs.lemmas.Option.{MatchOption-at_some, MatchOption-at_none}
use Rattle.book.proofs.ChangeLemmas.{none_gone, one_gone}
use Rattle.book.proofs.committed.is_gone.Goals as goal

pub returns-in-Some : goal.returns-in-Some
returns-in-Some c =
    let at = MatchOption-at_some _ _ c.in-Some.pair c.in-Some.is c.get.ensures.lookup.3 in
    c.is_pair.ensures ∙ sym (one_gone c.args.entry.now c.args.pairs.now c.args.at c.requires.in_order c.requires.reached c.in-Some.pair.now at.0 (at.1 c.in-Some.pair.now))

pub returns-in-None : goal.returns-in-None
returns-in-None c =
    let past = MatchOption-at_none _ _ c.in-None.is c.get.ensures.lookup.3 in
    sym (none_gone c.args.entry.now c.args.pairs.now c.args.at c.requires.in_order c.requires.reached past)
