use Rattle.std.proofs.Common.{rules}
use Rattle.worlds.proofs.WordLemmas.{kept_within, none_named}
use Rattle.worlds.proofs.words.read_named.Goals as goal

pub returns-then-eq-clause-within : goal.returns-then-eq-clause-within
returns-then-eq-clause-within c = kept_within c.args.keywords.now c.in_ok-flags.flags (search rules)

pub returns-else-eq-clause-none : goal.returns-else-eq-clause-none
returns-else-eq-clause-none c =
    none_named c.args.keywords.now c.in_ok-flags.flags c.args.word.now c.in_ok-flags.ensures.set c.in_ok-flags.ensures.spelled (search rules)
