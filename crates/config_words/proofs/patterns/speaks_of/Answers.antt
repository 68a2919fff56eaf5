use Rattle.config_words.proofs.ChosenLemmas.{inbox_speaks}
use Rattle.config_words.proofs.patterns.speaks_of.Goals as goal

pub returns-then-eq : goal.returns-then-eq
returns-then-eq c = inbox_speaks c.args.name.now c.args.word.now c.pattern_of-pattern.result.now c.eq-then-eq.result c.if-eq.ensures c.eq-then-eq.ensures c.pattern_of-pattern.ensures.pattern
