use Rattle.std.proofs.Common.{sym, ◌∙◌}
use Rattle.std.proofs.lemmas.Bool.{false≢true}
use Rattle.config_words.proofs.ChosenLemmas.{after_speaking, after_silence, chosen_of_none}
use Rattle.config_words.proofs.patterns.matches.Goals as goal
use Rattle.config_words.proofs.patterns.matches.Goals.{then-speaks_of, else-speaks_of}

pub loop-word-init : goal.loop-word-init
loop-word-init c = (λ h. cc, λ is. absurd (chosen_of_none c.args.name.now is))

pub loop-word-preserved : goal.loop-word-preserved
loop-word-preserved c = elim c.if-speaks_of.branch [
  | then-speaks_of t ↦ after_speaking c.as_slice-word-items.result.now c.loop-word.word-index c.as_bytes-word.result.now c.word-item.result c.as_bytes.result.now c.args.name.now
      c.if-speaks_of.is_chosen t.is_negated-is_chosen.result c.loop-word-test.true c.word-item.is (cc) c.as_bytes.ensures.value (c.speaks_of.ensures.0 t.if-speaks_of.true) t.is_chosen-is t.is_negated-is_chosen.ensures
  | else-speaks_of t ↦ after_silence c.as_slice-word-items.result.now c.loop-word.word-index c.as_bytes-word.result.now c.word-item.result c.as_bytes.result.now c.args.name.now
      c.if-speaks_of.is_chosen c.loop-word.is_chosen c.loop-word-test.true c.word-item.is (cc) c.as_bytes.ensures.value (λ s. false≢true (sym t.if-speaks_of.false ∙ c.speaks_of.ensures.1 s)) t.is_chosen-is c.loop-word.invariant
]
