use Rattle.std.proofs.Common.{◌∙◌}
use Rattle.config_words.proofs.MeaningLemmas.{port_so}
use Rattle.config_words.proofs.setting.read_port.Goals as goal

pub returns-clause-means : goal.returns-clause-means
returns-clause-means c =
    port_so c.args.argument.now c.in-Some.port (c.in-Some.ensures.spelled.0 ∙ c.as_bytes.ensures.value) c.in-Some.ensures.spelled.1 c.if-port-eq0.false
