use Rattle.std.proofs.Common.{arith}
use Rattle.std.specs.Prelude.{None}
use Rattle.std.proofs.lemmas.Str.Pattern.{strip_prefix_char}
use Rattle.config_words.proofs.MeaningLemmas.{no_colon}
use Rattle.config_words.proofs.setting.split_place.Goals as goal

pub returns-in-None : goal.returns-in-None
returns-in-None c = no_colon c.args.argument.now (strip_prefix_char 58 c.args.argument.now None c.in-None.ensures.cases (omega arith))
