use Rattle.std.proofs.Common.{◌≡◌, ◌∙◌, ◌<◌, List, ℕ, Global, arith, length, subst}
use Rattle.std.specs.Prelude.{String, string_bytes}
use Rattle.config_words.proofs.MeaningLemmas.{no_patterns}
use Rattle.config_words.proofs.setting.read_patterns.Goals as goal

pub returns-in_default-clause-means : goal.returns-in_default-clause-means
returns-in_default-clause-means c =
    let long : 1024 < length (string_bytes c.word-item.result) =
    subst (λ (text : List ℕ). 1024 < length text) c.in_ok-clone.ensures.cases c.in_default.ensures in
    no_patterns c.args.words.now c.loop-word.word-index c.word-item.result (omega arith)
    (subst (λ (word : String Global). 1024 < length (string_bytes word)) c.word-item.is long)
