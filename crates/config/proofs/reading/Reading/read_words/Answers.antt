use Rattle.std.proofs.Common.{◌∙◌, sym}
use Rattle.std.specs.Prelude.{Some}
use Rattle.config.specs.Configurations.{parted_words}
use Rattle.config.proofs.PartedLemmas.{words_known}
use Rattle.config.proofs.reading.Reading.read_words.Goals as goal

pub returns-clause-meant : goal.returns-clause-meant
returns-clause-meant c = λ p knows.
    words_known (parted_words (Some (c.args.keyword.now, c.args.arguments.now)) p) c.take_words.new.self c.begin.new.self
    (c.in_ok-take_words.ensures.meant p knows) c.begin.ensures.draft c.begin.ensures.first c.begin.ensures.begun

pub returns-clause-took : goal.returns-clause-took
returns-clause-took c = λ none. c.in_ok-take_words.ensures.took (sym c.begin.ensures.first ∙ none)
