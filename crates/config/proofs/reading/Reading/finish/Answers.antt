use Rattle.std.proofs.Common.{subst}
use Rattle.std.specs.Prelude.{Option}
use Rattle.config_words.specs.declared.fault.ConfigFault.{ConfigFault}
use Rattle.config.specs.Configurations.{ended}
use Rattle.config.specs.Outlines.{Reports}
use Rattle.config.proofs.PartedLemmas.{means_so, not_open}
use Rattle.config.proofs.reading.Reading.finish.Goals as goal

pub returns-in-Some-clause-again : goal.returns-in-Some-clause-again
returns-in-Some-clause-again c = λ again reported.
    (subst (λ (first : Option ConfigFault). Reports again first) c.in-Some.is (c.in_ok-config.ensures.again again (c.end_section.ensures.reported again reported))).0

pub returns-in-None-clause-again : goal.returns-in-None-clause-again
returns-in-None-clause-again c = λ again reported.
    subst (λ (first : Option ConfigFault). Reports again first) c.in-None.is (c.in_ok-config.ensures.again again (c.end_section.ensures.reported again reported))

pub returns-in-None-clause-means : goal.returns-in-None-clause-means
returns-in-None-clause-means c = λ p knows.
    let meant = c.in_ok-end_section.ensures.meant p knows (c.in_ok-config.ensures.none c.in-None.is) in
    means_so (ended p) c.end_section.new.self.draft c.in_ok-config.config meant.draft (not_open p) (c.in_ok-config.ensures.shows c.in-None.is)

pub returns-in-None-clause-unmixed : goal.returns-in-None-clause-unmixed
returns-in-None-clause-unmixed c = λ p knows.
    (c.in_ok-end_section.ensures.meant p knows (c.in_ok-config.ensures.none c.in-None.is)).draft.unmixed.0

pub returns-in-None-clause-none : goal.returns-in-None-clause-none
returns-in-None-clause-none c = c.end_section.ensures.none (c.in_ok-config.ensures.none c.in-None.is)
