use Rattle.std.proofs.Common.{refl, subst, sym}
use Rattle.std.specs.Prelude.{Some}
use Rattle.config_words.specs.declared.fault.ConfigFault.{ConfigFault}
use Rattle.config_words.specs.declared.fault.FaultKind.TheVariants.{UnknownName}
use Rattle.config.specs.Outlines.{Reports}
use Rattle.config.proofs.OutlineLemmas.{reports_other}
use Rattle.config.proofs.first.unknown_first.Goals as goal

pub returns-clause-again : goal.returns-clause-again
returns-clause-again c = λ again reported.
    subst (λ (fault : ConfigFault). Reports again (Some fault)) (sym c.first_of.ensures.earlier)
    (reports_other again c.args.first (record { line = c.args.line; kind = UnknownName }) reported refl (λ is. cc))
