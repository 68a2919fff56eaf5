use Rattle.law_outcome.proofs.unlike_worlds_are_refused.Goals as goal

pub returns-clause-files : goal.returns-clause-files
returns-clause-files c = λ opening outcome found alike. alike.waiting

pub returns-clause-validities : goal.returns-clause-validities
returns-clause-validities c = λ opening outcome found alike side. alike.validity side

pub returns-clause-recorded : goal.returns-clause-recorded
returns-clause-recorded c = λ opening outcome found alike. (alike.far_validity, alike.near_validity)

pub returns-clause-next : goal.returns-clause-next
returns-clause-next c = λ opening outcome found alike side. alike.next side
