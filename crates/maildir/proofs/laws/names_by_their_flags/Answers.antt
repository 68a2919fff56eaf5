use Rattle.std.proofs.Common.{◌∙◌, refl}
use Rattle.maildir.proofs.LetterLemmas.{name_of-flagged, uid_in-flagged, flags-flagged}
use Rattle.maildir.proofs.laws.names_by_their_flags.Goals as goal

pub returns-clause-flags : goal.returns-clause-flags
returns-clause-flags c = flags-flagged

pub returns-clause-parts : goal.returns-clause-parts
returns-clause-parts c = name_of-flagged

pub returns-clause-uid : goal.returns-clause-uid
returns-clause-uid c keywords text name flags read = uid_in-flagged keywords text name flags read ∙ (rw read refl)
