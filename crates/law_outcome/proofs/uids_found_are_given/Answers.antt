use Rattle.law_outcome.proofs.Admission.{admitted_in_turn, admitted_sound, opening_names}
use Rattle.law_outcome.proofs.Named.{names_below}
use Rattle.law_outcome.proofs.uids_found_are_given.Goals as goal

pub returns-clause-in_turn : goal.returns-clause-in_turn
returns-clause-in_turn c = admitted_in_turn

pub returns-clause-admitted : goal.returns-clause-admitted
returns-clause-admitted c = admitted_sound

pub returns-clause-opening : goal.returns-clause-opening
returns-clause-opening c = opening_names

pub returns-clause-found : goal.returns-clause-found
returns-clause-found c = names_below
