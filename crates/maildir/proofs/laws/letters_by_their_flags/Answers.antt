use Rattle.maildir.proofs.LetterLemmas.{flags_in-with, letters_with-others, letters_with-rise}
use Rattle.maildir.proofs.laws.letters_by_their_flags.Goals as goal

pub returns-clause-flags : goal.returns-clause-flags
returns-clause-flags c = flags_in-with

pub returns-clause-others : goal.returns-clause-others
returns-clause-others c = letters_with-others

pub returns-clause-rise : goal.returns-clause-rise
returns-clause-rise c = letters_with-rise
