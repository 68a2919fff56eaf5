use Rattle.std.proofs.Common.{rules}
use Rattle.mailcore.proofs.FlagWords.{letters_words, no_flags, no_word}
use Rattle.mailcore.proofs.words.read_flags.Goals as goal

pub returns-then-is_empty-clause-none : goal.returns-then-is_empty-clause-none
returns-then-is_empty-clause-none c = no_word c.args.word.now c.if-is_empty.ensures

pub returns-clause-spelled : goal.returns-clause-spelled
returns-clause-spelled c = letters_words c.args.word.now c.if-is_empty.ensures _ c.from_letters.ensures.some

pub returns-clause-none : goal.returns-clause-none
returns-clause-none c = no_flags _ c.args.word.now (search rules) c.from_letters.ensures.none
