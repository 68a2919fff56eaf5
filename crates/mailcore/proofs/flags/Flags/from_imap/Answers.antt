use Rattle.std.proofs.Common.{◌≡◌, ◌∙◌, sym, ap, ℕ, List, Option, None}
use Rattle.mailcore.specs.declared.flags.Flag.{Flag}
use Rattle.mailcore.specs.declared.keywords.Keyword.{Keyword}
use Rattle.mailcore.specs.FlagNames.{flag_named}
use Rattle.mailcore.specs.KeywordNames.{flags_named, letter_of, named_by, set_of}
use Rattle.mailcore.proofs.flags.Flags.from_imap.Goals as goal

-- a set by the flag that the name has
by_flag : (keywords : List Keyword) (name : List ℕ) (found : Option Flag) → found ≡ flag_named name → named_by keywords found name ≡ flags_named keywords name
unfolding flags_named
by_flag keywords name found is = ap (λ (o : Option Flag). named_by keywords o name) is

-- and by the letter of the keyword, where it has none of the six
by_letter : (keywords : List Keyword) (name : List ℕ) (found : Option ℕ) → None ≡ flag_named name → found ≡ letter_of keywords name → set_of found ≡ flags_named keywords name
by_letter keywords name found none is = ap set_of is ∙ by_flag keywords name None none

pub returns-in-Some : goal.returns-in-Some
returns-in-Some c = c.only.ensures ∙ by_flag c.args.keywords.now c.args.name.now _ (sym c.in-Some.is ∙ c.named.ensures)

pub returns-in-Some-letter_of : goal.returns-in-Some-letter_of
returns-in-Some-letter_of c =
    c.of_keyword.ensures
    ∙ by_letter c.args.keywords.now c.args.name.now _ (sym c.in_default.is ∙ c.named.ensures) (sym c.in-Some-letter_of.is ∙ c.letter_of.ensures.letter)

pub returns-in-None : goal.returns-in-None
returns-in-None c =
    c.none.ensures
    ∙ by_letter c.args.keywords.now c.args.name.now _ (sym c.in_default.is ∙ c.named.ensures) (sym c.in-None.is ∙ c.letter_of.ensures.letter)
