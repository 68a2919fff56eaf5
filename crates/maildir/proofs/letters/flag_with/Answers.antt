use Rattle.std.proofs.Common.{◌≡◌, ◌^◌, ◌<◌, ℕ, Bool, true, false, [], ◌∷◌, refl, sym, ◌∙◌}
use Rattle.std.specs.Prelude.{◌≢◌}
use Rattle.mailcore.specs.FlagNames.{LETTERS, letters_of}
use Rattle.mailcore.specs.FlagSet.{FLAGS}
use Rattle.maildir.specs.Letters.{flag_with, has_letter}
use Rattle.maildir.proofs.LetterLemmas.{flag_with-letters, flag_with-lt, flag_with-none, flag_with-only}
use Rattle.maildir.proofs.letters.flag_with.Goals as goal

-- no set whose letters are this one: no flag has it
none_has : (b : ℕ) → ((f : ℕ) → f < 2 ^ FLAGS → letters_of f ≢ b ∷ []) → 0 ≡ flag_with b
none_has b none = by_test (has_letter LETTERS b) refl
  where
    by_test : (t : Bool) → has_letter LETTERS b ≡ t → 0 ≡ flag_with b
    by_test true e = absurd (none (flag_with b) (flag_with-lt b) (flag_with-letters b e))
    by_test false e = sym (flag_with-none b e)

pub returns-in-Some : goal.returns-in-Some
returns-in-Some c = flag_with-only c.args.letter c.in-Some.flag c.in-Some.ensures.set c.in-Some.ensures.some

pub returns-in-None : goal.returns-in-None
returns-in-None c = c.none.ensures ∙ none_has c.args.letter c.in-None.ensures.none
