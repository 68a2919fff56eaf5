-- Which words are flags, and that a word is that of one set.
use Rattle.std.proofs.Common.{◌≡◌, ◌≢◌, ℕ, suc, ◌<◌, ◌^◌, Bool, true, false, cond, eqb, eq-eqb, List, [], ◌∷◌, length, get_or, Option, None, Some, refl, sym, ap, ◌∙◌, arith}
use Rattle.std.proofs.Math.Dec.{eqb-suc-zero}
use Rattle.std.proofs.lemmas.Bool.{false≢true, eqb-true}
use Rattle.std.specs.Prelude.{IfNone, IfSome, codes, ◌==◌, ◌||◌}
use Rattle.std.specs.List.{list_any}
use Rattle.mailcore.specs.FlagNames.{LETTERS, letters_from, letters_of}
use Rattle.mailcore.specs.FlagSet.{FLAGS, has}
use Rattle.mailcore.specs.Words.{flags_word}
use Rattle.mailcore.proofs.FlagLetters.{set_from_letters}

neither : (b : Bool) (flags : ℕ) (word : List ℕ) → word ≢ codes "-" → letters_of flags ≢ word → cond b (codes "-") (letters_of flags) ≢ word
neither true flags word dash letters e = dash (sym e)
neither false flags word dash letters e = letters e

-- a word that is no letters and no `-` is no flags
pub no_flags : (r : Option ℕ) (word : List ℕ) → word ≢ codes "-" → IfNone r ((flags : ℕ) → flags < 2 ^ FLAGS → letters_of flags ≢ word)
    → IfNone r ((flags : ℕ) → flags < 2 ^ FLAGS → flags_word flags ≢ word)
no_flags None word dash letters = λ flags small. neither (flags == 0) flags word dash (letters flags small)
no_flags (Some x) word dash letters = tt

-- no flag has no letter, and that alone
pub no_letters : letters_of 0 ≡ []
unfolding letters_of
no_letters = refl

pub letters_none : (flags : ℕ) → flags < 2 ^ FLAGS → letters_of flags ≡ [] → flags ≡ 0
letters_none flags fits none = set_from_letters flags 0 fits (omega arith) (none ∙ sym no_letters)

no_text : (text : List ℕ) → true ≡ eqb (length text) 0 → text ≡ []
no_text [] h = refl
no_text (x ∷ text) h = cc (eqb-suc-zero (length text))

some_text : (text : List ℕ) → false ≡ eqb (length text) 0 → text ≢ []
some_text [] h e = false≢true h
some_text (x ∷ text) h e = cc

-- a word is not empty
some_word : (flags : ℕ) → flags < 2 ^ FLAGS → flags_word flags ≢ []
some_word flags fits e = by_test (flags == 0) refl e
  where
    by_test : (b : Bool) → (flags == 0) ≡ b → cond b (codes "-") (letters_of flags) ≢ []
    by_test true is none = cc
    by_test false is none = false≢true (sym is ∙ ap (λ n. n == 0) (letters_none flags fits none))

pub no_word : (text : List ℕ) → true ≡ eqb (length text) 0 → (flags : ℕ) → flags < 2 ^ FLAGS → flags_word flags ≢ text
no_word text none flags fits is = some_word flags fits (is ∙ no_text text none)

-- letters of flags that are there
letters_word : (text : List ℕ) → text ≢ [] → (flags : ℕ) → text ≡ letters_of flags → flags_word flags ≡ text
letters_word text some flags is = by_test (flags == 0) refl
  where
    by_test : (b : Bool) → (flags == 0) ≡ b → cond b (codes "-") (letters_of flags) ≡ text
    by_test true zero = absurd (some (is ∙ ap letters_of (eqb-true flags 0 zero) ∙ no_letters))
    by_test false zero = sym is

pub letters_words : (text : List ℕ) → false ≡ eqb (length text) 0 → (r : Option ℕ) → IfSome r (λ flags. text ≡ letters_of flags) → IfSome r (λ flags. flags_word flags ≡ text)
letters_words text some None h = tt
letters_words text some (Some flags) h = letters_word text (some_text text some) flags h

-- no set has `-` as its letters
no_dash : (from : ℕ) (letters : List ℕ) (flags : ℕ) → list_any (λ x. x == 45) letters ≡ false → letters_from from letters flags ≢ codes "-"
no_dash from [] flags none e = let never : [] ≡ codes "-" = e in cc
no_dash from (x ∷ xs) flags none e =
    let parts = neither (x == 45) (list_any (λ y. y == 45) xs) none in
    by_test (has flags from) parts.0 (no_dash (suc from) xs flags parts.1) e
  where
    neither : (a b : Bool) → (a || b) ≡ false → (a ≡ false) × (b ≡ false)
    neither true b h = absurd (false≢true (sym h))
    neither false b h = (refl, h)

    by_test : (b : Bool) → (x == 45) ≡ false → letters_from (suc from) xs flags ≢ codes "-"
        → cond b (x ∷ letters_from (suc from) xs flags) (letters_from (suc from) xs flags) ≢ codes "-"
    by_test true other following is = false≢true (sym other ∙ eq-eqb x 45 (ap (λ (l : List ℕ). get_or l 0 0) is))
    by_test false other following is = following is

letters-no_dash : (flags : ℕ) → letters_of flags ≢ codes "-"
unfolding letters_of
letters-no_dash flags = no_dash 0 LETTERS flags refl

-- a word is that of one set
pub flags_word-injective : (a b : ℕ) → a < 2 ^ FLAGS → b < 2 ^ FLAGS → flags_word a ≡ flags_word b → a ≡ b
flags_word-injective a b fits fits' same = by_tests (a == 0) (b == 0) refl refl same
  where
    by_tests : (x y : Bool) → (a == 0) ≡ x → (b == 0) ≡ y → cond x (codes "-") (letters_of a) ≡ cond y (codes "-") (letters_of b) → a ≡ b
    by_tests true true p q e = eqb-true a 0 p ∙ sym (eqb-true b 0 q)
    by_tests true false p q e = absurd (letters-no_dash b (sym e))
    by_tests false true p q e = absurd (letters-no_dash a e)
    by_tests false false p q e = set_from_letters a b fits fits' e
