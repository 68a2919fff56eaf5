-- What stands before the letters of a name is a base exactly if it is one without its UID.
use Rattle.std.proofs.Common.{◌≡◌, ℕ, suc, ◌<◌, Bool, true, false, not, cond, ◌&&◌, List, [], ◌∷◌, ◌++◌, length, Option, None, Some, refl, sym, ap, ◌∙◌, arith}
use Rattle.std.specs.Prelude.{◌==◌, decimal, unwrap_or, if◌then◌else◌}
use Rattle.std.specs.List.{list_all}
use Rattle.std.specs.Option.{option_map}
use Rattle.std.specs.Char.{digit_value}
use Rattle.std.specs.Str.Parse.{AllDigits}
use Rattle.std.proofs.lemmas.Bool.Decides.{nat_tests}
use Rattle.std.proofs.lemmas.Fmt.{decimal_is_IsNumeral}
use Rattle.std.proofs.lemmas.List.Folds.{list_all-append}
use Rattle.maildir.specs.Names.{uid_text, is_uid, is_base, is_base_byte, uid_at_end, with_letters, if_base, name_before, letters_at_end, name_of_parts, name_of}
use Rattle.maildir.specs.FlaggedNames.{letters_in, letters_by_name}
use Rattle.maildir.proofs.NameLemmas.{uid_at_end-Some, uid_is_small}

-- the byte after `/`, NUL and `:` is none of them
digit_is_base : (d : ℕ) → digit_value d < 10 → is_base_byte d ≡ true
digit_is_base d digit = grind (arith, nat_tests)

digits_are_base : (ds : List ℕ) → AllDigits 10 ds → list_all is_base_byte ds ≡ true
digits_are_base [] all = refl
digits_are_base (d ∷ ds) all = rw (digit_is_base d all.0) (digits_are_base ds all.1)

uid_is_base : (n : ℕ) → is_uid n ≡ true → list_all is_base_byte (uid_text (Some n)) ≡ true
uid_is_base n is = digits_are_base (decimal n) (decimal_is_IsNumeral n (uid_is_small n is)).0.1

some_left : (n : ℕ) → not (suc n == 0) ≡ true
some_left n = grind (arith, nat_tests)

and_all : (b : Bool) → (b && true) ≡ b
and_all true = refl
and_all false = refl

more_is_base : (front more : List ℕ) → 0 < length front → list_all is_base_byte more ≡ true → is_base (front ++ more) ≡ is_base front
more_is_base [] more some all = absurd (omega arith)
more_is_base (b ∷ bs) more some all =
    rw (some_left (length (bs ++ more)), some_left (length bs), list_all-append is_base_byte bs more, all, and_all (list_all is_base_byte bs)) refl

front_of : (text : List ℕ) (letters : Option (List ℕ)) (u : Option (List ℕ × ℕ)) → uid_at_end text ≡ u
    → unwrap_or (option_map letters_in (if_base (with_letters text letters u))) [] ≡ (if is_base text then unwrap_or letters [] else [])
front_of text letters None cut = by_test (is_base text)
  where
    by_test : (b : Bool) → unwrap_or (option_map letters_in (cond b (Some (record { base = text; uid = None; letters = letters })) None)) [] ≡ cond b (unwrap_or letters []) []
    by_test true = refl
    by_test false = refl
front_of text letters (Some (base, n)) cut =
    let parts = uid_at_end-Some text base n cut in
    let same : is_base text ≡ is_base base = ap is_base parts.parts ∙ more_is_base base (uid_text (Some n)) parts.some (uid_is_base n parts.is) in
    rw same (by_test (is_base base))
  where
    by_test : (b : Bool) → unwrap_or (option_map letters_in (cond b (Some (record { base = base; uid = Some n; letters = letters })) None)) [] ≡ cond b (unwrap_or letters []) []
    by_test true = refl
    by_test false = refl

letters_before : (front : List ℕ) (letters : Option (List ℕ))
    → unwrap_or (option_map letters_in (name_before front letters)) [] ≡ (if is_base front then unwrap_or letters [] else [])
letters_before front letters = front_of front letters (uid_at_end front) refl

read_after : (text front : List ℕ) (letters : Option (List ℕ)) → letters_at_end text ≡ Some (front, letters)
    → letters_by_name text ≡ (if is_base front then unwrap_or letters [] else [])
unfolding name_of
read_after text front letters cut =
    ap (λ (p : Option (List ℕ × Option (List ℕ))). unwrap_or (option_map letters_in (name_of_parts p)) []) cut ∙ letters_before front letters

-- ---- the letters of a text, by what was cut from it

pub cut_letters : (text front found : List ℕ) (letters : Option (List ℕ)) → letters_at_end text ≡ Some (front, letters)
    → found ≡ (if is_base front then unwrap_or letters [] else []) → found ≡ letters_by_name text
cut_letters text front found letters cut is = is ∙ sym (read_after text front letters cut)

pub no_name : (text : List ℕ) → letters_at_end text ≡ None → [] ≡ letters_by_name text
unfolding name_of
no_name text cut = sym (ap (λ (p : Option (List ℕ × Option (List ℕ))). unwrap_or (option_map letters_in (name_of_parts p)) []) cut)
