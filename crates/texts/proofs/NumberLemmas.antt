-- A number has one decimal text, which is the text that is read as it unless a plus or a zero stands in front.
use Rattle.std.proofs.Common.{◌≡◌, ◌≢◌, ℕ, zero, suc, ◌<◌, ◌≤◌, ◌^◌, true, false, ◌&&◌, ◌||◌, eqb, ltb, leb, List, length, get_or, Result, Ok, Err, refl, sym, ap, ◌∙◌, subst, arith}
use Rattle.std.specs.Fmt.{decimal}
use Rattle.std.specs.Str.Parse.{AllDigits, digits_value, ParsesUnsigned}
use Rattle.std.proofs.lemmas.Fmt.{first_decimal, decimal_digit, decimal-digits_value}
use Rattle.std.proofs.lemmas.Str.Parse.{IsNumeralModel, numerals_by_value, tells_digits, parse_plain}
use Rattle.std.proofs.lemmas.Grind.{common_steps}
use Rattle.std.specs.Prelude.{Option, Some, None, Bool, cond, nat_eq}
use Rattle.std.specs.Cmp.Lexicographic.{pointwise, bytes_decides}
use Rattle.std.proofs.lemmas.Bool.{and_parts, le-leb}
use Rattle.std.proofs.lemmas.Fmt.{decimal_is_IsNumeral}
use Rattle.std.specs.Result.{OkIff, result_ok}
use borrow.Author.Tests.{leb-true}
use Rattle.texts.specs.Number.{has_sign_or_leading_zero, number_of}

numerals : IsNumeralModel (AllDigits 10) (digits_value 10)
numerals = numerals_by_value _ tells_digits

first_is_digit : (n : ℕ) → n < 2 ^ 64 → 48 ≤ get_or (decimal n) 0 0
first_is_digit zero small = rw (decimal_digit 0 (omega arith)) (omega arith)
first_is_digit (suc n) small = let h = first_decimal (suc n) (omega arith) small in omega arith

zero_alone : (n : ℕ) → n < 2 ^ 64 → get_or (decimal n) 0 0 ≡ 48 → length (decimal n) ≡ 1
zero_alone zero small e = rw (decimal_digit 0 (omega arith)) refl
zero_alone (suc n) small e = let h = first_decimal (suc n) (omega arith) small in absurd (omega arith)

no_sign_or_zero : (bytes : List ℕ) → has_sign_or_leading_zero bytes ≡ false → (get_or bytes 0 0 ≢ 43) × (get_or bytes 0 0 ≡ 48 → length bytes ≤ 1)
no_sign_or_zero bytes plain = (grind (arith, common_steps), grind (arith, common_steps))

sign_or_zero : (first size : ℕ) → (eqb first 43 || eqb first 48 && ltb 1 size) ≡ true → 48 ≤ first → (first ≡ 48 → size ≡ 1) → ⊥
sign_or_zero first size either digit alone = grind (arith, common_steps)

-- no number is spelled with a plus or a leading zero
pub not_decimal : (n : ℕ) (bytes : List ℕ) → n < 2 ^ 64 → has_sign_or_leading_zero bytes ≡ true → decimal n ≢ bytes
not_decimal n bytes small either e =
    let P : List ℕ → Type 0 = λ t. has_sign_or_leading_zero t ≡ true in
    let is : has_sign_or_leading_zero (decimal n) ≡ true = subst P (sym e) either in
    sign_or_zero (get_or (decimal n) 0 0) (length (decimal n)) is (first_is_digit n small) (zero_alone n small)

-- what is read otherwise is spelled so
pub parsed_is_decimal : {E : Type 0} (bytes : List ℕ) (r : Result ℕ E) (number : ℕ)
    → has_sign_or_leading_zero bytes ≡ false → r ≡ Ok number → ParsesUnsigned 64 10 bytes r → decimal number ≡ bytes
parsed_is_decimal {E} bytes r number neither ok parses =
    let facts = no_sign_or_zero bytes neither in
    let Q : Result ℕ E → Type 0 = λ s. ParsesUnsigned 64 10 bytes s in
    let plain = parse_plain numerals {E = E} 64 bytes (Ok number) (subst Q ok parses) facts.0 in
    ap (λ (n : ℕ). decimal n) plain.1
    ∙ decimal-digits_value numerals bytes plain.0.0 plain.0.1 (λ z. let one = facts.1 z in omega (arith, plain.0.1)) plain.0.2

-- ---- a number up to a limit by its text

pub number_of-decimal : (limit n : ℕ) (digits : List ℕ) → limit < 2 ^ 64 → n ≤ limit → decimal n ≡ digits → number_of limit digits ≡ Some n
number_of-decimal limit n digits small within same =
    let value : digits_value 10 digits ≡ n = ap (λ t. digits_value 10 t) (sym same) ∙ (decimal_is_IsNumeral n (omega arith)).1 in
    rw (value, (bytes_decides (decimal n) digits).1 same, le-leb n limit within) refl

pub record IsNumberText (limit n : ℕ) (digits : List ℕ) : Type 0 where
  pub within : n ≤ limit
  pub text : decimal n ≡ digits

pub number_of-Some : (limit : ℕ) (digits : List ℕ) (n : ℕ) → number_of limit digits ≡ Some n → IsNumberText limit n digits
number_of-Some limit digits n read = by_test (leb (digits_value 10 digits) limit && pointwise nat_eq (decimal (digits_value 10 digits)) digits) refl read
  where
    by_test : (b : Bool) → (leb (digits_value 10 digits) limit && pointwise nat_eq (decimal (digits_value 10 digits)) digits) ≡ b → cond b (Some (digits_value 10 digits)) None ≡ Some n → IsNumberText limit n digits
    by_test true e same =
        let parts = and_parts (leb (digits_value 10 digits) limit) (pointwise nat_eq (decimal (digits_value 10 digits)) digits) e in
        let is : digits_value 10 digits ≡ n = cc in
        record {
          within = subst (λ (k : ℕ). k ≤ limit) is (leb-true _ _ parts.0);
          text = subst (λ (k : ℕ). decimal k ≡ digits) is ((bytes_decides _ _).0 parts.1);
        }
    by_test false e same = cc

pub number_of-None : (limit : ℕ) (digits : List ℕ) → ((n : ℕ) → n ≤ limit → decimal n ≢ digits) → number_of limit digits ≡ None
number_of-None limit digits none = by_case (number_of limit digits) refl
  where
    by_case : (o : Option ℕ) → number_of limit digits ≡ o → o ≡ None
    by_case None e = refl
    by_case (Some n) e = let is = number_of-Some limit digits n e in absurd (none n is.within is.text)

pub ok_number : {E : Type 0} (r : Result ℕ E) (n : ℕ) → OkIff r (n < 2 ^ 32) n → n < 2 ^ 32 → result_ok r ≡ Some n
ok_number (Ok x) n ok small = ap Some ok.1
ok_number (Err e) n ok small = absurd (ok small)
