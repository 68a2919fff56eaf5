-- What is written for a number spells it.
use Rattle.std.proofs.Common.{◌≡◌, ℕ, ◌+◌, ◌*◌, ◌-◌, ◌/◌, ◌%◌, ◌^◌, ◌<◌, ◌≤◌, true, List, [], ◌∷◌, ◌++◌, refl, sym, ap, ◌∙◌, arith}
use Rattle.std.specs.List.{list_all}
use Rattle.std.specs.Fmt.{decimal}
use Rattle.std.proofs.lemmas.Bool.{le-leb, and_parts, and_from}
use Rattle.std.proofs.lemmas.Fmt.{decimal_by_steps}
use Rattle.wire_reader.specs.Spelling.{is_digit}
use Rattle.wire_reader.specs.Literal.{value, Plainly, Number}

digit_from : (d : ℕ) → d < 10 → is_digit (48 + d) ≡ true
digit_from d lt = and_from _ _ (le-leb 48 (48 + d) (omega arith)) (le-leb (48 + d) 57 (omega (arith, lt)))

value-append : (ds : List ℕ) (v d : ℕ) → value v (ds ++ d ∷ []) ≡ 10 * value v ds + (d - 48)
value-append [] v d = refl
value-append (c ∷ ds) v d = value-append ds (10 * v + (c - 48)) d

all-append : (ds : List ℕ) (d : ℕ) → list_all is_digit ds ≡ true → is_digit d ≡ true → list_all is_digit (ds ++ d ∷ []) ≡ true
all-append [] d h e = and_from _ _ e refl
all-append (c ∷ ds) d h e = let p = and_parts _ _ h in and_from _ _ p.0 (all-append ds d p.1 e)

one_digit : (n : ℕ) → n < 10 → Number n ((48 + n) ∷ [])
one_digit n lt = record { each = and_from _ _ (digit_from n lt) refl; plain = λ _. refl; is = omega arith }

-- a first digit 0 stands alone, and spells no number above 0
plain-append : (ds : List ℕ) (m d : ℕ) → 0 < m → Number m ds → Plainly (ds ++ d ∷ [])
plain-append [] m d pos h = absurd h.plain
plain-append (c ∷ ds) m d pos h = λ e. absurd (zero_only c ds m pos e (h.plain e) h.is)
  where
    zero_only : (c : ℕ) (ds : List ℕ) (m : ℕ) → 0 < m → c ≡ 48 → ds ≡ [] → value 0 (c ∷ ds) ≡ m → ⊥
    zero_only c ds m pos e none is = let v : 10 * 0 + (c - 48) ≡ m = sym (ap (value (10 * 0 + (c - 48))) none) ∙ is in omega (arith, v, e, pos)

more_digits : (n : ℕ) (ds : List ℕ) → 10 ≤ n → Number (n / 10) ds → Number n (ds ++ ((48 + n % 10) ∷ []))
more_digits n ds le h =
    let is : value 0 ds ≡ n / 10 = h.is in
    record {
      each = all-append ds (48 + n % 10) h.each (digit_from (n % 10) (omega arith));
      plain = plain-append ds (n / 10) (48 + n % 10) (omega (arith, le)) h;
      is = value-append ds 0 (48 + n % 10) ∙ omega (arith, is);
    }

pub number-decimal : (n : ℕ) → n < 2 ^ 64 → Number n (decimal n)
number-decimal n lt = decimal_by_steps Number one_digit more_digits n lt
