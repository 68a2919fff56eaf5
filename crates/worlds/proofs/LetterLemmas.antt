-- The letters of flags are ASCII, and how many there are.
use Rattle.std.proofs.Common.{◌≡◌, ℕ, zero, suc, ◌+◌, ◌*◌, ◌/◌, ◌^◌, ◌<◌, Bool, true, false, cond, eqb, List, [], ◌∷◌, ◌++◌, length, nat_lt, encode_utf8, refl, ap, subst, sym, ◌∙◌, add-zero, div-one, arith, All}
use Rattle.std.specs.Prelude.{count_ones}
use Rattle.std.specs.Int.Count.{ones_step}
use Rattle.std.specs.Int.{bit_at}
use Rattle.std.proofs.lemmas.Nat.{ones_le_self, shr-shr, shr_high}
use Rattle.std.proofs.lemmas.Nat.Bits.{bit_at-lt}
use Rattle.std.proofs.lemmas.Bool.{ltb-true}
use Rattle.std.proofs.lemmas.List.Elements.{All-cons, All-head, All-tail, All-weaker}
use Rattle.std.proofs.lemmas.List.Sums.{AllPass-from_list_all}
use Rattle.std.proofs.lemmas.Str.{encode_ascii}
use Rattle.mailcore.specs.FlagSet.{has}
use Rattle.mailcore.specs.FlagNames.{LETTERS, letters_from, letters_of}

ascii_from : (from : ℕ) (letters : List ℕ) (flags : ℕ) → All (λ b. b < 128) letters → All (λ b. b < 128) (letters_from from letters flags)
ascii_from from [] flags h = h
ascii_from from (x ∷ letters) flags h =
    let later = ascii_from (suc from) letters flags (All-tail (λ b. b < 128) x letters h) in
    elim (has flags from) as (λ b. All (λ b. b < 128) (cond b (x ∷ letters_from (suc from) letters flags) (letters_from (suc from) letters flags)))
    [ true ↦ All-cons (λ b. b < 128) x (letters_from (suc from) letters flags) (All-head (λ b. b < 128) x letters h) later | false ↦ later ]

pub letters-ascii : (flags : ℕ) → All (λ b. b < 128) (letters_of flags)
unfolding letters_of
letters-ascii flags = ascii_from 0 LETTERS flags
    (All-weaker (λ b. nat_lt b 128 ≡ true) (λ b. b < 128) (λ b t. ltb-true b 128 t) LETTERS (AllPass-from_list_all (λ b. nat_lt b 128) LETTERS refl))

ascii_in : (before rest : List ℕ) (letter : ℕ) → All (λ b. b < 128) (before ++ letter ∷ rest) → letter < 128
ascii_in [] rest letter h = All-head (λ b. b < 128) letter rest h
ascii_in (x ∷ before) rest letter h = ascii_in before rest letter (All-tail (λ b. b < 128) x (before ++ letter ∷ rest) h)

-- each is written as one byte
pub letter-written : (flags : ℕ) (before rest : List ℕ) (letter : ℕ) → before ++ letter ∷ rest ≡ letters_of flags → encode_utf8 letter ≡ letter ∷ []
letter-written flags before rest letter e =
    encode_ascii letter (ascii_in before rest letter (subst (λ letters. All (λ b. b < 128) letters) (sym e) (letters-ascii flags)))

-- ---- how many

one_or_none : (b : Bool) (x : ℕ) (later : List ℕ) → length (cond b (x ∷ later) later) ≡ cond b 1 0 + length later
one_or_none true x later = omega arith
one_or_none false x later = omega arith

bit_as : (n : ℕ) → n < 2 → cond (eqb n 1) 1 0 ≡ n
bit_as zero h = refl
bit_as (suc zero) h = refl
bit_as (suc (suc n)) h = absurd (omega arith)

count_from : (from : ℕ) (letters : List ℕ) (flags : ℕ) → flags < 2 ^ (from + length letters) → length (letters_from from letters flags) ≡ count_ones (flags / 2 ^ from)
count_from from [] flags h =
    let whole : 0 * 2 ^ from + flags ≡ flags = omega arith in
    let none : flags / 2 ^ from ≡ 0 = ap (λ n. n / 2 ^ from) (sym whole) ∙ shr_high 0 from flags (subst (λ n. flags < 2 ^ n) (add-zero from) h) in
    let few = ones_le_self (flags / 2 ^ from) in
    omega (arith, few, none)
count_from from (x ∷ letters) flags h =
    let places : from + length (x ∷ letters) ≡ suc from + length letters = omega arith in
    let place : suc from ≡ from + 1 = omega arith in
    one_or_none (has flags from) x (letters_from (suc from) letters flags)
    ∙ ap (λ n. n + length (letters_from (suc from) letters flags)) (bit_as (bit_at flags from) (bit_at-lt flags from))
    ∙ ap (λ n. bit_at flags from + n) (count_from (suc from) letters flags (subst (λ n. flags < 2 ^ n) places h)
    ∙ ap count_ones (ap (λ n. flags / 2 ^ n) place ∙ sym (shr-shr flags from 1)))
    ∙ sym (ones_step (flags / 2 ^ from))

pub letters-count : (flags : ℕ) → flags < 2 ^ 32 → length (letters_of flags) ≡ count_ones flags
unfolding letters_of
letters-count flags h = count_from 0 LETTERS flags h ∙ ap count_ones (div-one flags)

pub none_left : (letters : List ℕ) → length letters ≡ 0 → letters ≡ []
none_left [] h = refl
none_left (x ∷ letters) h = absurd (omega arith)
