-- How many bytes of a text stand outside literals, at most.
use Rattle.std.proofs.Common.{◌≡◌, ℕ, zero, suc, ◌+◌, ◌-◌, ◌*◌, ◌<◌, ◌≤◌, Bool, true, false, List, [], ◌∷◌, ◌++◌, length, ap, ◌∙◌, inl, inr, arith}
use Rattle.std.proofs.lemmas.Bool.{cases_Bool, cases_lt, and_parts}
use Rattle.std.specs.List.{sum_by}
use Rattle.std.proofs.lemmas.List.{length-append}
use Rattle.std.proofs.lemmas.List.Sums.{sum_by-cons}
use Rattle.wire_reader.specs.declared.side.Speaker.{Speaker}
use Rattle.wire_reader.specs.declared.lexical.Phase.{Phase}
use Rattle.wire_reader.specs.declared.lexical.Phase.TheVariants.{Plain, Brace, Close, Return, In}
use Rattle.wire_reader.specs.Spelling.{◌⨾◌, Is, ItemsText}
use Rattle.wire_reader.specs.Lexical.{next, phase, is_in, outside, outside_from}
use Rattle.wire_reader.specs.Literal.{value, Number, close_text, LengthText, Literal}
use Rattle.wire_reader.proofs.LengthSteps.{digit_is}
use Rattle.wire_reader.proofs.Limits.{one_is}
use Rattle.wire_reader.proofs.LexedSeq.{two-phases}
use Rattle.wire_reader.proofs.LiteralPhases.{feeds, in-step, length_leads}
use Rattle.wire_reader.proofs.Positions.{outside-append}

-- a text of at most so many bytes outside literals, which leads back to where no literal is under way
pub record Fits (most : ℕ) (text : List ℕ) : Type 0 where
  pub plain : phase Plain text ≡ Plain
  pub few : outside text ≤ most

pub outside-le : (p : Phase) (xs : List ℕ) → outside_from p xs ≤ length xs
outside-le p [] = omega arith
outside-le p (b ∷ bs) =
    let r = outside-le (next p b) bs in
    elim (cases_Bool (is_in p)) [ inl e ↦ omega (arith, r, one_is p true e) | inr e ↦ omega (arith, r, one_is p false e) ]

-- ---- parts

pub then_few : {P Q : List ℕ → Type 0} (a b : ℕ) → ((t : List ℕ) → P t → Fits a t) → ((t : List ℕ) → Q t → outside t ≤ b) → (t : List ℕ) → (P ⨾ Q) t → outside t ≤ a + b
then_few a b p q t h =
    let f = p h.front h.first in
    let few = f.few in
    let rest = q h.back h.second in
    let same : outside_from (phase Plain h.front) h.back ≡ outside h.back = ap (λ (x : Phase). outside_from x h.back) f.plain in
    omega (arith, ap outside h.parts, outside-append Plain h.front h.back, same, few, rest)

-- by lengths alone
pub then_long : {P Q : List ℕ → Type 0} (a b : ℕ) → ((t : List ℕ) → P t → length t ≤ a) → ((t : List ℕ) → Q t → length t ≤ b) → (t : List ℕ) → (P ⨾ Q) t → length t ≤ a + b
then_long a b p q t h = omega (arith, ap length h.parts, length-append h.front h.back, p h.front h.first, q h.back h.second)

pub is_long : (w : List ℕ) (t : List ℕ) → Is w t → length t ≤ length w
is_long w t e = omega (arith, ap length e)

pub is_few : (w : List ℕ) (t : List ℕ) → Is w t → outside t ≤ length w
is_few w t e = omega (arith, ap length e, outside-le Plain t)

pub is_fits : (w : List ℕ) → phase Plain w ≡ Plain → (t : List ℕ) → Is w t → Fits (length w) t
is_fits w h t e = record { plain = ap (phase Plain) e ∙ h; few = is_few w t e }

-- ---- numbers

abbrev tens : ℕ → ℕ
tens zero = 1
tens (suc k) = 10 * tens k

tens-mono : (a b : ℕ) → a ≤ b → tens a ≤ tens b
tens-mono zero zero le = omega arith
tens-mono zero (suc b) le = let r = tens-mono zero b (omega arith) in omega (arith, r)
tens-mono (suc a) zero le = absurd (omega (arith, le))
tens-mono (suc a) (suc b) le = let r = tens-mono a b (omega (arith, le)) in omega (arith, r)

value-ge : (ds : List ℕ) (v : ℕ) → v * tens (length ds) ≤ value v ds
value-ge [] v = omega arith
value-ge (d ∷ ds) v = let r = value-ge ds (10 * v + (d - 48)) in omega (arith, r)

times-ge : (x t : ℕ) → 0 < x → t ≤ x * t
times-ge zero t pos = absurd (omega (arith, pos))
times-ge (suc y) t pos = omega arith

-- a number below 10 to the k has at most k digits
digits_few : (k n : ℕ) (text : List ℕ) → Number n text → n < tens k → 0 < k → length text ≤ k
digits_few k n [] m lt pos = absurd m.plain
digits_few k n (d ∷ ds) m lt pos =
    let q = digit_is d (and_parts _ _ m.each).0 in
    elim (cases_lt 48 d) [
      | inl above ↦
          let v = value-ge ds (10 * 0 + (d - 48)) in
          let t = times-ge (10 * 0 + (d - 48)) (tens (length ds)) (omega (arith, above)) in
          let is : value (10 * 0 + (d - 48)) ds ≡ n = m.is in
          elim (cases_lt (length ds) k) [
            | inl less ↦ omega (arith, less)
            | inr more ↦ absurd (let o = tens-mono k (length ds) more in omega (arith, o, t, v, is, lt))
          ]
      | inr le ↦
          let none : ds ≡ [] = m.plain (omega (arith, le, q.0)) in
          omega (arith, ap length none, pos)
    ]

pub number_few : (n : ℕ) (text : List ℕ) → Number n text → n ≤ 4294967295 → length text ≤ 10
number_few n text m le = digits_few 10 n text m (omega (arith, le)) (omega arith)

-- ---- literals

in-none : (n : ℕ) (xs : List ℕ) → length xs ≤ suc n → outside_from (In (suc n)) xs ≡ 0
in-none n [] le = omega arith
in-none zero (b ∷ []) le = omega arith
in-none zero (b ∷ c ∷ bs) le = absurd (omega (arith, le))
in-none (suc n) (b ∷ bs) le =
    let r = in-none n bs (omega (arith, le)) in
    omega (arith, r, ap (λ (p : Phase). outside_from p bs) (in-step n b))

octets_none : (n : ℕ) (plus : Bool) (t : List ℕ) → length t ≡ n → outside_from (next (Return n plus) 10) t ≡ 0
octets_none zero plus [] h = omega arith
octets_none zero plus (b ∷ t) h = absurd (omega (arith, h))
octets_none (suc n) plus t h = ap (λ (p : Phase). outside_from p t) (feeds n plus) ∙ in-none n t (omega (arith, h))

length_few : (side : Speaker) (p : ℕ × Bool) (t : List ℕ) → LengthText side p t → length t ≤ 9
length_few side (n, true) t h =
    let most = h.most in
    let d = digits_few 4 n h.digits h.number (omega (arith, most)) (omega arith) in
    omega (arith, ap length h.parts, length-append h.digits (close_text true), d)
length_few side (n, false) t h =
    let most = h.most in
    let d = digits_few 8 n h.digits h.number (omega (arith, most)) (omega arith) in
    omega (arith, ap length h.parts, length-append h.digits (close_text false), d)

-- two parts, from a phase on
two_few : (p q : Phase) (front back text : List ℕ) → text ≡ front ++ back → phase p front ≡ q → outside_from p text ≤ length front + outside_from q back
two_few p q front back text e led =
    let same : outside_from (phase p front) back ≡ outside_from q back = ap (λ (x : Phase). outside_from x back) led in
    omega (arith, ap (outside_from p) e, outside-append p front back, same, outside-le p front)

pub literal_few : (side : Speaker) (octets t : List ℕ) → Literal side octets t → outside t ≤ 12
literal_few side octets t h =
    let m = h.second in
    let c = m.second in
    let f = c.second in
    let closed = Close m.value.0 m.value.1 in
    let ended = Return m.value.0 m.value.1 in
    let one = two_few Plain Brace h.front h.back t h.parts (ap (phase Plain) h.first) in
    let two = two_few Brace closed m.front m.back h.back m.parts ((length_leads side).after m.value m.front m.first) in
    let three = two_few closed ended c.front c.back m.back c.parts (ap (phase closed) c.first) in
    let four = two_few ended (next ended 10) f.front f.back c.back f.parts (ap (phase ended) f.first) in
    let last = octets_none m.value.0 m.value.1 f.back f.second.1.long in
    omega (arith, one, two, three, four, last, length_few side m.value m.front m.first, ap length h.first, ap length c.first, ap length f.first)

-- ---- items with a separator between

pub as_few : (a b : ℕ) (t : List ℕ) → a ≤ b → Fits a t → Fits b t
as_few a b t le f = record { plain = f.plain; few = (let g = f.few in omega (arith, g, le)) }

pub both_fit : {P Q : List ℕ → Type 0} (a b : ℕ) → ((t : List ℕ) → P t → Fits a t) → ((t : List ℕ) → Q t → Fits b t) → (t : List ℕ) → (P ⨾ Q) t → Fits (a + b) t
both_fit a b p q t h = record {
  plain = ap (phase Plain) h.parts ∙ two-phases Plain Plain h.front h.back (p h.front h.first).plain ∙ (q h.back h.second).plain;
  few = then_few a b p (λ u g. (q u g).few) t h;
}

-- each item, and a byte with it
pub items_fit : {A : Type 0} (sep : ℕ) (L : A → List ℕ → Type 0) (most : A → ℕ) → phase Plain (sep ∷ []) ≡ Plain → ((a : A) (t : List ℕ) → L a t → Fits (most a) t) → (items : List A) (t : List ℕ) → ItemsText sep L items t → Fits (sum_by (λ a. most a + 1) items) t
items_fit sep L most plain each [] t h = absurd h
items_fit sep L most plain each (a ∷ []) t h = as_few (most a) (sum_by (λ a. most a + 1) (a ∷ [])) t (omega (arith, sum_by-cons (λ a. most a + 1) a [])) (each a t h)
items_fit sep L most plain each (a ∷ b ∷ others) t h =
    let later = sum_by (λ a. most a + 1) (b ∷ others) in
    as_few (most a + (1 + later)) (sum_by (λ a. most a + 1) (a ∷ b ∷ others)) t (omega (arith, sum_by-cons (λ a. most a + 1) a (b ∷ others)))
    (both_fit (most a) (1 + later) (each a) (both_fit 1 later (is_fits (sep ∷ []) plain) (λ u g. items_fit sep L most plain each (b ∷ others) u g)) t h)
