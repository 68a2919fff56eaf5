-- An escaped text is that of one list of bytes alone.
use Rattle.std.proofs.Common.{◌≡◌, ◌≢◌, ℕ, ◌+◌, ◌/◌, ◌%◌, ◌<◌, Bool, true, false, List, [], ◌∷◌, ◌++◌, length, refl, sym, ap, ◌∙◌, arith, append_assoc, length-append, cond, nat_lt, suc, eqb, ◌||◌, ◌&&◌, fold}
use Rattle.std.proofs.lemmas.Grind.{common_steps, flat_map-append}
use Rattle.std.specs.List.{All, list_all}
use Rattle.std.proofs.lemmas.List.Folds.{list_all-append}
use Rattle.texts.specs.Escape.{escape_of, escaped, hex_digit, is_plain}

abbrev AreBytes : List ℕ → Type 0
AreBytes bytes = All (λ b. b < 256) bytes

digit_by : (p q : Bool) (a b : ℕ) → nat_lt a 10 ≡ p → nat_lt b 10 ≡ q → cond p (48 + a) (87 + a) ≡ cond q (48 + b) (87 + b) → a ≡ b
digit_by true true a b p q e = omega arith
digit_by true false a b p q e = grind (arith, common_steps)
digit_by false true a b p q e = grind (arith, common_steps)
digit_by false false a b p q e = omega arith

same_digit : (a b : ℕ) → hex_digit a ≡ hex_digit b → a ≡ b
same_digit a b e = digit_by (nat_lt a 10) (nat_lt b 10) a b refl refl e

first_by : (p q : Bool) (a b : ℕ) (x y : List ℕ) → is_plain a ≡ p → is_plain b ≡ q
    → cond p (a ∷ []) (92 ∷ hex_digit (a / 16) ∷ hex_digit (a % 16) ∷ []) ++ x ≡ cond q (b ∷ []) (92 ∷ hex_digit (b / 16) ∷ hex_digit (b % 16) ∷ []) ++ y
    → (a ≡ b) × (x ≡ y)
first_by true true a b x y p q e = (cc, cc)
first_by true false a b x y p q e =
    let is : a ≡ 92 = cc in
    let no : true ≡ false = sym p ∙ ap (λ (n : ℕ). is_plain n) is in
    cc
first_by false true a b x y p q e =
    let is : b ≡ 92 = cc in
    let no : true ≡ false = sym q ∙ ap (λ (n : ℕ). is_plain n) is in
    cc
first_by false false a b x y p q e =
    let high : hex_digit (a / 16) ≡ hex_digit (b / 16) = cc in
    let low : hex_digit (a % 16) ≡ hex_digit (b % 16) = cc in
    let highs : a / 16 ≡ b / 16 = same_digit (a / 16) (b / 16) high in
    let lows : a % 16 ≡ b % 16 = same_digit (a % 16) (b % 16) low in
    (omega arith, cc)

first_of : (a b : ℕ) (x y : List ℕ) → escape_of a ++ x ≡ escape_of b ++ y → (a ≡ b) × (x ≡ y)
first_of a b x y e = first_by (is_plain a) (is_plain b) a b x y refl refl e

not_empty_by : (p : Bool) (b : ℕ) → 0 < length (cond p (b ∷ []) (92 ∷ hex_digit (b / 16) ∷ hex_digit (b % 16) ∷ []))
not_empty_by true b = omega arith
not_empty_by false b = omega arith

pub escape_not_empty : (b : ℕ) → 0 < length (escape_of b)
escape_not_empty b = not_empty_by (is_plain b) b

others : (b : ℕ) (bytes : List ℕ) → AreBytes (b ∷ bytes) → AreBytes bytes
others b bytes all = λ k d h. all (suc k) d (omega arith)

-- after a text that begins with these bytes nothing follows that begins with a byte: it is the text of no bytes
pub none_spelled : (front rest : List ℕ) → 0 < length rest
    → ((b : ℕ) → b < 256 → (z : List ℕ) → escape_of b ++ z ≢ rest)
    → (bytes : List ℕ) → AreBytes bytes → escaped bytes ≢ escaped front ++ rest
none_spelled [] rest some none [] are e = let n : 0 ≡ length rest = ap (λ (t : List ℕ). length t) e in omega arith
none_spelled [] rest some none (b ∷ bytes) are e = none b (are 0 0 (omega arith)) (escaped bytes) e
none_spelled (a ∷ front) rest some none [] are e =
    let n : 0 ≡ length ((escape_of a ++ escaped front) ++ rest) = ap (λ (t : List ℕ). length t) e in
    let h = escape_not_empty a in
    omega (arith, length-append (escape_of a ++ escaped front) rest, length-append (escape_of a) (escaped front))
none_spelled (a ∷ front) rest some none (b ∷ bytes) are e =
    let same = first_of b a (escaped bytes) (escaped front ++ rest) (e ∙ append_assoc (escape_of a) (escaped front) rest) in
    none_spelled front rest some none bytes (others b bytes are) same.1

-- ---- the bytes of an escaped text

abbrev pub is_text : ℕ → Bool
is_text b = is_plain b || eqb b 92

all_by : (p : ℕ → Bool) (all : Bool) (bytes : List ℕ) → fold (λ a b. a && p b) all bytes ≡ (all && list_all p bytes)
all_by p true [] = refl
all_by p false [] = refl
all_by p true (b ∷ bytes) = all_by p (p b) bytes
all_by p false (b ∷ bytes) = all_by p false bytes

-- a test that goes on after a byte that fails is the same test
pub all_by_fold : (p : ℕ → Bool) (bytes : List ℕ) → fold (λ a b. a && p b) true bytes ≡ list_all p bytes
all_by_fold p bytes = all_by p true bytes

digit_text_by : (p : Bool) (d : ℕ) → nat_lt d 10 ≡ p → d < 16 → is_text (cond p (48 + d) (87 + d)) ≡ true
digit_text_by true d is small = grind (arith, common_steps)
digit_text_by false d is small = grind (arith, common_steps)

digit_text : (d : ℕ) → d < 16 → is_text (hex_digit d) ≡ true
digit_text d small = digit_text_by (nat_lt d 10) d refl small

escape_text_by : (p : Bool) (b : ℕ) → is_plain b ≡ p → b < 256
    → list_all is_text (cond p (b ∷ []) (92 ∷ hex_digit (b / 16) ∷ hex_digit (b % 16) ∷ [])) ≡ true
escape_text_by true b is small = grind (arith, common_steps)
escape_text_by false b is small =
    let high = digit_text (b / 16) (omega arith) in
    let low = digit_text (b % 16) (omega arith) in
    grind (arith, common_steps)

escape_text : (b : ℕ) → b < 256 → list_all is_text (escape_of b) ≡ true
escape_text b small = escape_text_by (is_plain b) b refl small

pub escaped_text : (bytes : List ℕ) → AreBytes bytes → list_all is_text (escaped bytes) ≡ true
escaped_text [] are = refl
escaped_text (b ∷ bytes) are =
    let one = escape_text b (are 0 0 (omega arith)) in
    let more = escaped_text bytes (others b bytes are) in
    rw (list_all-append is_text (escape_of b) (escaped bytes)) (rw (one, more) refl)

and_true : (p q : Bool) → (p && q) ≡ true → (p ≡ true) × (q ≡ true)
and_true true q both = (refl, both)
and_true false q both = cc

plain_by : (p : Bool) (b : ℕ) → is_plain b ≡ p → b ≢ 92 → (p || eqb b 92) ≡ true → escape_of b ≡ b ∷ []
plain_by true b is other text = cc
plain_by false b is other text = absurd (other (grind (arith, common_steps)))

-- those other than `\` stand for themselves
pub plain_run : (run : List ℕ) → list_all is_text run ≡ true → All (λ b. b ≢ 92) run → escaped run ≡ run
plain_run [] text other = refl
plain_run (b ∷ rest) text other =
    let parts = and_true (is_text b) (list_all is_text rest) text in
    let one = plain_by (is_plain b) b refl (other 0 0 (omega arith)) parts.0 in
    ap (λ (x : List ℕ). x ++ escaped rest) one ∙ ap (λ (x : List ℕ). b ∷ x) (plain_run rest parts.1 (λ k d h. other (suc k) d (omega arith)))

text_after : (front rest text : List ℕ) → list_all is_text text ≡ true → front ++ rest ≡ text → list_all is_text rest ≡ true
text_after front rest text all e =
    (and_true (list_all is_text front) (list_all is_text rest) (sym (list_all-append is_text front rest) ∙ ap (λ (t : List ℕ). list_all is_text t) e ∙ all)).1

run_added : (bytes run : List ℕ) → list_all is_text run ≡ true → All (λ b. b ≢ 92) run → escaped (bytes ++ run) ≡ escaped bytes ++ run
run_added bytes run text other = flat_map-append escape_of bytes run ∙ ap (λ (x : List ℕ). escaped bytes ++ x) (plain_run run text other)

-- what stands in front of the next `\` is read
pub front_read : (bytes run tail rest text : List ℕ) → list_all is_text text ≡ true → escaped bytes ++ rest ≡ text
    → rest ≡ run ++ tail → All (λ b. b ≢ 92) run → escaped (bytes ++ run) ++ tail ≡ text
front_read bytes run tail rest text all e cut other =
    let back = text_after (escaped bytes) rest text all e in
    let front = and_true (list_all is_text run) (list_all is_text tail) (sym (list_all-append is_text run tail) ∙ ap (λ (t : List ℕ). list_all is_text t) (sym cut) ∙ back) in
    ap (λ (x : List ℕ). x ++ tail) (run_added bytes run front.0 other) ∙ append_assoc (escaped bytes) run tail
    ∙ ap (λ (x : List ℕ). escaped bytes ++ x) (sym cut) ∙ e

-- what follows the last escape is read
pub end_read : (bytes rest text : List ℕ) → list_all is_text text ≡ true → escaped bytes ++ rest ≡ text → All (λ b. b ≢ 92) rest → escaped (bytes ++ rest) ≡ text
end_read bytes rest text all e other = run_added bytes rest (text_after (escaped bytes) rest text all e) other ∙ e
