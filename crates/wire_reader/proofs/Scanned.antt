-- What is scanned in parts.
use Rattle.std.proofs.Common.{◌≡◌, ◌≢◌, ℕ, zero, suc, ◌+◌, ◌-◌, ◌<◌, ◌≤◌, Bool, true, false, cond, List, [], ◌∷◌, ◌++◌, length, take, drop, get_or, All, Option, Some, None, refl, sym, ap, subst, ◌∙◌, append_assoc, inl, inr, arith}
use Rattle.std.proofs.Math.Seq.{split_at, take-add}
use Rattle.std.proofs.lemmas.Bool.{cases_Bool, ne_eqb, eqb-true, eq-eqb, lt-leb}
use Rattle.std.proofs.lemmas.List.{get_or-take, take-append-drop, take_all, drop-drop, length-drop, length-append, take_at, length-take, length-take-le}
use Rattle.std.proofs.lemmas.Grind.{common_steps}
use Rattle.std.proofs.lemmas.List.Elements.{All-head, All-tail, All-from_get_or}
use Rattle.memchr.specs.Find.{IsFirstByte, is_byte}
use Rattle.wire_reader.specs.declared.lexical.Phase.{Phase}
use Rattle.wire_reader.specs.declared.lexical.Phase.TheVariants.{Plain, In}
use Rattle.wire_reader.specs.declared.scanner.Scanner.{Scanner}
use Rattle.wire_reader.specs.Lexical.{next}
use Rattle.wire_reader.specs.Scanning.{after, one_more, scanned, is_place, place_from}
use Rattle.wire_reader.specs.Advancing.{Before, Advances, Nul, is_plain}

-- ---- one part and then another

pub scanned-append : (s : Scanner) (xs ys : List ℕ) → scanned s (xs ++ ys) ≡ scanned (scanned s xs) ys
scanned-append s [] ys = refl
scanned-append s (b ∷ xs) ys = scanned-append (after s b) xs ys

abbrev pub place_case : ℕ → Scanner → ℕ → List ℕ → Bool → Option ℕ
place_case at s b bs t = cond t (Some (suc at)) (place_from (suc at) (after s b) bs)

pub no_place : (at : ℕ) (s : Scanner) (b : ℕ) (bs : List ℕ) → place_from at s (b ∷ bs) ≡ None → (is_place s b ≡ false) × (place_from (suc at) (after s b) bs ≡ None)
no_place at s b bs h =
    elim (cases_Bool (is_place s b)) [
      | inl e ↦ let wrong : place_case at s b bs true ≡ None = sym (ap (place_case at s b bs) e) ∙ h in absurd cc
      | inr e ↦ (e, sym (ap (place_case at s b bs) e) ∙ h)
    ]

-- the place is counted from `at` on
pub place-from_none : (xs : List ℕ) (at to : ℕ) (s : Scanner) → place_from at s xs ≡ None → place_from to s xs ≡ None
place-from_none [] at to s h = refl
place-from_none (b ∷ bs) at to s h = let n = no_place at s b bs h in ap (place_case to s b bs) n.0 ∙ place-from_none bs (suc at) (suc to) (after s b) n.1

pub place-append : (xs : List ℕ) (at : ℕ) (s : Scanner) (ys : List ℕ) → place_from at s xs ≡ None → place_from at s (xs ++ ys) ≡ place_from (at + length xs) (scanned s xs) ys
place-append [] at s ys h = ap (λ (k : ℕ). place_from k s ys) (omega arith)
place-append (b ∷ bs) at s ys h =
    let n = no_place at s b bs h in
    ap (place_case at s b (bs ++ ys)) n.0 ∙ place-append bs (suc at) (after s b) ys n.1 ∙ ap (λ (k : ℕ). place_from k (scanned (after s b) bs) ys) (omega arith)

-- ---- octets, but not the last of a literal

abbrev among : ℕ → ℕ → Scanner
among n count = record { phase = In n; outside = count }

in-next : (n b : ℕ) → 1 < n → next (In n) b ≡ In (n - 1)
in-next n b lt = ap (λ (t : Bool). cond t Plain (In (n - 1))) (lt-leb n 1 lt)

pub octets-scanned : (xs : List ℕ) (n count : ℕ) → length xs < n → scanned (among n count) xs ≡ among (n - length xs) count
octets-scanned [] n count lt = ap (λ (k : ℕ). among k count) (omega arith)
octets-scanned (b ∷ bs) n count lt =
    ap (λ (p : Phase). scanned (record { phase = p; outside = count }) bs) (in-next n b (omega (arith, lt)))
    ∙ octets-scanned bs (n - 1) count (omega (arith, lt)) ∙ ap (λ (k : ℕ). among k count) (omega (arith, lt))

pub octets_passed : (s : Scanner) (xs : List ℕ) (n : ℕ) → s.phase ≡ In n → length xs < n
    → scanned s xs ≡ record { phase = In (n - length xs); outside = s.outside }
octets_passed s xs n inside more =
    subst (λ (p : Phase). scanned (record { phase = p; outside = s.outside }) xs ≡ among (n - length xs) s.outside) (sym inside)
    (octets-scanned xs n s.outside more)

pub octets-quiet : (xs : List ℕ) (n count at : ℕ) → length xs < n → All (λ b. b ≢ 0) xs → place_from at (among n count) xs ≡ None
octets-quiet [] n count at lt clean = refl
octets-quiet (b ∷ bs) n count at lt clean =
    ap (place_case at (among n count) b bs) (ne_eqb b 0 (All-head (λ b. b ≢ 0) b bs clean))
    ∙ ap (λ (p : Phase). place_from (suc at) (record { phase = p; outside = count }) bs) (in-next n b (omega (arith, lt)))
    ∙ octets-quiet bs (n - 1) count (suc at) (omega (arith, lt)) (All-tail (λ b. b ≢ 0) b bs clean)

-- ---- the first 0

pub nul_before : (xs : List ℕ) (at : ℕ) → IsFirstByte (is_byte 0) xs (Some at) → Before xs (at + 1)
nul_before xs at h =
    let first = h.0 in
    let zero_here : get_or xs at 0 ≡ 0 = eqb-true (get_or xs at 0) 0 h.1 in
    record {
      front = take at xs;
      back = drop (suc at) xs;
      parts = split_at xs at 0 first.high ∙ ap (λ (b : ℕ). take at xs ++ b ∷ drop (suc at) xs) zero_here;
      count_is = omega (arith, length-take-le at xs (let l = first.high in omega arith));
      clean = All-from_get_or (λ b. b ≢ 0) (take at xs) 0
          (λ k lt e. let below : k < at = omega (arith, lt, length-take-le at xs (let l = first.high in omega arith)) in first.before k (omega arith) below (eq-eqb (get_or xs k 0) 0 (sym (get_or-take at xs k 0 below) ∙ e)));
    }

-- ---- a part of the octets is skipped

take-as_long : (k : ℕ) (xs : List ℕ) → take (length (take k xs)) xs ≡ take k xs
take-as_long zero xs = refl
take-as_long (suc k) [] = refl
take-as_long (suc k) (b ∷ bs) = ap (λ (x : List ℕ). b ∷ x) (take-as_long k bs)

skip_clean : (bytes : List ℕ) (n count c : ℕ) → 1 < n → 0 < length bytes → All (λ b. b ≢ 0) (take (n - 1) bytes) → c ≡ length (take (n - 1) bytes) → Advances (among n count) bytes (c, false) (among (n - c) count)
skip_clean bytes n count c more some clean is =
    let m = length-take (n - 1) bytes in
    let same : take c bytes ≡ take (n - 1) bytes = ap (λ (k : ℕ). take k bytes) is ∙ take-as_long (n - 1) bytes in
    let long : length (take c bytes) ≡ c = ap length same ∙ sym is in
    let lt : length (take c bytes) < n = omega (arith, long, is, m, more) in
    record {
      some = omega (arith, is, m, more, some);
      within = omega (arith, is, m);
      moves = sym (octets-scanned (take c bytes) n count lt ∙ ap (λ (k : ℕ). among (n - k) count) long);
      place = λ at.
          ap (place_from at (among n count)) (sym (take-append-drop c bytes))
          ∙ place-append (take c bytes) at (among n count) (drop c bytes) (octets-quiet (take c bytes) n count at lt (subst (All (λ b. b ≢ 0)) (sym same) clean))
          ∙ ap (λ (s : Scanner). place_from (at + length (take c bytes)) s (drop c bytes)) (octets-scanned (take c bytes) n count lt)
          ∙ ap (λ (k : ℕ). place_from (at + k) (among (n - k) count) (drop c bytes)) long;
    }

skip_nul : (bytes : List ℕ) (n count c : ℕ) → 1 < n → Before (take (n - 1) bytes) c → Advances (among n count) bytes (c, true) (among (n - c) count)
skip_nul bytes n count c more b =
    let m = length-take (n - 1) bytes in
    let l : length (take (n - 1) bytes) ≡ length b.front + suc (length b.back) = ap length b.parts ∙ length-append b.front (0 ∷ b.back) in
    let is = b.count_is in
    let all : bytes ≡ b.front ++ 0 ∷ (b.back ++ drop (n - 1) bytes) =
    sym (take-append-drop (n - 1) bytes) ∙ ap (λ (x : List ℕ). x ++ drop (n - 1) bytes) b.parts ∙ append_assoc b.front (0 ∷ b.back) (drop (n - 1) bytes) in
    let front : take c bytes ≡ b.front ++ 0 ∷ [] =
    ap (take c) (all ∙ sym (append_assoc b.front (0 ∷ []) (b.back ++ drop (n - 1) bytes))) ∙ take_at (b.front ++ 0 ∷ []) (b.back ++ drop (n - 1) bytes) c (omega (arith, is, length-append b.front (0 ∷ []))) in
    let long : length (b.front ++ 0 ∷ []) ≡ c = omega (arith, is, length-append b.front (0 ∷ [])) in
    let lt : length b.front < n = omega (arith, l, m, more) in
    record {
      some = omega (arith, is);
      within = omega (arith, is, l, m);
      moves = sym (ap (scanned (among n count)) front ∙ octets-scanned (b.front ++ 0 ∷ []) n count (omega (arith, long, is, l, m, more)) ∙ ap (λ (k : ℕ). among (n - k) count) long);
      place = λ at.
          ap (place_from at (among n count)) all
          ∙ place-append b.front at (among n count) (0 ∷ (b.back ++ drop (n - 1) bytes)) (octets-quiet b.front n count at lt b.clean)
          ∙ ap (λ (s : Scanner). place_from (at + length b.front) s (0 ∷ (b.back ++ drop (n - 1) bytes))) (octets-scanned b.front n count lt)
          ∙ ap (λ (k : ℕ). Some k) (let e : suc (at + length b.front) ≡ at + c = omega (arith, is) in e);
    }

pub skipped : (bytes : List ℕ) (n count : ℕ) (found : ℕ × Bool) → 1 < n → 0 < length bytes → Nul (take (n - 1) bytes) found → Advances (among n count) bytes found (among (n - found.0) count)
skipped bytes n count (c, true) more some h = skip_nul bytes n count c more h
skipped bytes n count (c, false) more some h = skip_clean bytes n count c more some h.0 h.1

-- ---- bytes outside literals, none of which is a LF or begins a length

abbrev plainly : ℕ → Scanner
plainly count = record { phase = Plain; outside = count }

plain_next : (b : ℕ) → is_plain b ≡ true → next Plain b ≡ Plain
plain_next b is = grind (arith, common_steps, is)

plain_place : (b count : ℕ) → is_plain b ≡ true → count < 65536 → is_place (plainly count) b ≡ false
plain_place b count is lt = grind (arith, common_steps, is, lt)

plain_after : (b count : ℕ) → is_plain b ≡ true → count < 65536 → after (plainly count) b ≡ plainly (count + 1)
plain_after b count is lt =
    let more : one_more count ≡ count + 1 = grind (arith, common_steps, lt) in
    ap (λ (p : Phase). let s : Scanner = record { phase = p; outside = one_more count } in s) (plain_next b is) ∙ ap plainly more

plain-scanned : (xs : List ℕ) (count : ℕ) → count + length xs ≤ 65536 → All (λ b. is_plain b ≡ true) xs → scanned (plainly count) xs ≡ plainly (count + length xs)
plain-scanned [] count fits plain = ap plainly (omega arith)
plain-scanned (b ∷ bs) count fits plain =
    ap (λ (s : Scanner). scanned s bs) (plain_after b count (All-head (λ x. is_plain x ≡ true) b bs plain) (omega (arith, fits)))
    ∙ plain-scanned bs (count + 1) (omega (arith, fits)) (All-tail (λ x. is_plain x ≡ true) b bs plain) ∙ ap plainly (omega arith)

plain-quiet : (xs : List ℕ) (count at : ℕ) → count + length xs ≤ 65536 → All (λ b. is_plain b ≡ true) xs → place_from at (plainly count) xs ≡ None
plain-quiet [] count at fits plain = refl
plain-quiet (b ∷ bs) count at fits plain =
    let is = All-head (λ x. is_plain x ≡ true) b bs plain in
    ap (place_case at (plainly count) b bs) (plain_place b count is (omega (arith, fits)))
    ∙ ap (λ (s : Scanner). place_from (suc at) s bs) (plain_after b count is (omega (arith, fits)))
    ∙ plain-quiet bs (count + 1) (suc at) (omega (arith, fits)) (All-tail (λ x. is_plain x ≡ true) b bs plain)

pub plain_skipped : (bytes : List ℕ) (count c : ℕ) → 0 < c → c ≤ length bytes → count + c ≤ 65536 → All (λ b. is_plain b ≡ true) (take c bytes) → Advances (plainly count) bytes (c, false) (plainly (count + c))
plain_skipped bytes count c some within fits plain =
    let long : length (take c bytes) ≡ c = length-take-le c bytes within in
    let room : count + length (take c bytes) ≤ 65536 = omega (arith, long, fits) in
    record {
      some = some;
      within = within;
      moves = sym (plain-scanned (take c bytes) count room plain ∙ ap (λ (k : ℕ). plainly (count + k)) long);
      place = λ at.
          ap (place_from at (plainly count)) (sym (take-append-drop c bytes))
          ∙ place-append (take c bytes) at (plainly count) (drop c bytes) (plain-quiet (take c bytes) count at room plain)
          ∙ ap (λ (s : Scanner). place_from (at + length (take c bytes)) s (drop c bytes)) (plain-scanned (take c bytes) count room plain)
          ∙ ap (λ (k : ℕ). place_from (at + k) (plainly (count + k)) (drop c bytes)) long;
    }

-- ---- one part after another

pub moved : (s t u : Scanner) (xs : List ℕ) (i j : ℕ) → t ≡ scanned s (take i xs) → u ≡ scanned t (take j (drop i xs)) → u ≡ scanned s (take (i + j) xs)
moved s t u xs i j e f =
    f ∙ ap (λ (v : Scanner). scanned v (take j (drop i xs))) e ∙ sym (scanned-append s (take i xs) (take j (drop i xs))) ∙ ap (scanned s) (sym (take-add i j xs))

-- from this byte on to the end
pub following : (bytes : List ℕ) (done : ℕ) (old : Scanner) (found : ℕ × Bool) (new : Scanner) → Advances old (take (length bytes - done) (drop done bytes)) found new → Advances old (drop done bytes) found new
following bytes done old found new h = subst (λ (x : List ℕ). Advances old x found new) (take_all (length bytes - done) (drop done bytes) (omega (arith, length-drop done bytes))) h

-- no place so far, and none in these
pub goes_on : (bytes : List ℕ) (done : ℕ) (old : Scanner) (found : ℕ × Bool) (new : Scanner) → Advances old (drop done bytes) found new → found.1 ≡ false → place_from (done + found.0) new (drop (done + found.0) bytes) ≡ place_from done old (drop done bytes)
goes_on bytes done old found new h none =
    ap (place_from (done + found.0) new) (sym (drop-drop found.0 done bytes))
    ∙ sym (h.place done ∙ ap (λ (t : Bool). cond t (Some (done + found.0)) (place_from (done + found.0) new (drop found.0 (drop done bytes)))) none)
