-- Digits: as many for two numbers stand in the order of the numbers.
use Rattle.std.proofs.Common.{◌≡◌, ℕ, zero, suc, ◌+◌, ◌-◌, ◌*◌, ◌/◌, ◌%◌, ◌<◌, ◌≤◌, Bool, true, cond, eqb, not, ◌&&◌, List, [], ◌∷◌, ◌++◌, length, refl, sym, ap, ◌∙◌, ⊎_elim, append_assoc, arith}
use Rattle.std.specs.List.{list_all}
use Rattle.std.specs.Ordering.{nat_cmp, ordering_then}
use Rattle.std.specs.Cmp.Lexicographic.{slice_cmp}
use Rattle.std.specs.declared.cmp.Ordering.{Ordering}
use Rattle.std.specs.declared.cmp.Ordering.TheVariants.{Less, Equal, Greater}
use Rattle.std.proofs.lemmas.Bool.{cases_lt, lt-ltb, ne_eqb}
use Rattle.std.proofs.lemmas.Cmp.{nat_cmp_total, tied_itself}
use Rattle.std.proofs.lemmas.List.Elements.{All-nil, All-cons, All-append}
use Rattle.std.proofs.lemmas.List.Folds.{list_all-append}
use Rattle.std.proofs.lemmas.Nat.{div-add-mod', div_below, mod_below}
use Rattle.maildir.specs.Names.{is_base, is_base_byte}
use Rattle.texts.proofs.CutLemmas.{Lacks}
use Rattle.run_trial.specs.Folders.{digits, waiting_base}

-- ---- the order

-- the least number with more digits
abbrev pub beyond : ℕ → ℕ
beyond zero = 1
beyond (suc count) = beyond count * 10

same_prefix : (front a b : List ℕ) → slice_cmp nat_cmp (front ++ a) (front ++ b) ≡ slice_cmp nat_cmp a b
same_prefix [] a b = refl
same_prefix (x ∷ front) a b =
    ap (λ (o : Ordering). ordering_then o (slice_cmp nat_cmp (front ++ a) (front ++ b))) (tied_itself nat_cmp_total x) ∙ same_prefix front a b

less_first : (x y : ℕ) (a b : List ℕ) → x < y → slice_cmp nat_cmp (x ∷ a) (y ∷ b) ≡ Less
less_first x y a b less = ap (λ (t : Bool). ordering_then (cond t Less (cond (eqb x y) Equal Greater)) (slice_cmp nat_cmp a b)) (lt-ltb x y less)

after_same : (front front' a b : List ℕ) → front ≡ front' → slice_cmp nat_cmp a b ≡ Less → slice_cmp nat_cmp (front ++ a) (front' ++ b) ≡ Less
after_same front front' a b same less = ap (λ (l : List ℕ). slice_cmp nat_cmp (front ++ a) (l ++ b)) (sym same) ∙ same_prefix front a b ∙ less

pub both_moved : (a a' b b' : List ℕ) → a ≡ a' → b ≡ b' → slice_cmp nat_cmp a' b' ≡ Less → slice_cmp nat_cmp a b ≡ Less
both_moved a a' b b' same same' less = ap (λ (l : List ℕ). slice_cmp nat_cmp l b) same ∙ ap (λ (l : List ℕ). slice_cmp nat_cmp a' l) same' ∙ less

-- where the other digits are no less they are the same, and the last ones rise
record LastRises (a b : ℕ) : Type 0 where
  same : a / 10 ≡ b / 10
  less : 48 + a % 10 < 48 + b % 10

last_rises : (a b : ℕ) → a < b → b / 10 ≤ a / 10 → LastRises a b
last_rises a b less not_less =
    let p = div-add-mod' a 10 in
    let q = div-add-mod' b 10 in
    let r : a % 10 < 10 = mod_below a 10 (omega arith) in
    let s : b % 10 < 10 = mod_below b 10 (omega arith) in
    record { same = omega arith; less = omega arith }

pub digits_rise : (count a b : ℕ) (s t : List ℕ) → a < b → b < beyond count → slice_cmp nat_cmp (digits count a ++ s) (digits count b ++ t) ≡ Less
unfolding digits
digits_rise zero a b s t less small = absurd (omega arith)
digits_rise (suc count) a b s t less small =
    both_moved (digits (suc count) a ++ s) (digits count (a / 10) ++ (48 + a % 10) ∷ s) (digits (suc count) b ++ t) (digits count (b / 10) ++ (48 + b % 10) ∷ t)
    (append_assoc (digits count (a / 10)) ((48 + a % 10) ∷ []) s) (append_assoc (digits count (b / 10)) ((48 + b % 10) ∷ []) t)
    (⊎_elim
    (λ (rise : a / 10 < b / 10). digits_rise count (a / 10) (b / 10) ((48 + a % 10) ∷ s) ((48 + b % 10) ∷ t) rise (div_below b 10 (beyond count) (omega arith) small))
    (λ (not_less : b / 10 ≤ a / 10).
    let last = last_rises a b less not_less in
    after_same (digits count (a / 10)) (digits count (b / 10)) ((48 + a % 10) ∷ s) ((48 + b % 10) ∷ t) (ap (digits count) last.same)
    (less_first (48 + a % 10) (48 + b % 10) s t last.less))
    (cases_lt (a / 10) (b / 10)))

-- ---- a base

digit_is_byte : (b : ℕ) → 48 ≤ b → b < 58 → is_base_byte b ≡ true
digit_is_byte b low high =
    rw (ne_eqb b 47 (λ e. absurd (omega arith)), ne_eqb b 0 (λ e. absurd (omega arith)), ne_eqb b 58 (λ e. absurd (omega arith))) refl

and_both : (a b : Bool) → a ≡ true → b ≡ true → (a && b) ≡ true
and_both a b one two = rw (one, two) refl

digits_bytes : (count number : ℕ) → list_all is_base_byte (digits count number) ≡ true
unfolding digits
digits_bytes zero number = refl
digits_bytes (suc count) number =
    list_all-append is_base_byte (digits count (number / 10)) ((48 + number % 10) ∷ [])
    ∙ and_both (list_all is_base_byte (digits count (number / 10))) (list_all is_base_byte ((48 + number % 10) ∷ [])) (digits_bytes count (number / 10))
    (and_both (is_base_byte (48 + number % 10)) true (let d : number % 10 < 10 = mod_below number 10 (omega arith) in digit_is_byte (48 + number % 10) (omega arith) (omega arith)) refl)

digits_lack : (count number : ℕ) → Lacks 44 (digits count number)
unfolding digits
digits_lack zero number = All-nil (λ (b : ℕ). b ≡ 44 → ⊥)
digits_lack (suc count) number =
    All-append (λ (b : ℕ). b ≡ 44 → ⊥) (digits count (number / 10)) ((48 + number % 10) ∷ []) (digits_lack count (number / 10))
    (All-cons (λ (b : ℕ). b ≡ 44 → ⊥) (48 + number % 10) [] (λ e. absurd (omega arith)) (All-nil (λ (b : ℕ). b ≡ 44 → ⊥)))

pub waiting_is_base : (number : ℕ) → is_base (waiting_base number) ≡ true
waiting_is_base number =
    and_both (not (eqb (length (119 ∷ digits 20 number)) 0) && true) (list_all is_base_byte (119 ∷ digits 20 number))
    (and_both (not (eqb (length (119 ∷ digits 20 number)) 0)) true (rw (ne_eqb (length (119 ∷ digits 20 number)) 0 (λ e. absurd (omega arith))) refl) refl)
    (digits_bytes 20 number)

pub waiting_lacks : (number : ℕ) → Lacks 44 (waiting_base number)
waiting_lacks number = All-cons (λ (b : ℕ). b ≡ 44 → ⊥) 119 (digits 20 number) (λ e. absurd (omega arith)) (digits_lack 20 number)

-- ---- one more digit

digits_more : (count number : ℕ) → 0 < count → digits count number ≡ digits (count - 1) (number / 10) ++ (48 + number % 10) ∷ []
unfolding digits
digits_more zero number some = absurd (omega arith)
digits_more (suc count) number some = let e : suc count - 1 ≡ count = omega arith in rw e refl

pub digit_pushed : (text before now : List ℕ) (count number : ℕ) → 0 < count → before ≡ text ++ digits (count - 1) (number / 10) → now ≡ before ++ (48 + number % 10) ∷ []
    → now ≡ text ++ digits count number
digit_pushed text before now count number some so_far one =
    one ∙ ap (λ (l : List ℕ). l ++ (48 + number % 10) ∷ []) so_far
    ∙ append_assoc text (digits (count - 1) (number / 10)) ((48 + number % 10) ∷ [])
    ∙ ap (λ (l : List ℕ). text ++ l) (sym (digits_more count number some))
