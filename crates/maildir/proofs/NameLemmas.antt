-- Names and their texts.
use Rattle.std.proofs.Common.{◌≡◌, ◌≢◌, ℕ, ◌+◌, ◌<◌, ◌≤◌, ◌^◌, Bool, true, false, not, cond, ◌&&◌, List, [], ◌∷◌, ◌++◌, length, get_or, take, drop, Option, None, Some, refl, sym, ap, subst, ◌∙◌, inl, inr, ◌⊎◌, lit<, lit≤, append-nil, arith}
use Rattle.std.specs.Prelude.{IsTrue, decimal, codes, nat_eq, SomeIff, ◌==◌}
use Rattle.std.specs.List.{starts_with, list_all}
use Rattle.std.specs.Str.Parse.{digits_value, AllDigits}
use Rattle.std.specs.Option.{option_map}
use Rattle.std.proofs.lemmas.Bool.Decides.{nat_tests}
use Rattle.std.specs.Cmp.Lexicographic.{pointwise, bytes_decides}
use Rattle.std.proofs.lemmas.Bool.{and_parts, false≢true}
use Rattle.std.proofs.lemmas.Fmt.{decimal_is_IsNumeral}
use Rattle.std.specs.Char.{digit_value}
use Rattle.std.proofs.lemmas.Grind.{common_steps}
use Rattle.std.proofs.lemmas.List.{take-append-drop}
use Rattle.std.proofs.lemmas.List.Elements.{All-nil, All-cons, All-append}
use Rattle.texts.specs.Cut.{Sides, cut_first, cut_last}
use Rattle.maildir.specs.Names.{NameParts, NameText, EndsInUid, IsUidOf, has_letters, letters_text, uid_text, is_uid, is_base, are_letters, uid_of, uid_after, uid_at_end, with_letters, if_base, name_before, letters_after, letters_at_end, name_of_parts, name_of, is_base_byte, COLON, COMMA}
use Rattle.texts.proofs.CutLemmas.{Lacks, Joins, JoinsLast, cut_first-joins, cut_last-joins, cut_first-lacks, cut_first-append, cut_last-append}

-- ---- UIDs

-- a number is read again from its text
pub uid_of-decimal : (n : ℕ) (digits : List ℕ) → n < 2 ^ 64 → decimal n ≡ digits → uid_of digits ≡ cond (is_uid n) (Some n) None
uid_of-decimal n digits small same =
    let value : digits_value 10 digits ≡ n = ap (λ t. digits_value 10 t) (sym same) ∙ (decimal_is_IsNumeral n small).1 in
    rw (value, (bytes_decides (decimal n) digits).1 same) (elim (is_uid n) as (λ b. cond (b && true) (Some n) None ≡ cond b (Some n) None) [ true ↦ refl | false ↦ refl ])

pub new_uid : (r : Option ℕ) (n : ℕ) → SomeIff r ((0 < n) × (n + 1 < 2 ^ 32)) n → r ≡ cond (is_uid n) (Some n) None
new_uid None n none = grind (arith, common_steps)
new_uid (Some x) n some = grind (arith, common_steps)

-- a UID with its text
pub record IsUidText (n : ℕ) (digits : List ℕ) : Type 0 where
  pub is : is_uid n ≡ true
  pub text : decimal n ≡ digits

pub uid_of-Some : (digits : List ℕ) (n : ℕ) → uid_of digits ≡ Some n → IsUidText n digits
uid_of-Some digits n read = by_test (is_uid value && pointwise nat_eq (decimal value) digits) refl read
  where
    value : ℕ
    value = digits_value 10 digits

    by_test : (b : Bool) → (is_uid (digits_value 10 digits) && pointwise nat_eq (decimal (digits_value 10 digits)) digits) ≡ b → cond b (Some (digits_value 10 digits)) None ≡ Some n → IsUidText n digits
    by_test true e same =
        let parts = and_parts (is_uid (digits_value 10 digits)) (pointwise nat_eq (decimal (digits_value 10 digits)) digits) e in
        let is : digits_value 10 digits ≡ n = cc in
        record {
          is = subst (λ (k : ℕ). is_uid k ≡ true) is parts.0;
          text = subst (λ (k : ℕ). decimal k ≡ digits) is ((bytes_decides _ _).0 parts.1);
        }
    by_test false e same = cc

-- ---- bytes that a number's text lacks

no_digit : (byte d : ℕ) → 58 ≤ byte → byte < 65 → digit_value d < 10 → d ≢ byte
no_digit byte d low high digit e = let f : digit_value byte < 10 = subst (λ (x : ℕ). digit_value x < 10) e digit in grind (arith, nat_tests)

low_is_no_digit : (byte d : ℕ) → byte < 48 → digit_value d < 10 → d ≢ byte
low_is_no_digit byte d low digit e = let f : digit_value byte < 10 = subst (λ (x : ℕ). digit_value x < 10) e digit in grind (arith, nat_tests)

-- below the digits or directly above them
abbrev pub IsOther : ℕ → Type 0
IsOther byte = (byte < 48) ⊎ ((58 ≤ byte) × (byte < 65))

other_is_no_digit : (byte d : ℕ) → IsOther byte → digit_value d < 10 → d ≢ byte
other_is_no_digit byte d (inl low) digit = low_is_no_digit byte d low digit
other_is_no_digit byte d (inr high) digit = no_digit byte d high.0 high.1 digit

digits_lack : (byte : ℕ) → IsOther byte → (ds : List ℕ) → AllDigits 10 ds → Lacks byte ds
digits_lack byte other [] all = All-nil (λ b. b ≢ byte)
digits_lack byte other (d ∷ ds) all = All-cons (λ b. b ≢ byte) d ds (other_is_no_digit byte d other all.0) (digits_lack byte other ds all.1)

pub decimal_lacks : (byte n : ℕ) → IsOther byte → n < 2 ^ 64 → Lacks byte (decimal n)
decimal_lacks byte n other small = digits_lack byte other (decimal n) (decimal_is_IsNumeral n small).0.1

pub uid_is_small : (n : ℕ) → is_uid n ≡ true → n < 2 ^ 64
uid_is_small n is = grind (arith, nat_tests)

-- ---- a UID at the end

begins : (text start : List ℕ) → starts_with nat_eq text start ≡ true → text ≡ start ++ drop (length start) text
begins text start starts =
    sym (take-append-drop (length start) text) ∙ ap (λ (x : List ℕ). x ++ drop (length start) text) (sym ((bytes_decides start (take (length start) text)).0 starts))

pub uid_at_end-read : (front : List ℕ) (n : ℕ) → 0 < length front → is_uid n ≡ true → uid_at_end (front ++ uid_text (Some n)) ≡ Some (front, n)
uid_at_end-read [] n some is = absurd (omega arith)
uid_at_end-read (b ∷ front) n some is =
    let lacks : Lacks COMMA (codes "U=" ++ decimal n) = All-cons (λ b. b ≢ COMMA) 85 (61 ∷ decimal n) (λ e. absurd (omega arith)) (All-cons (λ b. b ≢ COMMA) 61 (decimal n) (λ e. absurd (omega arith)) (decimal_lacks COMMA n (inl (lit< tt)) (uid_is_small n is))) in
    rw (cut_last-append COMMA (b ∷ front) (codes "U=" ++ decimal n) lacks, uid_of-decimal n (decimal n) (uid_is_small n is) refl, is) refl

-- the text ends in this UID
pub record UidCut (text front : List ℕ) (n : ℕ) : Type 0 where
  pub parts : text ≡ front ++ uid_text (Some n)
  pub some : 0 < length front
  pub is : is_uid n ≡ true

uid_cut : (text : List ℕ) (cut : Option Sides) → JoinsLast COMMA text cut → (front : List ℕ) (n : ℕ) → uid_after cut ≡ Some (front, n) → UidCut text front n
uid_cut text None joins front n read = cc
uid_cut text (Some ([], rest)) joins front n read = cc
uid_cut text (Some (b ∷ bs, rest)) joins front n read = by_test (starts_with nat_eq rest (codes "U=")) refl read
  where
    by_uid : (u : Option ℕ) → uid_of (drop 2 rest) ≡ u → starts_with nat_eq rest (codes "U=") ≡ true → option_map {U = List ℕ × ℕ} (λ uid. (b ∷ bs, uid)) u ≡ Some (front, n) → UidCut text front n
    by_uid None e starts same = cc
    by_uid (Some m) e starts same =
        let spelled = uid_of-Some (drop 2 rest) m e in
        let pair : ◌≡◌ {A = List ℕ × ℕ} (b ∷ bs, m) (front, n) = cc in
        let front_is : b ∷ bs ≡ front = ap (λ (p : List ℕ × ℕ). p.0) pair in
        let uid_is : m ≡ n = ap (λ (p : List ℕ × ℕ). p.1) pair in
        subst (λ (f : List ℕ). UidCut text f n) front_is (subst (λ (k : ℕ). UidCut text (b ∷ bs) k) uid_is (record {
          parts = joins ∙ ap (λ (r : List ℕ). b ∷ (bs ++ COMMA ∷ r)) (begins rest (codes "U=") starts) ∙ ap (λ (ds : List ℕ). b ∷ (bs ++ COMMA ∷ (codes "U=" ++ ds))) (sym spelled.text);
          some = omega arith;
          is = spelled.is;
        }))

    by_test : (s : Bool) → starts_with nat_eq rest (codes "U=") ≡ s → cond s (option_map {U = List ℕ × ℕ} (λ uid. (b ∷ bs, uid)) (uid_of (drop 2 rest))) None ≡ Some (front, n) → UidCut text front n
    by_test false starts same = cc
    by_test true starts same = by_uid (uid_of (drop 2 rest)) refl starts same

pub uid_at_end-Some : (text front : List ℕ) (n : ℕ) → uid_at_end text ≡ Some (front, n) → UidCut text front n
uid_at_end-Some text front n read = uid_cut text (cut_last COMMA text) (cut_last-joins COMMA text) front n read

pub no_uid_at_end : (text : List ℕ) → uid_at_end text ≡ None → ¬ EndsInUid text
no_uid_at_end text none ends =
    let there : uid_at_end text ≡ Some (ends.front, ends.uid) = ap uid_at_end ends.parts ∙ uid_at_end-read ends.front ends.uid ends.some ends.is in
    cc

pub uid_at_end-none : (text : List ℕ) → ¬ EndsInUid text → uid_at_end text ≡ None
uid_at_end-none text none = by_case (uid_at_end text) refl
  where
    by_case : (u : Option (List ℕ × ℕ)) → uid_at_end text ≡ u → u ≡ None
    by_case None e = refl
    by_case (Some (front, n)) e =
        let cut = uid_at_end-Some text front n e in
        absurd (none (record { front = front; uid = n; parts = cut.parts; some = cut.some; is = cut.is }))

-- ---- whole names

-- what is left of a name without its letters
spelled_before : (front : List ℕ) (letters : Option (List ℕ)) (u : Option (List ℕ × ℕ)) → uid_at_end front ≡ u
    → IsTrue (has_letters letters) → (name : NameParts) → if_base (with_letters front letters u) ≡ Some name → NameText name (front ++ letters_text letters)
spelled_before front letters None cut are name read = by_test (is_base front) refl read
  where
    by_test : (b : Bool) → is_base front ≡ b → cond b (Some (record { base = front; uid = None; letters = letters })) None ≡ Some name → NameText name (front ++ letters_text letters)
    by_test false e same = cc
    by_test true e same =
        let is : record { base = front; uid = None; letters = letters } ≡ name = cc in
        subst (λ (x : NameParts). NameText x (front ++ letters_text letters)) is (record {
          parts = ap (λ (t : List ℕ). t ++ letters_text letters) (sym (append-nil front));
          base = e;
          uid = no_uid_at_end front cut;
          letters = are;
        })
spelled_before front letters (Some (base, n)) cut are name read = by_test (is_base base) refl read
  where
    by_test : (b : Bool) → is_base base ≡ b → cond b (Some (record { base = base; uid = Some n; letters = letters })) None ≡ Some name → NameText name (front ++ letters_text letters)
    by_test false e same = cc
    by_test true e same =
        let is : record { base = base; uid = Some n; letters = letters } ≡ name = cc in
        let parts = uid_at_end-Some front base n cut in
        subst (λ (x : NameParts). NameText x (front ++ letters_text letters)) is (record {
          parts = ap (λ (t : List ℕ). t ++ letters_text letters) parts.parts;
          base = e;
          uid = parts.is;
          letters = are;
        })

spelled_by_cut : (text : List ℕ) (cut : Option Sides) → Joins COLON text cut → (name : NameParts) → name_of_parts (letters_after text cut) ≡ Some name → NameText name text
spelled_by_cut text None joins name read =
    subst (λ (t : List ℕ). NameText name t) (append-nil text) (spelled_before text None (uid_at_end text) refl refl name read)
spelled_by_cut text (Some (front, rest)) joins name read = by_test (starts_with nat_eq rest (codes "2,") && are_letters (drop 2 rest)) refl read
  where
    by_test : (b : Bool) → (starts_with nat_eq rest (codes "2,") && are_letters (drop 2 rest)) ≡ b
        → name_of_parts (cond b (Some (front, Some (drop 2 rest))) None) ≡ Some name → NameText name text
    by_test false e same = cc
    by_test true e same =
        let facts = and_parts (starts_with nat_eq rest (codes "2,")) (are_letters (drop 2 rest)) e in
        let is : front ++ letters_text (Some (drop 2 rest)) ≡ text =
        sym (joins.0 ∙ ap (λ (r : List ℕ). front ++ COLON ∷ r) (begins rest (codes "2,") facts.0)) in
        subst (λ (t : List ℕ). NameText name t) is (spelled_before front (Some (drop 2 rest)) (uid_at_end front) refl facts.1 name same)

-- what is read is spelled so
pub name_is_spelled : (name : NameParts) (text : List ℕ) → name_of text ≡ Some name → NameText name text
unfolding name_of
name_is_spelled name text read = spelled_by_cut text (cut_first COLON text) (cut_first-joins COLON text) name read

base_lacks : (base : List ℕ) → list_all is_base_byte base ≡ true → Lacks COLON base
base_lacks [] all = All-nil (λ b. b ≢ COLON)
base_lacks (b ∷ bs) all =
    let parts = and_parts (is_base_byte b) (list_all is_base_byte bs) all in
    All-cons (λ b. b ≢ COLON) b bs (λ e. no_colon b e parts.0) (base_lacks bs parts.1)
  where
    no_colon : (b : ℕ) → b ≡ COLON → is_base_byte b ≡ true → ⊥
    no_colon b e is = let at : is_base_byte COLON ≡ true = subst (λ (x : ℕ). is_base_byte x ≡ true) e is in cc

uid_lacks : (base : List ℕ) (uid : Option ℕ) → IsUidOf base uid → Lacks COLON (uid_text uid)
uid_lacks base None is = All-nil (λ b. b ≢ COLON)
uid_lacks base (Some n) is =
    All-cons (λ b. b ≢ COLON) 44 (codes "U=" ++ decimal n) (λ e. absurd (omega arith))
    (All-cons (λ b. b ≢ COLON) 85 (61 ∷ decimal n) (λ e. absurd (omega arith))
    (All-cons (λ b. b ≢ COLON) 61 (decimal n) (λ e. absurd (omega arith)) (decimal_lacks COLON n (inr (lit≤ tt, lit< tt)) (uid_is_small n is))))

read_before : (base : List ℕ) (uid : Option ℕ) (letters : Option (List ℕ)) → is_base base ≡ true → IsUidOf base uid
    → name_before (base ++ uid_text uid) letters ≡ Some (record { base = base; uid = uid; letters = letters })
read_before base None letters is none =
    rw (append-nil base, uid_at_end-none base none, is) refl
read_before base (Some n) letters is uid =
    rw (uid_at_end-read base n (base_some base is) uid, is) refl
  where
    base_some : (base : List ℕ) → is_base base ≡ true → 0 < length base
    base_some [] is = absurd (false≢true is)
    base_some (b ∷ bs) is = omega arith

read_letters : (front : List ℕ) (letters : Option (List ℕ)) → Lacks COLON front → IsTrue (has_letters letters)
    → letters_after (front ++ letters_text letters) (cut_first COLON (front ++ letters_text letters)) ≡ Some (front, letters)
read_letters front None lacks are = rw (append-nil front, cut_first-lacks COLON front lacks) refl
read_letters front (Some letters) lacks are = rw (cut_first-append COLON front (codes "2," ++ letters) lacks, are) refl

-- what is spelled so is read
pub spelled_is_read : (name : NameParts) (text : List ℕ) → NameText name text → name_of text ≡ Some name
unfolding name_of
spelled_is_read name text spelled =
    let base_bytes = and_parts (not (length name.base == 0) && not (get_or name.base 0 0 == 46)) (list_all is_base_byte name.base) spelled.base in
    let lacks : Lacks COLON (name.base ++ uid_text name.uid) = All-append (λ b. b ≢ COLON) name.base (uid_text name.uid) (base_lacks name.base base_bytes.1) (uid_lacks name.base name.uid spelled.uid) in
    ap (λ (t : List ℕ). name_of_parts (letters_at_end t)) spelled.parts
    ∙ ap name_of_parts (read_letters (name.base ++ uid_text name.uid) name.letters lacks spelled.letters)
    ∙ read_before name.base name.uid name.letters spelled.base spelled.uid
