-- What is written of a set of flags, read again.
use Rattle.std.proofs.Common.{lit<, ◌≡◌, ◌≢◌, ℕ, suc, ◌^◌, ◌<◌, Bool, true, false, cond, eqb, eq-eqb, All, List, [], ◌∷◌, ◌++◌, map, filter, find, Option, None, Some, append_assoc, refl, sym, ap, subst, ◌∙◌, inl, inr, arith}
use Rattle.std.specs.Prelude.{◌||◌, ◌&&◌, AllPairs, is_none, option_map}
use Rattle.std.specs.List.{list_any, fold}
use Rattle.std.specs.Str.{str_eq_ignore_ascii_case, str_to_ascii_lowercase}
use Rattle.std.specs.Prelude.{nat_eq}
use Rattle.std.specs.Cmp.Lexicographic.{pointwise}
use Rattle.std.proofs.lemmas.Bool.{and_parts, cases_eq, cases_Bool, false≢true}
use Rattle.std.proofs.lemmas.Bool.Decides.{nat_tests}
use Rattle.std.proofs.lemmas.List.Folds.{list_any-append}
use Rattle.std.proofs.lemmas.List.Elements.{All-head, All-tail, All-cons, All-nil}
use Rattle.mailcore.specs.declared.flags.Flag.{Flag}
use Rattle.mailcore.specs.declared.flags.Flag.TheVariants.{Draft, Flagged, Forwarded, Answered, Seen, Deleted}
use Rattle.mailcore.specs.declared.keywords.Keyword.{Keyword}
use Rattle.mailcore.specs.FlagNames.{place, imap_name, flag_named}
use Rattle.mailcore.specs.FlagSet.{FLAGS, has, union}
use Rattle.mailcore.specs.KeywordNames.{IsMap, IsWithin, is_keyword_name, has_name, place_of, set_of, named_by, flags_named, with_named, named_set, written_order, names_of, is_known}
use Rattle.mailcore.proofs.FlagRules.{has-union, union-lt, set_from_flags}
use Rattle.mailcore.proofs.FlagLetters.{has-pow, has-zero}

-- ---- a set is gathered from names

pub or_assoc : (a b c : Bool) → ((a || b) || c) ≡ (a || (b || c))
or_assoc true b c = refl
or_assoc false b c = refl

pub gathered : (keywords : List Keyword) (k set : ℕ) (names : List (List ℕ)) → k < FLAGS
    → has (fold (with_named keywords) set names) k ≡ (has set k || list_any (λ n. has (flags_named keywords n) k) names)
gathered keywords k set [] h = or_none (has set k)
  where
    or_none : (b : Bool) → b ≡ (b || false)
    or_none true = refl
    or_none false = refl
gathered keywords k set (n ∷ names) h =
    gathered keywords k (union set (flags_named keywords n)) names h
    ∙ ap (λ (b : Bool). b || list_any (λ n. has (flags_named keywords n) k) names) (has-union set (flags_named keywords n) k h)
    ∙ or_assoc (has set k) (has (flags_named keywords n) k) (list_any (λ n. has (flags_named keywords n) k) names)

-- ---- tests of what was picked

any_picked : {X Y : Type 0} (t : Y → Bool) (g : X → Y) (p : X → Bool) (xs : List X) → list_any t (map g (filter p xs)) ≡ list_any (λ x. p x && t (g x)) xs
any_picked t g p [] = refl
any_picked {X} {Y} t g p (x ∷ xs) =
    by_test (p x) ∙ ap (λ (b : Bool). (p x && t (g x)) || b) (any_picked t g p xs)
  where
    by_test : (b : Bool) → list_any t (map g (cond b (x ∷ filter p xs) (filter p xs))) ≡ ((b && t (g x)) || list_any t (map g (filter p xs)))
    by_test true = refl
    by_test false = refl

any_same : {X : Type 0} (t u : X → Bool) (xs : List X) → All (λ x. t x ≡ u x) xs → list_any t xs ≡ list_any u xs
any_same t u [] h = refl
any_same {X} t u (x ∷ xs) h =
    ap (λ (b : Bool). b || list_any t xs) (All-head (λ (x : X). t x ≡ u x) x xs h)
    ∙ ap (λ (b : Bool). u x || b) (any_same t u xs (All-tail (λ (x : X). t x ≡ u x) x xs h))

-- a flag at this place, and the set has it
pulled_out : {X : Type 0} (p : X → ℕ) (flags k : ℕ) (xs : List X) → list_any (λ x. has flags (p x) && eqb k (p x)) xs ≡ (has flags k && list_any (λ x. eqb k (p x)) xs)
pulled_out p flags k [] = none (has flags k)
  where
    none : (b : Bool) → false ≡ (b && false)
    none true = refl
    none false = refl
pulled_out {X} p flags k (x ∷ xs) =
    ap (λ (b : Bool). (has flags (p x) && eqb k (p x)) || b) (pulled_out p flags k xs)
    ∙ elim (cases_eq k (p x)) [
      | inl same ↦
          ap (λ (n : ℕ). (has flags n && eqb k (p x)) || (has flags k && list_any (λ x. eqb k (p x)) xs)) (sym same)
          ∙ ap (λ (b : Bool). (has flags k && b) || (has flags k && list_any (λ x. eqb k (p x)) xs)) (eq-eqb k (p x) same)
          ∙ taken (has flags k) (list_any (λ x. eqb k (p x)) xs)
          ∙ ap (λ (b : Bool). has flags k && (b || list_any (λ x. eqb k (p x)) xs)) (sym (eq-eqb k (p x) same))
      | inr apart ↦
          ap (λ (b : Bool). (has flags (p x) && b) || (has flags k && list_any (λ x. eqb k (p x)) xs)) (differ k (p x) apart)
          ∙ passed (has flags (p x)) (has flags k && list_any (λ x. eqb k (p x)) xs)
          ∙ ap (λ (b : Bool). has flags k && (b || list_any (λ x. eqb k (p x)) xs)) (sym (differ k (p x) apart))
    ]
  where
    differ : (a b : ℕ) → a ≢ b → eqb a b ≡ false
    differ a b apart = grind (arith, nat_tests)

    taken : (a b : Bool) → ((a && true) || (a && b)) ≡ (a && (true || b))
    taken true b = refl
    taken false b = refl

    passed : (a b : Bool) → ((a && false) || b) ≡ b
    passed true b = refl
    passed false b = refl

-- ---- each name is that of its flag

six_named : (keywords : List Keyword) (flag : Flag) → flags_named keywords (imap_name flag) ≡ 2 ^ place flag
unfolding flags_named
six_named keywords Draft = refl
six_named keywords Flagged = refl
six_named keywords Forwarded = refl
six_named keywords Answered = refl
six_named keywords Seen = refl
six_named keywords Deleted = refl

lower_same : (bytes : List ℕ) → str_eq_ignore_ascii_case bytes bytes ≡ true
lower_same bytes = bytes_same (str_to_ascii_lowercase bytes)
  where
    bytes_same : (xs : List ℕ) → pointwise nat_eq xs xs ≡ true
    bytes_same [] = refl
    bytes_same (x ∷ xs) = ap (λ (b : Bool). b && pointwise nat_eq xs xs) (eq-eqb x x refl) ∙ bytes_same xs

found : (front : List Keyword) (k : Keyword) (back : List Keyword) → All (λ x. has_name k.name x ≡ false) front → find (has_name k.name) (front ++ k ∷ back) ≡ Some k
found [] k back h = ap (λ (b : Bool). cond b (Some k) (find (has_name k.name) back)) (lower_same k.name)
found (x ∷ front) k back h =
    ap (λ (b : Bool). cond b (Some x) (find (has_name k.name) (front ++ k ∷ back))) (All-head (λ (x : Keyword). has_name k.name x ≡ false) x front h)
    ∙ found front k back (All-tail (λ (x : Keyword). has_name k.name x ≡ false) x front h)

-- such a name names none of the six
names_none : (name : List ℕ) → is_keyword_name name ≡ true → flag_named name ≡ None
names_none name h = by_test (flag_named name) (and_parts _ _ h).1
  where
    by_test : (o : Option Flag) → is_none o ≡ true → o ≡ None
    by_test None h = refl
    by_test (Some flag) h = absurd (false≢true h)

keyword_is : (keywords : List Keyword) (k : Keyword) → is_keyword_name k.name ≡ true → find (has_name k.name) keywords ≡ Some k → flags_named keywords k.name ≡ 2 ^ place_of k.letter
unfolding flags_named
keyword_is keywords k name there =
    ap (λ (o : Option Flag). named_by keywords o k.name) (names_none k.name name) ∙ ap (λ (o : Option Keyword). set_of (option_map (λ x. x.letter) o)) there

-- ---- pairs

pairs_head : {A : Type 0} (R : A → A → Type 0) (x : A) (xs : List A) → AllPairs R (x ∷ xs) → All (R x) xs
pairs_head R x xs h = λ i d below. h 0 (suc i) d (omega arith) (omega (arith, below))

pairs_tail : {A : Type 0} (R : A → A → Type 0) (x : A) (xs : List A) → AllPairs R (x ∷ xs) → AllPairs R xs
pairs_tail R x xs h = λ i j d less below. h (suc i) (suc j) d (omega (arith, less)) (omega (arith, below))

in_middle : {A : Type 0} (P : A → Type 0) (xs : List A) (k : A) (ys : List A) → All P (xs ++ k ∷ ys) → P k
in_middle P [] k ys h = All-head P k ys h
in_middle P (x ∷ xs) k ys h = in_middle P xs k ys (All-tail P x (xs ++ k ∷ ys) h)

abbrev Apart : Keyword → Keyword → Type 0
Apart a b = has_name b.name a ≡ false

before_it : (front : List Keyword) (k : Keyword) (back : List Keyword) → AllPairs Apart (front ++ k ∷ back) → All (λ x. has_name k.name x ≡ false) front
before_it [] k back h = All-nil (λ (x : Keyword). has_name k.name x ≡ false)
before_it (x ∷ front) k back h =
    All-cons (λ (x : Keyword). has_name k.name x ≡ false) x front
    (in_middle (Apart x) front k back (pairs_head Apart x (front ++ k ∷ back) h))
    (before_it front k back (pairs_tail Apart x (front ++ k ∷ back) h))

-- ---- keywords of a map

module _ (keywords : List Keyword) (m : IsMap keywords) where
  abbrev Named : Keyword → Type 0
  Named k = flags_named keywords k.name ≡ 2 ^ place_of k.letter

  named_from : (front back : List Keyword) → front ++ back ≡ keywords → All Named back
  named_from front [] e = All-nil Named
  named_from front (k ∷ back) e =
      let apart : AllPairs Apart (front ++ k ∷ back) = subst (λ (l : List Keyword). AllPairs Apart l) (sym e) m.apart in
      let names : All (λ (k : Keyword). is_keyword_name k.name ≡ true) (front ++ k ∷ back) = subst (λ (l : List Keyword). All (λ (k : Keyword). is_keyword_name k.name ≡ true) l) (sym e) m.names in
      let there : find (has_name k.name) keywords ≡ Some k = subst (λ (l : List Keyword). find (has_name k.name) l ≡ Some k) e (found front k back (before_it front k back apart)) in
      All-cons Named k back (keyword_is keywords k (in_middle (λ (k : Keyword). is_keyword_name k.name ≡ true) front k back names) there)
      (named_from (front ++ k ∷ []) back (append_assoc front (k ∷ []) back ∙ e))

  weaker : {X : Type 0} (P Q : X → Type 0) → ((x : X) → P x → Q x) → (xs : List X) → All P xs → All Q xs
  weaker P Q f [] h = All-nil Q
  weaker P Q f (x ∷ xs) h = All-cons Q x xs (f x (All-head P x xs h)) (weaker P Q f xs (All-tail P x xs h))

  every : {X : Type 0} (Q : X → Type 0) → ((x : X) → Q x) → (xs : List X) → All Q xs
  every Q f [] = All-nil Q
  every Q f (x ∷ xs) = All-cons Q x xs (f x) (every Q f xs)

  six_read : (flags k : ℕ) → list_any (λ n. has (flags_named keywords n) k) (map imap_name (filter (λ flag. has flags (place flag)) written_order))
      ≡ (has flags k && list_any (λ flag. eqb k (place flag)) written_order)
  six_read flags k =
      any_picked (λ (n : List ℕ). has (flags_named keywords n) k) imap_name (λ (flag : Flag). has flags (place flag)) written_order
      ∙ any_same (λ (flag : Flag). has flags (place flag) && has (flags_named keywords (imap_name flag)) k) (λ (flag : Flag). has flags (place flag) && eqb k (place flag)) written_order
      (every (λ (flag : Flag). (has flags (place flag) && has (flags_named keywords (imap_name flag)) k) ≡ (has flags (place flag) && eqb k (place flag)))
      (λ flag. ap (λ (n : ℕ). has flags (place flag) && has n k) (six_named keywords flag) ∙ ap (λ (b : Bool). has flags (place flag) && b) (has-pow (place flag) k)) written_order)
      ∙ pulled_out place flags k written_order

  keywords_read : (flags k : ℕ) → list_any (λ n. has (flags_named keywords n) k) (map (λ (x : Keyword). x.name) (filter (λ (x : Keyword). has flags (place_of x.letter)) keywords))
      ≡ (has flags k && list_any (λ (x : Keyword). eqb k (place_of x.letter)) keywords)
  keywords_read flags k =
      any_picked (λ (n : List ℕ). has (flags_named keywords n) k) (λ (x : Keyword). x.name) (λ (x : Keyword). has flags (place_of x.letter)) keywords
      ∙ any_same (λ (x : Keyword). has flags (place_of x.letter) && has (flags_named keywords x.name) k) (λ (x : Keyword). has flags (place_of x.letter) && eqb k (place_of x.letter)) keywords
      (weaker Named (λ (x : Keyword). (has flags (place_of x.letter) && has (flags_named keywords x.name) k) ≡ (has flags (place_of x.letter) && eqb k (place_of x.letter)))
      (λ x e. ap (λ (n : ℕ). has flags (place_of x.letter) && has n k) e ∙ ap (λ (b : Bool). has flags (place_of x.letter) && b) (has-pow (place_of x.letter) k)) keywords
      (named_from [] keywords refl))
      ∙ pulled_out (λ (x : Keyword). place_of x.letter) flags k keywords

both_parts : (a b c : Bool) → ((a && b) || (a && c)) ≡ (a && (b || c))
both_parts true b c = refl
both_parts false b c = refl

pub read_again : (keywords : List Keyword) (flags k : ℕ) → IsMap keywords → k < FLAGS → has (named_set keywords (names_of keywords flags)) k ≡ (has flags k && is_known keywords k)
read_again keywords flags k m h =
    let t : List ℕ → Bool = λ n. has (flags_named keywords n) k in
    gathered keywords k 0 (names_of keywords flags) h
    ∙ ap (λ (b : Bool). b || list_any t (names_of keywords flags)) (has-zero k)
    ∙ list_any-append t (map imap_name (filter (λ (flag : Flag). has flags (place flag)) written_order)) (map (λ (x : Keyword). x.name) (filter (λ (x : Keyword). has flags (place_of x.letter)) keywords))
    ∙ ap (λ (b : Bool). b || list_any t (map (λ (x : Keyword). x.name) (filter (λ (x : Keyword). has flags (place_of x.letter)) keywords))) (six_read keywords m flags k)
    ∙ ap (λ (b : Bool). (has flags k && list_any (λ flag. eqb k (place flag)) written_order) || b) (keywords_read keywords m flags k)
    ∙ both_parts (has flags k) (list_any (λ flag. eqb k (place flag)) written_order) (list_any (λ (x : Keyword). eqb k (place_of x.letter)) keywords)

pub fold-lt : (keywords : List Keyword) (set : ℕ) (names : List (List ℕ)) → set < 2 ^ FLAGS → fold (with_named keywords) set names < 2 ^ FLAGS
fold-lt keywords set [] h = h
fold-lt keywords set (n ∷ names) h = fold-lt keywords (union set (flags_named keywords n)) names (union-lt set (flags_named keywords n))

pub read_same : (keywords : List Keyword) (flags : ℕ) → IsMap keywords → IsWithin keywords flags → named_set keywords (names_of keywords flags) ≡ flags
read_same keywords flags m w =
    set_from_flags (named_set keywords (names_of keywords flags)) flags (fold-lt keywords 0 (names_of keywords flags) (lit< tt)) w.set
    (λ k h. read_again keywords flags k m h ∙ elim (cases_Bool (has flags k)) [
      | inl there ↦ ap (λ (b : Bool). b && is_known keywords k) there ∙ w.known k h there ∙ sym there
      | inr none ↦ ap (λ (b : Bool). b && is_known keywords k) none ∙ sym none
    ])
