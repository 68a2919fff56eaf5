-- The flags that have a name in IMAP, what is kept of a set, and sets whose flags all have a name.
use Rattle.std.proofs.Common.{lit<, ◌≡◌, ℕ, ◌^◌, ◌<◌, Bool, true, false, cond, eqb, not, List, [], ◌∷◌, find, Option, None, Some, refl, sym, ap, ◌∙◌, arith}
use Rattle.std.specs.Prelude.{◌||◌, ◌&&◌, option_map}
use Rattle.std.specs.List.{list_any, fold}
use Rattle.std.proofs.lemmas.Bool.{and_parts, false≢true}
use Rattle.std.proofs.lemmas.Bool.Decides.{nat_tests}
use Rattle.mailcore.specs.declared.flags.Flag.{Flag}
use Rattle.mailcore.specs.declared.flags.Flag.TheVariants.{Draft, Flagged, Forwarded, Answered, Seen, Deleted}
use Rattle.mailcore.specs.declared.keywords.Keyword.{Keyword}
use Rattle.mailcore.specs.FlagNames.{place, flag_named}
use Rattle.mailcore.specs.FlagSet.{FLAGS, has, minus, union}
use Rattle.mailcore.specs.KeywordNames.{IsMap, IsWithin, flags_named, is_known, kept, known_set, named_by, named_set, names_of, place_of, set_of, with_flag, written_order}
use Rattle.mailcore.proofs.FlagRules.{common-lt, has-common, has-minus, has-union, minus-lt, set_from_flags, union-lt}
use Rattle.mailcore.proofs.FlagLetters.{has-pow, has-zero}
use Rattle.mailcore.proofs.KeywordLemmas.{fold-lt, gathered, or_assoc, read_again}

-- ---- a set grows by the flags at some places

or_none : (b : Bool) → b ≡ (b || false)
or_none true = refl
or_none false = refl

grown : {X : Type 0} (p : X → ℕ) (set k : ℕ) (xs : List X) → k < FLAGS
    → has (fold (λ s x. union s (2 ^ p x)) set xs) k ≡ (has set k || list_any (λ x. eqb k (p x)) xs)
grown p set k [] h = or_none (has set k)
grown {X} p set k (x ∷ xs) h =
    grown p (union set (2 ^ p x)) k xs h
    ∙ ap (λ (b : Bool). b || list_any (λ x. eqb k (p x)) xs) (has-union set (2 ^ p x) k h ∙ ap (λ (b : Bool). has set k || b) (has-pow (p x) k))
    ∙ or_assoc (has set k) (eqb k (p x)) (list_any (λ x. eqb k (p x)) xs)

grown-lt : {X : Type 0} (p : X → ℕ) (set : ℕ) (xs : List X) → set < 2 ^ FLAGS → fold (λ s x. union s (2 ^ p x)) set xs < 2 ^ FLAGS
grown-lt p set [] h = h
grown-lt p set (x ∷ xs) h = grown-lt p (union set (2 ^ p x)) xs (union-lt set (2 ^ p x))

-- ---- the flags that have a name

pub has-known : (keywords : List Keyword) (k : ℕ) → k < FLAGS → has (known_set keywords) k ≡ is_known keywords k
unfolding known_set
has-known keywords k h =
    grown (λ (x : Keyword). place_of x.letter) (fold with_flag 0 written_order) k keywords h
    ∙ ap (λ (b : Bool). b || list_any (λ (x : Keyword). eqb k (place_of x.letter)) keywords)
    (grown place 0 k written_order h ∙ ap (λ (b : Bool). b || list_any (λ flag. eqb k (place flag)) written_order) (has-zero k))

pub known-lt : (keywords : List Keyword) → known_set keywords < 2 ^ FLAGS
unfolding known_set
known-lt keywords = grown-lt (λ (x : Keyword). place_of x.letter) (fold with_flag 0 written_order) keywords (grown-lt place 0 written_order (lit< tt))

pub known-within : (keywords : List Keyword) → IsWithin keywords (known_set keywords)
known-within keywords = record {
  set = known-lt keywords;
  known = λ k h there. sym (has-known keywords k h) ∙ there;
}

-- ---- what is kept of a set

pub kept-lt : (keywords : List Keyword) (flags : ℕ) → kept keywords flags < 2 ^ FLAGS
unfolding kept
kept-lt keywords flags = common-lt flags (known_set keywords)

pub has-kept : (keywords : List Keyword) (flags k : ℕ) → k < FLAGS → has (kept keywords flags) k ≡ (has flags k && is_known keywords k)
unfolding kept
has-kept keywords flags k h = has-common flags (known_set keywords) k h ∙ ap (λ (b : Bool). has flags k && b) (has-known keywords k h)

pub kept-within : (keywords : List Keyword) (flags : ℕ) → IsWithin keywords (kept keywords flags)
kept-within keywords flags = record {
  set = kept-lt keywords flags;
  known = λ k h there. (and_parts _ _ (sym (has-kept keywords flags k h) ∙ there)).1;
}

pub kept-same : (keywords : List Keyword) (flags : ℕ) → IsWithin keywords flags → kept keywords flags ≡ flags
kept-same keywords flags w =
    set_from_flags (kept keywords flags) flags (kept-lt keywords flags) w.set
    (λ k h. has-kept keywords flags k h ∙ all_known (has flags k) (is_known keywords k) (w.known k h))
  where
    all_known : (a b : Bool) → (a ≡ true → b ≡ true) → (a && b) ≡ a
    all_known true b f = f refl
    all_known false b f = refl

pub kept-union : (keywords : List Keyword) (a b : ℕ) → kept keywords (union a b) ≡ union (kept keywords a) (kept keywords b)
kept-union keywords a b =
    set_from_flags (kept keywords (union a b)) (union (kept keywords a) (kept keywords b)) (kept-lt keywords (union a b)) (union-lt (kept keywords a) (kept keywords b))
    (λ k h.
    has-kept keywords (union a b) k h
    ∙ ap (λ (x : Bool). x && is_known keywords k) (has-union a b k h)
    ∙ both (has a k) (has b k) (is_known keywords k)
    ∙ sym (has-union (kept keywords a) (kept keywords b) k h
    ∙ ap (λ (x : Bool). x || has (kept keywords b) k) (has-kept keywords a k h)
    ∙ ap (λ (x : Bool). (has a k && is_known keywords k) || x) (has-kept keywords b k h)))
  where
    both : (x y z : Bool) → ((x || y) && z) ≡ ((x && z) || (y && z))
    both true true true = refl
    both true true false = refl
    both true false true = refl
    both true false false = refl
    both false y z = refl

pub kept-minus : (keywords : List Keyword) (a b : ℕ) → kept keywords (minus a b) ≡ minus (kept keywords a) (kept keywords b)
kept-minus keywords a b =
    set_from_flags (kept keywords (minus a b)) (minus (kept keywords a) (kept keywords b)) (kept-lt keywords (minus a b)) (minus-lt (kept keywords a) (kept keywords b))
    (λ k h.
    has-kept keywords (minus a b) k h
    ∙ ap (λ (x : Bool). x && is_known keywords k) (has-minus a b k h)
    ∙ first_alone (has a k) (has b k) (is_known keywords k)
    ∙ sym (has-minus (kept keywords a) (kept keywords b) k h
    ∙ ap (λ (x : Bool). x && not (has (kept keywords b) k)) (has-kept keywords a k h)
    ∙ ap (λ (x : Bool). (has a k && is_known keywords k) && not x) (has-kept keywords b k h)))
  where
    first_alone : (x y z : Bool) → ((x && not y) && z) ≡ ((x && z) && not (y && z))
    first_alone true true true = refl
    first_alone true true false = refl
    first_alone true false true = refl
    first_alone true false false = refl
    first_alone false y z = refl

-- what is written of a set is read again as what is kept of it
pub read_kept : (keywords : List Keyword) (flags : ℕ) → IsMap keywords → named_set keywords (names_of keywords flags) ≡ kept keywords flags
read_kept keywords flags m =
    set_from_flags (named_set keywords (names_of keywords flags)) (kept keywords flags) (fold-lt keywords 0 (names_of keywords flags) (lit< tt)) (kept-lt keywords flags)
    (λ k h. read_again keywords flags k m h ∙ sym (has-kept keywords flags k h))

-- ---- sets whose flags all have a name

either : (x y z : Bool) → (x ≡ true → z ≡ true) → (y ≡ true → z ≡ true) → (x || y) ≡ true → z ≡ true
either true y z f g h = f refl
either false y z f g h = g h

pub union-within : (keywords : List Keyword) (a b : ℕ) → IsWithin keywords a → IsWithin keywords b → IsWithin keywords (union a b)
union-within keywords a b w v = record {
  set = union-lt a b;
  known = λ k h there. either (has a k) (has b k) (is_known keywords k) (w.known k h) (v.known k h) (sym (has-union a b k h) ∙ there);
}

pub minus-within : (keywords : List Keyword) (a b : ℕ) → IsWithin keywords a → IsWithin keywords (minus a b)
minus-within keywords a b w = record {
  set = minus-lt a b;
  known = λ k h there. w.known k h (and_parts _ _ (sym (has-minus a b k h) ∙ there)).0;
}

or_front : (a b : Bool) → a ≡ true → (a || b) ≡ true
or_front a b h = ap (λ (x : Bool). x || b) h

or_back : (a b : Bool) → b ≡ true → (a || b) ≡ true
or_back true b h = refl
or_back false b h = h

-- each of the six is among those that are written
six_written : (k : ℕ) (flag : Flag) → eqb k (place flag) ≡ true → list_any (λ f. eqb k (place f)) written_order ≡ true
six_written k flag h =
    ap (λ (n : ℕ). list_any (λ f. eqb n (place f)) written_order) (same_number k (place flag) h) ∙ listed flag
  where
    same_number : (a b : ℕ) → eqb a b ≡ true → a ≡ b
    same_number a b h = grind (arith, nat_tests)

    listed : (flag : Flag) → list_any (λ f. eqb (place flag) (place f)) written_order ≡ true
    listed Draft = refl
    listed Flagged = refl
    listed Forwarded = refl
    listed Answered = refl
    listed Seen = refl
    listed Deleted = refl

-- a keyword that was found is one of the map
found_known : (p : Keyword → Bool) (keywords : List Keyword) (k : ℕ) → has (set_of (option_map (λ (x : Keyword). x.letter) (find p keywords))) k ≡ true
    → list_any (λ (x : Keyword). eqb k (place_of x.letter)) keywords ≡ true
found_known p [] k there = absurd (false≢true (sym (has-zero k) ∙ there))
found_known p (x ∷ xs) k there = by_test (p x) (found_known p xs k) there
  where
    by_test : (b : Bool) → (has (set_of (option_map (λ (x : Keyword). x.letter) (find p xs))) k ≡ true → list_any (λ (x : Keyword). eqb k (place_of x.letter)) xs ≡ true)
        → has (set_of (option_map (λ (x : Keyword). x.letter) (cond b (Some x) (find p xs)))) k ≡ true
        → (eqb k (place_of x.letter) || list_any (λ (x : Keyword). eqb k (place_of x.letter)) xs) ≡ true
    by_test true later h = or_front _ _ (sym (has-pow (place_of x.letter) k) ∙ h)
    by_test false later h = or_back _ _ (later h)

-- a name stands for no flag but those that have a name
named_known : (keywords : List Keyword) (name : List ℕ) (k : ℕ) → has (flags_named keywords name) k ≡ true → is_known keywords k ≡ true
unfolding flags_named
named_known keywords name k there = by_flag (flag_named name) there
  where
    by_flag : (o : Option Flag) → has (named_by keywords o name) k ≡ true → is_known keywords k ≡ true
    by_flag (Some flag) h = or_front _ _ (six_written k flag (sym (has-pow (place flag) k) ∙ h))
    by_flag None h = or_back _ _ (found_known _ keywords k h)

pub named-within : (keywords : List Keyword) (names : List (List ℕ)) → IsWithin keywords (named_set keywords names)
named-within keywords names = record {
  set = fold-lt keywords 0 names (lit< tt);
  known = λ k h there.
      one_of k names (sym (gathered keywords k 0 names h ∙ ap (λ (b : Bool). b || list_any (λ n. has (flags_named keywords n) k) names) (has-zero k)) ∙ there);
}
  where
    one_of : (k : ℕ) (names : List (List ℕ)) → list_any (λ n. has (flags_named keywords n) k) names ≡ true → is_known keywords k ≡ true
    one_of k [] h = absurd (false≢true h)
    one_of k (n ∷ names) h = either (has (flags_named keywords n) k) (list_any (λ n. has (flags_named keywords n) k) names) (is_known keywords k) (named_known keywords n k) (one_of k names) h
