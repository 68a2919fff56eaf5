-- Words without case: what is a word of the grammar, and what the search for it finds.
use Rattle.std.proofs.Common.{◌≡◌, ℕ, Bool, true, cond, List, [], ◌∷◌, ◌++◌, length, map, find, Option, None, Some, refl, sym, ap, subst, ◌∙◌, inl, inr, arith}
use Rattle.std.specs.Char.{to_ascii_lowercase, to_ascii_uppercase}
use Rattle.std.specs.Str.{str_eq_ignore_ascii_case, str_to_ascii_lowercase, bytes_eq}
use Rattle.std.specs.List.{list_all}
use Rattle.std.proofs.lemmas.Bool.{cases_Bool, and_parts, and_from}
use Rattle.std.proofs.lemmas.List.{length-map, map-append}
use Rattle.std.proofs.lemmas.Bool.Decides.{nat_tests}
use Rattle.std.proofs.lemmas.Slice.Eq.{bytes_eq-Decides}
use Rattle.std.proofs.lemmas.Str.Ascii.{lowercase-uppercase}
use Rattle.wire_reader.specs.Spelling.{upper, is_digit, Word}
use Rattle.wire_tokens.specs.Atoms.{is_atom_byte}
use Rattle.imap_replies.specs.Words.{spells}

-- a word in any case, in lower case
pub lower_of : (w text : List ℕ) → Word w text → str_to_ascii_lowercase text ≡ str_to_ascii_lowercase w
lower_of w text h = sym (lower_upper text) ∙ ap str_to_ascii_lowercase h
  where
    lower_upper : (t : List ℕ) → map to_ascii_lowercase (map upper t) ≡ map to_ascii_lowercase t
    lower_upper [] = refl
    lower_upper (b ∷ bs) = ap (λ (x : ℕ). x ∷ map to_ascii_lowercase (map upper bs)) (lowercase-uppercase b) ∙ ap (λ (xs : List ℕ). to_ascii_lowercase b ∷ xs) (lower_upper bs)

upper_lower : (c : ℕ) → to_ascii_uppercase (to_ascii_lowercase c) ≡ to_ascii_uppercase c
upper_lower c = grind (arith, nat_tests)

-- bytes that are a word in upper case but for case
pub word_of_lower : (w text : List ℕ) → map upper w ≡ w → str_to_ascii_lowercase text ≡ str_to_ascii_lowercase w → Word w text
word_of_lower w text up h = sym (map_upper_lower text) ∙ ap (map upper) h ∙ map_upper_lower w ∙ up
  where
    map_upper_lower : (t : List ℕ) → map upper (map to_ascii_lowercase t) ≡ map upper t
    map_upper_lower [] = refl
    map_upper_lower (b ∷ bs) = ap (λ (x : ℕ). x ∷ map upper (map to_ascii_lowercase bs)) (upper_lower b) ∙ ap (λ (xs : List ℕ). upper b ∷ xs) (map_upper_lower bs)

bytes_eq-true : (text w : List ℕ) → str_eq_ignore_ascii_case text w ≡ true → str_to_ascii_lowercase text ≡ str_to_ascii_lowercase w
bytes_eq-true text w e = (bytes_eq-Decides (str_to_ascii_lowercase text) (str_to_ascii_lowercase w)).0 e

none_not_some : {K : Type 0} (k : K) → (let o : Option K = None in o ≡ Some k) → ⊥
none_not_some k h = cc

some_is : {K : Type 0} (l k : K) → Some l ≡ Some k → l ≡ k
some_is l k h = cc

module _ {K : Type 0} (word : K → List ℕ) where
  -- the search sees the lower case alone
  pub find_same : (ks : List K) (a b : List ℕ) → str_to_ascii_lowercase a ≡ str_to_ascii_lowercase b → find (spells word a) ks ≡ find (spells word b) ks
  find_same ks a b h = ap (λ (l : List ℕ). find (λ k. bytes_eq l (str_to_ascii_lowercase (word k))) ks) h

  pub finds : (ks : List K) (k : K) (text : List ℕ) → Word (word k) text → find (spells word text) ks ≡ find (spells word (word k)) ks
  finds ks k text h = find_same ks text (word k) (lower_of (word k) text h)

  pub found : ((k : K) → map upper (word k) ≡ word k) → (ks : List K) (k : K) (text : List ℕ) → find (spells word text) ks ≡ Some k → Word (word k) text
  found up [] k text h = absurd (none_not_some k h)
  found up (l ∷ ks) k text h =
      elim (cases_Bool (spells word text l)) [
        | inl e ↦
            let same : l ≡ k = some_is l k (sym (ap (λ (t : Bool). cond t (Some l) (find (spells word text) ks)) e) ∙ h) in
            subst (λ (x : K). Word (word x) text) same (word_of_lower (word l) text (up l) (bytes_eq-true text (word l) e))
        | inr e ↦ found up ks k text (sym (ap (λ (t : Bool). cond t (Some l) (find (spells word text) ks)) e) ∙ h)
      ]

-- ---- the bytes of a word

is_atom_of_upper : (b : ℕ) → is_atom_byte (upper b) ≡ true → is_atom_byte b ≡ true
is_atom_of_upper b h = grind (arith, nat_tests)

is_digit_of_upper : (b : ℕ) → is_digit b ≡ true → is_digit (upper b) ≡ true
is_digit_of_upper b h = grind (arith, nat_tests)

-- a word of atom bytes, in any case
pub word_each : (w text : List ℕ) → Word w text → list_all is_atom_byte w ≡ true → list_all is_atom_byte text ≡ true
word_each w text h each = lowered text (ap (list_all is_atom_byte) h ∙ each)
  where
    lowered : (t : List ℕ) → list_all is_atom_byte (map upper t) ≡ true → list_all is_atom_byte t ≡ true
    lowered [] e = refl
    lowered (b ∷ bs) e = let p = and_parts _ _ e in and_from _ _ (is_atom_of_upper b p.0) (lowered bs p.1)

pub word_long : (w text : List ℕ) → Word w text → length text ≡ length w
word_long w text h = sym (length-map text upper) ∙ ap length h

-- digits alone are the word itself
pub word_digits : (w text : List ℕ) → Word w text → list_all is_digit text ≡ true → list_all is_digit w ≡ true
word_digits w text h each = ap (list_all is_digit) (sym h) ∙ raised text each
  where
    raised : (t : List ℕ) → list_all is_digit t ≡ true → list_all is_digit (map upper t) ≡ true
    raised [] e = refl
    raised (b ∷ bs) e = let p = and_parts _ _ e in and_from _ _ (is_digit_of_upper b p.0) (raised bs p.1)

-- with a byte after it
pub lower_after : (a w : List ℕ) (c : ℕ) → Word w a → str_to_ascii_lowercase (a ++ c ∷ []) ≡ str_to_ascii_lowercase (w ++ c ∷ [])
lower_after a w c h = map-append to_ascii_lowercase a (c ∷ []) ∙ ap (λ (x : List ℕ). x ++ to_ascii_lowercase c ∷ []) (lower_of w a h) ∙ sym (map-append to_ascii_lowercase w (c ∷ []))
