-- Words at the front of a reply.
use Rattle.std.proofs.Common.{◌≡◌, inl, inr, ℕ, suc, ◌+◌, Bool, true, false, cond, List, [], ◌∷◌, ◌++◌, length, take, drop, map, codes, refl, sym, ap, ◌∙◌, arith, append_assoc}
use Rattle.std.specs.Prelude.{unwrap_or}
use Rattle.std.specs.Char.{to_ascii_lowercase}
use Rattle.std.specs.List.{position_from}
use Rattle.std.proofs.lemmas.Bool.{cases_Bool, false≢true}
use Rattle.std.proofs.lemmas.Bool.Decides.{nat_tests}
use Rattle.link_face.specs.Heads.{is_gap, first_word, after_word, after_space, following, second_word, third_word, is_number, SameWord, SameWords, BeginsAs, BeginsWith, IsUntagged, IsStatus, IsNumbered}

-- ---- where a word ends

nil_not_cons : (b : ℕ) (bs : List ℕ) → [] ≡ b ∷ bs → ⊥
nil_not_cons b bs e = cc

tail_of : (a b : ℕ) (x y : List ℕ) → a ∷ x ≡ b ∷ y → x ≡ y
tail_of a b x y e = cc

pub head_is : (a b : ℕ) (x y : List ℕ) → a ∷ x ≡ b ∷ y → a ≡ b
head_is a b x y e = cc

-- the place of its end, in bytes that follow i others
pub end_is : (bytes : List ℕ) (i : ℕ) → unwrap_or (position_from is_gap i bytes) (i + length bytes) ≡ i + length (first_word bytes)
end_is [] i = refl
end_is (b ∷ bs) i =
    elim (cases_Bool (is_gap b)) [
      | inl e ↦ rw e (omega arith)
      | inr e ↦
          let h : (i + 1) + length bs ≡ i + suc (length bs) = omega arith in
          let k : (i + 1) + length (first_word bs) ≡ i + suc (length (first_word bs)) = omega arith in
          rw e (ap (unwrap_or (position_from is_gap (i + 1) bs)) (sym h) ∙ (end_is bs (i + 1) ∙ k))
    ]

pub word_end : (bytes : List ℕ) → unwrap_or (position_from is_gap 0 bytes) (length bytes) ≡ length (first_word bytes)
word_end bytes =
    let e : length bytes ≡ 0 + length bytes = omega arith in
    let k : 0 + length (first_word bytes) ≡ length (first_word bytes) = omega arith in
    ap (unwrap_or (position_from is_gap 0 bytes)) e ∙ (end_is bytes 0 ∙ k)

pub front_is : (bytes : List ℕ) → take (length (first_word bytes)) bytes ≡ first_word bytes
front_is [] = refl
front_is (b ∷ bs) =
    elim (cases_Bool (is_gap b)) [
      | inl e ↦ rw e refl
      | inr e ↦ rw e (ap (λ (l : List ℕ). b ∷ l) (front_is bs))
    ]

pub rest_is : (bytes : List ℕ) → drop (length (first_word bytes)) bytes ≡ after_word bytes
rest_is [] = refl
rest_is (b ∷ bs) =
    elim (cases_Bool (is_gap b)) [
      | inl e ↦ rw e refl
      | inr e ↦ rw e (rest_is bs)
    ]

-- ---- a word, and bytes after it that begin with none

open_word : (b : ℕ) (bs : List ℕ) → first_word (b ∷ bs) ≡ b ∷ bs → is_gap b ≡ false
open_word b bs e =
    elim (cases_Bool (is_gap b)) [
      | inl g ↦ absurd (nil_not_cons b bs (sym (ap (λ (t : Bool). cond t [] (b ∷ first_word bs)) g) ∙ e))
      | inr g ↦ g
    ]

tail_word : (b : ℕ) (bs : List ℕ) → first_word (b ∷ bs) ≡ b ∷ bs → first_word bs ≡ bs
tail_word b bs e = tail_of b b (first_word bs) bs (sym (ap (λ (t : Bool). cond t [] (b ∷ first_word bs)) (open_word b bs e)) ∙ e)

pub first_is : (bytes : List ℕ) → first_word (first_word bytes) ≡ first_word bytes
first_is [] = refl
first_is (b ∷ bs) =
    elim (cases_Bool (is_gap b)) [
      | inl e ↦ rw e refl
      | inr e ↦ rw e (rw e (ap (λ (l : List ℕ). b ∷ l) (first_is bs)))
    ]

pub word_first : (word rest : List ℕ) → first_word word ≡ word → first_word rest ≡ [] → first_word (word ++ rest) ≡ word
word_first [] rest w r = r
word_first (b ∷ bs) rest w r =
    ap (λ (t : Bool). cond t [] (b ∷ first_word (bs ++ rest))) (open_word b bs w) ∙ ap (λ (l : List ℕ). b ∷ l) (word_first bs rest (tail_word b bs w) r)

no_word : (rest : List ℕ) → first_word rest ≡ [] → after_word rest ≡ rest
no_word [] r = refl
no_word (b ∷ bs) r =
    elim (cases_Bool (is_gap b)) [
      | inl e ↦ ap (λ (t : Bool). cond t (b ∷ bs) (after_word bs)) e
      | inr e ↦ absurd (nil_not_cons b (first_word bs) (sym r ∙ ap (λ (t : Bool). cond t [] (b ∷ first_word bs)) e))
    ]

pub word_after : (word rest : List ℕ) → first_word word ≡ word → first_word rest ≡ [] → after_word (word ++ rest) ≡ rest
word_after [] rest w r = no_word rest r
word_after (b ∷ bs) rest w r =
    ap (λ (t : Bool). cond t (b ∷ (bs ++ rest)) (after_word (bs ++ rest))) (open_word b bs w) ∙ word_after bs rest (tail_word b bs w) r

pub word_following : (word rest : List ℕ) → first_word word ≡ word → following (word ++ 32 ∷ rest) ≡ rest
word_following word rest w = ap after_space (word_after word (32 ∷ rest) w refl)

-- what is appended after it
pub still_none : (rest more : List ℕ) → first_word rest ≡ [] → first_word more ≡ [] → first_word (rest ++ more) ≡ []
still_none [] more r m = m
still_none (b ∷ bs) more r m =
    elim (cases_Bool (is_gap b)) [
      | inl e ↦ ap (λ (t : Bool). cond t [] (b ∷ first_word (bs ++ more))) e
      | inr e ↦ absurd (nil_not_cons b (first_word bs) (sym r ∙ ap (λ (t : Bool). cond t [] (b ∷ first_word bs)) e))
    ]

-- ---- a word in another case

lower_gap : (b : ℕ) → is_gap (to_ascii_lowercase b) ≡ is_gap b
lower_gap b = grind (arith, nat_tests)

pub same_whole : (x y : List ℕ) → SameWord x y → first_word y ≡ y → first_word x ≡ x
same_whole [] y s w = refl
same_whole (a ∷ x) [] s w = absurd (nil_not_cons (to_ascii_lowercase a) (map to_ascii_lowercase x) (sym s))
same_whole (a ∷ x) (b ∷ y) s w =
    let low : to_ascii_lowercase a ≡ to_ascii_lowercase b = head_is _ _ (map to_ascii_lowercase x) (map to_ascii_lowercase y) s in
    let gap : is_gap a ≡ false = sym (lower_gap a) ∙ (ap is_gap low ∙ (lower_gap b ∙ open_word b y w)) in
    ap (λ (t : Bool). cond t [] (a ∷ first_word x)) gap
    ∙ ap (λ (l : List ℕ). a ∷ l) (same_whole x y (tail_of _ _ (map to_ascii_lowercase x) (map to_ascii_lowercase y) s) (tail_word b y w))

-- ---- two words

not_number : (raw : List ℕ) (A : Type 0) → is_number (second_word raw) ≡ false → is_number (second_word raw) ≡ true → A
not_number raw A f t = absurd (false≢true (sym f ∙ t))

pub two_words : (raw bytes tag word : List ℕ) → tag ≡ first_word raw → SameWord word (second_word raw) → is_number (second_word raw) ≡ false
    → BeginsWith (tag ++ 32 ∷ word) bytes → SameWords raw bytes
two_words raw bytes tag word t w n b =
    let whole : first_word tag ≡ tag = ap first_word t ∙ (first_is raw ∙ sym t) in
    let one : first_word word ≡ word = same_whole word (second_word raw) w (first_is (following raw)) in
    let is : bytes ≡ tag ++ 32 ∷ (word ++ b.rest) = b.parts ∙ append_assoc tag (32 ∷ word) b.rest in
    let second : second_word bytes ≡ word = ap second_word is ∙ (ap first_word (word_following tag (word ++ b.rest) whole) ∙ word_first word b.rest one b.ends) in
    record {
      first = ap first_word is ∙ (word_first tag (32 ∷ (word ++ b.rest)) whole refl ∙ t);
      second = ap (map to_ascii_lowercase) second ∙ w;
      third = not_number raw _ n;
    }

pub three_words : (raw bytes number event word : List ℕ) → IsNumbered raw number event → SameWord word event
    → BeginsWith (codes "* " ++ (number ++ 32 ∷ word)) bytes → SameWords raw bytes
three_words raw bytes number event word h s b =
    let one : first_word number ≡ number = ap first_word h.second ∙ (first_is (following raw) ∙ sym h.second) in
    let event_one : first_word event ≡ event = ap first_word h.third ∙ (first_is (following (following raw)) ∙ sym h.third) in
    let last : first_word word ≡ word = same_whole word event s event_one in
    let is : bytes ≡ 42 ∷ 32 ∷ (number ++ 32 ∷ (word ++ b.rest)) = b.parts ∙ ap (λ (l : List ℕ). 42 ∷ 32 ∷ l) (append_assoc number (32 ∷ word) b.rest) in
    let after : following bytes ≡ number ++ 32 ∷ (word ++ b.rest) = ap following is in
    let second : second_word bytes ≡ number = ap first_word after ∙ word_first number (32 ∷ (word ++ b.rest)) one refl in
    let third : third_word bytes ≡ word =
    ap second_word after ∙ (ap first_word (word_following number (word ++ b.rest) one) ∙ word_first word b.rest last b.ends) in
    record {
      first = ap first_word is ∙ sym h.star;
      second = ap (map to_ascii_lowercase) (second ∙ h.second);
      third = λ _. (second ∙ h.second, ap (map to_ascii_lowercase) third ∙ (s ∙ ap (map to_ascii_lowercase) h.third));
    }

-- ---- texts that begin so

pub begun_status : (tag word old new text : List ℕ) → old ≡ tag ++ 32 ∷ (word ++ 32 ∷ []) → new ≡ old ++ text → BeginsWith (tag ++ 32 ∷ word) new
begun_status tag word old new text o n = record {
  rest = 32 ∷ text;
  parts = n ∙ (ap (λ (l : List ℕ). l ++ text) o
      ∙ (append_assoc tag (32 ∷ (word ++ 32 ∷ [])) text
      ∙ (ap (λ (l : List ℕ). tag ++ 32 ∷ l) (append_assoc word (32 ∷ []) text) ∙ sym (append_assoc tag (32 ∷ word) (32 ∷ text)))));
  ends = refl;
}

pub more_after : (front old new text : List ℕ) → BeginsWith front old → first_word text ≡ [] → new ≡ old ++ text → BeginsWith front new
more_after front old new text b e n = record {
  rest = b.rest ++ text;
  parts = n ∙ (ap (λ (l : List ℕ). l ++ text) b.parts ∙ append_assoc front b.rest text);
  ends = still_none b.rest text b.ends e;
}

-- ---- their word is what the client hears

pub untagged_same : (raw bytes word : List ℕ) → IsUntagged raw word → BeginsWith (codes "* " ++ word) bytes → BeginsAs raw bytes
untagged_same raw bytes word h b = inr (two_words raw bytes (codes "*") word (sym h.star) h.second h.no_number b)

pub status_same : (raw bytes tag word : List ℕ) → IsStatus raw tag word → BeginsWith (tag ++ 32 ∷ word) bytes → BeginsAs raw bytes
status_same raw bytes tag word h b = inr (two_words raw bytes tag word h.first (ap (map to_ascii_lowercase) h.second) h.no_number b)

pub numbered_same : (raw bytes number event word : List ℕ) → IsNumbered raw number event → SameWord word event
    → BeginsWith (codes "* " ++ (number ++ 32 ∷ word)) bytes → BeginsAs raw bytes
numbered_same raw bytes number event word h s b = inr (three_words raw bytes number event word h s b)
