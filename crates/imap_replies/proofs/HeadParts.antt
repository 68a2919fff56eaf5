-- The word or number after `* ` as a part of a grammar.
use Rattle.std.proofs.Common.{◌≡◌, ℕ, ◌+◌, ◌*◌, ◌-◌, ◌<◌, ◌≤◌, Bool, true, false, not, cond, eqb, ltb, ◌&&◌, ◌||◌, List, [], ◌∷◌, ◌++◌, length, map, Option, None, Some, Result, Ok, Err, refl, sym, ap, subst, ◌∙◌, inl, inr, arith}
use Rattle.std.specs.List.{list_all}
use Rattle.std.proofs.lemmas.Bool.{cases_Bool, true≢false, ltb-true, ltb-false, lt-ltb, eqb-true, eq-eqb, and_parts, and_from}
use Rattle.std.proofs.lemmas.Bool.Decides.{nat_tests}
use Rattle.std.proofs.lemmas.List.{append-nil, length-append}
use Rattle.wire_reader.specs.declared.side.Speaker.{Speaker}
use Rattle.wire_reader.specs.declared.side.Speaker.TheVariants.{Replies}
use Rattle.wire_reader.specs.declared.stop.Kind.{Kind}
use Rattle.wire_reader.specs.declared.stop.Kind.TheVariants.{Syntax}
use Rattle.wire_reader.specs.declared.stop.Stop.{Stop}
use Rattle.wire_reader.specs.Spelling.{upper, is_digit}
use Rattle.wire_reader.specs.Literal.{value, Plainly}
use Rattle.wire_reader.proofs.Reader.{Open, stops, Reader}
use Rattle.wire_reader.proofs.LengthSteps.{digit_is}
use Rattle.wire_reader.proofs.Part.{Part, same_part}
use Rattle.wire_tokens.specs.Atoms.{is_atom_byte}
use Rattle.wire_tokens.specs.Numbers.{NumberText, number_at}
use Rattle.wire_tokens.proofs.NumberParts.{number_part}
use Rattle.imap_replies.specs.declared.word.ReplyWord.{ReplyWord}
use Rattle.imap_replies.specs.declared.word.ReplyWord.TheVariants as words
use Rattle.imap_replies.specs.declared.head.Head.{Head}
use Rattle.imap_replies.specs.declared.head.Head.TheVariants as heads
use Rattle.imap_replies.specs.Words.{reply_word, reply_words, find_reply_word}
use Rattle.imap_replies.specs.Others.{IsWord}
use Rattle.imap_replies.specs.Heads.{HeadText, head_fits, head_go, is_digits, number_read, word_head, head_of, head_at}
use Rattle.imap_replies.proofs.WordLemmas.{finds, found, word_each, word_long, word_digits}
use Rattle.imap_replies.proofs.Decided.{Decided, Text, completed, decided_part}
use Rattle.wire_reader.proofs.PartFilled.{value_le}

-- ---- what fits

abbrev pub Fits : List ℕ → Type 0
Fits t = head_fits t ≡ true

-- at most 255 bytes, and fewer of digits alone
pub fits_parts : (t : List ℕ) → Fits t → (length t ≤ 255) × (list_all is_digit t ≡ true → length t < 255)
fits_parts t h =
    elim (cases_Bool (ltb (length t) 255)) [
      | inl e ↦ (let l = ltb-true _ _ e in omega (arith, l), λ _. ltb-true _ _ e)
      | inr e ↦
          let p = and_parts (eqb (length t) 255) (not (list_all is_digit t)) (sym (ap (λ (x : Bool). x || (eqb (length t) 255 && not (list_all is_digit t))) e) ∙ h) in
          (let l = eqb-true _ _ p.0 in omega (arith, l), λ d. absurd (true≢false (sym p.1 ∙ ap not d)))
    ]

fits_short : (t : List ℕ) → length t < 255 → Fits t
fits_short t l = ap (λ (x : Bool). x || (eqb (length t) 255 && not (list_all is_digit t))) (lt-ltb (length t) 255 l)

pub fits_letters : (t : List ℕ) → length t ≤ 255 → list_all is_digit t ≡ false → Fits t
fits_letters t l d =
    elim (cases_Bool (ltb (length t) 255)) [
      | inl e ↦ fits_short t (ltb-true _ _ e)
      | inr e ↦
          ap (λ (x : Bool). x || (eqb (length t) 255 && not (list_all is_digit t))) e
          ∙ and_from _ _ (eq-eqb _ _ (let m = ltb-false _ _ e in omega (arith, l, m))) (ap not d)
    ]

-- text that is not all digits, whichever test says so
pub letters : (t : List ℕ) → Fits t → is_digits t ≡ false → list_all is_digit t ≡ false
letters t f h =
    elim (cases_Bool (list_all is_digit t)) [
      | inl d ↦ absurd (true≢false (sym (and_from _ _ (lt-ltb (length t) 255 ((fits_parts t f).1 d)) d) ∙ h))
      | inr d ↦ d
    ]

pub not_digits : (t : List ℕ) → list_all is_digit t ≡ false → is_digits t ≡ false
not_digits t d =
    elim (cases_Bool (is_digits t)) [
      | inl e ↦ absurd (true≢false (sym (and_parts _ _ e).1 ∙ d))
      | inr e ↦ e
    ]

abbrev go_case : List ℕ → ℕ → Bool → Result (List ℕ) Kind
go_case s b t = cond t (Ok (s ++ b ∷ [])) (Err Syntax)

pub went : (s : List ℕ) (b : ℕ) (t : List ℕ) → head_go s b ≡ Ok t → (s ++ b ∷ [] ≡ t) × Fits t
went s b t h =
    elim (cases_Bool (head_fits (s ++ b ∷ []))) [
      | inl e ↦ let read : go_case s b true ≡ Ok t = sym (ap (go_case s b) e) ∙ h in let same : s ++ b ∷ [] ≡ t = cc in (same, subst Fits same e)
      | inr e ↦ let read : go_case s b false ≡ Ok t = sym (ap (go_case s b) e) ∙ h in absurd cc
    ]

pub goes : (s : List ℕ) (b : ℕ) → Fits (s ++ b ∷ []) → head_go s b ≡ Ok (s ++ b ∷ [])
goes s b f = ap (go_case s b) f

pub front : (s t : List ℕ) → Fits (s ++ t) → Fits s
front s [] f = subst Fits (append-nil s) f
front s (c ∷ t) f = let p = fits_parts (s ++ c ∷ t) f in let l = p.0 in fits_short s (omega (arith, l, length-append s (c ∷ t)))

syntax : (s : List ℕ) (b : ℕ) (k : Kind) → head_go s b ≡ Err k → k ≡ Syntax
syntax s b k h =
    elim (cases_Bool (head_fits (s ++ b ∷ []))) [
      | inl e ↦ let read : go_case s b true ≡ Err k = sym (ap (go_case s b) e) ∙ h in absurd cc
      | inr e ↦ let read : go_case s b false ≡ Err k = sym (ap (go_case s b) e) ∙ h in cc
    ]

-- ---- what it is

abbrev head_case : List ℕ → Bool → Option Head
head_case t d = cond d (number_read (number_at (t ++ 32 ∷ []))) (Some (word_head t (find_reply_word t)))

head_is : (t : List ℕ) → 0 < length t → head_of t ≡ head_case t (is_digits t)
head_is [] pos = absurd (omega (arith, pos))
head_is (b ∷ bs) pos = refl

pub head_number : (t : List ℕ) → 0 < length t → is_digits t ≡ true → head_of t ≡ number_read (number_at (t ++ 32 ∷ []))
head_number t pos d = head_is t pos ∙ ap (head_case t) d

pub head_word : (t : List ℕ) → 0 < length t → list_all is_digit t ≡ false → head_of t ≡ Some (word_head t (find_reply_word t))
head_word t pos d = head_is t pos ∙ ap (head_case t) (not_digits t d)

abbrev T : List ℕ → Head → List ℕ → Type 0
T s a t = Text head_go head_of Fits went goes front s a t

all_append : (s : List ℕ) → list_all is_digit (s ++ 88 ∷ []) ≡ false
all_append [] = refl
all_append (b ∷ bs) = and_false (is_digit b) (all_append bs)
  where
    and_false : {y : Bool} (x : Bool) → y ≡ false → (x && y) ≡ false
    and_false true h = h
    and_false false h = refl

longer : (s : List ℕ) → length s < 255 → (z : List ℕ) × (a : Head) × T s a z
longer s l =
    completed head_go head_of Fits went goes front s (word_head (s ++ 88 ∷ []) (find_reply_word (s ++ 88 ∷ [])))
    (fits_letters (s ++ 88 ∷ []) (omega (arith, l, length-append s (88 ∷ []))) (all_append s))
    (head_word (s ++ 88 ∷ []) (omega (arith, length-append s (88 ∷ []))) (all_append s))

completes_by : (s : List ℕ) (o : Option Head) → length s < 255 → head_of s ≡ o → (z : List ℕ) × (a : Head) × T s a z
completes_by s None l h = longer s l
completes_by s (Some a) l h = ([], a, h)

completes : (s : List ℕ) → (z : List ℕ) × (a : Head) × T s a z
completes s =
    elim (cases_Bool (is_digits s)) [
      | inl d ↦ completes_by s (head_of s) (ltb-true _ _ (and_parts _ _ d).0) refl
      | inr d ↦ by_empty s d
    ]
  where
    by_empty : (s : List ℕ) → is_digits s ≡ false → (z : List ℕ) × (a : Head) × T s a z
    by_empty [] d = longer [] (omega arith)
    by_empty (b ∷ bs) d = ([], word_head (b ∷ bs) (find_reply_word (b ∷ bs)), ap (head_case (b ∷ bs)) d)

-- ---- digits alone

pub digit_atom : (b : ℕ) → is_digit b ≡ true → is_atom_byte b ≡ true
digit_atom b h = grind (arith, nat_tests)

digits_atom : (t : List ℕ) → list_all is_digit t ≡ true → list_all is_atom_byte t ≡ true
digits_atom [] h = refl
digits_atom (b ∷ bs) h = let p = and_parts _ _ h in and_from _ _ (digit_atom b p.0) (digits_atom bs p.1)

-- where digits end
same_digits : (a text rest : List ℕ) → list_all is_digit a ≡ true → list_all is_digit text ≡ true → stops (Open is_digit) rest ≡ true → (z : List ℕ) → stops (Open is_digit) z ≡ true → a ++ z ≡ text ++ rest → a ≡ text
same_digits [] [] rest d e s z t h = refl
same_digits [] (c ∷ text) rest d e s [] t h = absurd cc
same_digits [] (c ∷ text) rest d e s (y ∷ z) t h =
    let same : y ≡ c = cc in
    absurd (true≢false (sym t ∙ ap not (ap is_digit same ∙ (and_parts _ _ e).0)))
same_digits (b ∷ a) [] [] d e s z t h = absurd cc
same_digits (b ∷ a) [] (c ∷ rest) d e s z t h =
    let same : c ≡ b = cc in
    absurd (true≢false (sym s ∙ ap not (ap is_digit same ∙ (and_parts _ _ d).0)))
same_digits (b ∷ a) (c ∷ text) rest d e s z t h =
    let first : b ≡ c = cc in
    let later : a ++ z ≡ text ++ rest = cc in
    ap (λ (x : ℕ). x ∷ a) first ∙ ap (λ (x : List ℕ). c ∷ x) (same_digits a text rest (and_parts _ _ d).1 (and_parts _ _ e).1 s z t later)

number_reader : Reader (Open is_digit) NumberText number_at
number_reader = (number_part {side = Replies}).reader

-- what digits give with one byte or another after them
pub number_of : (t z : List ℕ) (x : ℕ × List ℕ) → list_all is_digit t ≡ true → stops (Open is_digit) z ≡ true → number_at (t ++ z) ≡ Ok x → NumberText (x.0) t
number_of t z x d s h =
    let k = number_reader.sound (t ++ z) x.0 x.1 h in
    subst (NumberText x.0) (sym (same_digits t k.text x.1 d k.spelled.0.each k.stop z s k.parts)) k.spelled

pub number_again : (n : ℕ) (t z : List ℕ) → NumberText n t → stops (Open is_digit) z ≡ true → number_at (t ++ z) ≡ Ok (n, z)
number_again n t z h s = number_reader.complete n t z h s

-- a number of 32 bits has no more than ten digits
value_long : (v : ℕ) (ds : List ℕ) → 0 < v → 10 ≤ length ds → 10000000000 ≤ value v ds
value_long v (a ∷ b ∷ c ∷ d ∷ e ∷ f ∷ g ∷ h ∷ i ∷ j ∷ ds) pos l =
    let r = value_le ds (10 * (10 * (10 * (10 * (10 * (10 * (10 * (10 * (10 * (10 * v + (a - 48)) + (b - 48)) + (c - 48)) + (d - 48)) + (e - 48)) + (f - 48)) + (g - 48)) + (h - 48)) + (i - 48)) + (j - 48)) in
    omega (arith, r, pos)
value_long v ds pos l = absurd (omega (arith, l))

number_short : (n : ℕ) (t : List ℕ) → NumberText n t → length t < 255
number_short n [] h = omega arith
number_short n (d ∷ ds) h = elim (cases_Bool (ltb (length ds) 10)) [
  | inl e ↦ (let l = ltb-true _ _ e in omega (arith, l))
  | inr e ↦
      let l = ltb-false _ _ e in
      let range = digit_is d (and_parts (is_digit d) (list_all is_digit ds) h.0.each).0 in
      let first : d ≡ 48 → ⊥ = λ z. (let none : length ds ≡ 0 = ap length (h.0.plain z) in omega (arith, none, l)) in
      let long = value_long (10 * 0 + (d - 48)) ds (omega (arith, first, range.0)) l in
      absurd (omega (arith, long, h.0.is, h.1))
]

-- ---- the words

raised : (k : ReplyWord) → map upper (reply_word k) ≡ reply_word k
raised words.Ok = refl
raised words.No = refl
raised words.Bad = refl
raised words.Bye = refl
raised words.Preauth = refl
raised words.Capability = refl
raised words.Enabled = refl
raised words.List = refl
raised words.Flags = refl

finds_it : (k : ReplyWord) → find_reply_word (reply_word k) ≡ Some k
finds_it words.Ok = refl
finds_it words.No = refl
finds_it words.Bad = refl
finds_it words.Bye = refl
finds_it words.Preauth = refl
finds_it words.Capability = refl
finds_it words.Enabled = refl
finds_it words.List = refl
finds_it words.Flags = refl

record IsWordOfLetters (w : List ℕ) : Type 0 where
  each : list_all is_atom_byte w ≡ true
  letters : list_all is_digit w ≡ false
  some : ltb 0 (length w) ≡ true
  most : ltb (length w) 255 ≡ true

word_is : (k : ReplyWord) → IsWordOfLetters (reply_word k)
word_is words.Ok = record { each = refl; letters = refl; some = refl; most = refl }
word_is words.No = record { each = refl; letters = refl; some = refl; most = refl }
word_is words.Bad = record { each = refl; letters = refl; some = refl; most = refl }
word_is words.Bye = record { each = refl; letters = refl; some = refl; most = refl }
word_is words.Preauth = record { each = refl; letters = refl; some = refl; most = refl }
word_is words.Capability = record { each = refl; letters = refl; some = refl; most = refl }
word_is words.Enabled = record { each = refl; letters = refl; some = refl; most = refl }
word_is words.List = record { each = refl; letters = refl; some = refl; most = refl }
word_is words.Flags = record { each = refl; letters = refl; some = refl; most = refl }

-- ---- what it is, both ways

number_to : (t : List ℕ) (o : Result (ℕ × List ℕ) Stop) (a : Head) → list_all is_digit t ≡ true → number_at (t ++ 32 ∷ []) ≡ o → number_read o ≡ Some a → HeadText a t
number_to t (Ok x) a d e h = let same : heads.Number x.0 ≡ a = cc in subst (λ (y : Head). HeadText y t) same (number_of t (32 ∷ []) x d refl e)
number_to t (Err s) a d e h = absurd (none_not_some h)
  where
    none_not_some : (let o : Option Head = None in o ≡ Some a) → ⊥
    none_not_some h = cc

word_to : (t : List ℕ) (w : Option ReplyWord) (a : Head) → IsWord t → find_reply_word t ≡ w → word_head t w ≡ a → HeadText a t
word_to t None a i e h = subst (λ (y : Head). HeadText y t) h (refl, record { word = i; other = e })
word_to t (Some k) a i e h = subst (λ (y : Head). HeadText y t) h (found reply_word raised reply_words k t e)

none_of : (a : Head) → (let o : Option Head = None in o ≡ Some a) → ⊥
none_of a h = cc

some_of : (a b : Head) → Some a ≡ Some b → a ≡ b
some_of a b h = cc

to_head : (a : Head) (t : List ℕ) → Decided Fits head_of a t → HeadText a t
to_head a [] h = absurd (none_of a h.is)
to_head a (b ∷ bs) h =
    elim (cases_Bool (is_digits (b ∷ bs))) [
      | inl d ↦ number_to (b ∷ bs) (number_at ((b ∷ bs) ++ 32 ∷ [])) a (and_parts _ _ d).1 refl (sym (ap (head_case (b ∷ bs)) d) ∙ h.is)
      | inr d ↦
          word_to (b ∷ bs) (find_reply_word (b ∷ bs)) a
          (record { atom = record { each = h.each; some = omega arith; most = (fits_parts (b ∷ bs) h.fits).0 }; letters = letters (b ∷ bs) h.fits d })
          refl (some_of _ _ (sym (ap (head_case (b ∷ bs)) d) ∙ h.is))
    ]

from_head : (a : Head) (t : List ℕ) → HeadText a t → Decided Fits head_of a t
from_head (heads.Number n) t h =
    let l = number_short n t h in
    let d = h.0.each in
    record {
      each = digits_atom t d;
      fits = fits_short t l;
      is = head_number t (some_digit t h.0.plain) (and_from _ _ (lt-ltb (length t) 255 l) d) ∙ ap number_read (number_again n t (32 ∷ []) h refl);
    }
  where
    some_digit : (t : List ℕ) → Plainly t → 0 < length t
    some_digit [] p = absurd p
    some_digit (b ∷ bs) p = omega arith
from_head (heads.Known k) t h =
    let w = word_is k in
    let l = word_long (reply_word k) t h in
    let pos : 0 < length t = omega (arith, l, ltb-true _ _ w.some) in
    let most : length t < 255 = omega (arith, l, ltb-true _ _ w.most) in
    let d : list_all is_digit t ≡ false = not_all (word_digits (reply_word k) t h) w.letters in
    record {
      each = word_each (reply_word k) t h w.each;
      fits = fits_short t most;
      is = head_word t pos d ∙ ap (λ (o : Option ReplyWord). Some (word_head t o)) (finds reply_word reply_words k t h ∙ finds_it k);
    }
  where
    not_all : {x y : Bool} → (x ≡ true → y ≡ true) → y ≡ false → x ≡ false
    not_all {x} {y} f n = elim (cases_Bool x) [ inl e ↦ absurd (true≢false (sym (f e) ∙ n)) | inr e ↦ e ]
from_head (heads.Other a) t h =
    let o = h.1 in
    let i = o.word in
    subst (λ (x : List ℕ). Decided Fits head_of (heads.Other a) x) (sym h.0)
    (record {
      each = i.atom.each;
      fits = fits_letters a i.atom.most i.letters;
      is = head_word a i.atom.some i.letters ∙ ap (λ (w : Option ReplyWord). Some (word_head a w)) o.other;
    })

pub head_part : {side : Speaker} → Part side true (Open is_atom_byte) HeadText head_at
head_part {side} = same_part to_head from_head (decided_part head_go head_of Fits went goes front refl syntax completes)
