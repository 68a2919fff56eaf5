-- Bytes of which each front that ends at a place begins a reply.
use Rattle.std.proofs.Common.{◌≡◌, ◌≤◌, ℕ, suc, true, false, List, [], ◌∷◌, ◌++◌, inl, inr, sym, ◌∙◌, ap, subst, arith, append_assoc, append-nil, length-append, None}
use Rattle.wire_reader.specs.declared.lexical.Phase.TheVariants.{Plain}
use Rattle.wire_reader.specs.declared.scanner.Scanner.{Scanner}
use Rattle.wire_reader.specs.Lexical.{outside}
use Rattle.wire_reader.specs.Scanning.{start, after, scanned, is_place, place_from, NoPlace}
use Rattle.wire_reader.proofs.Scanned.{scanned-append, no_place}
use Rattle.imap_replies.specs.Replies.{ReplyText}
use Rattle.imap_session.proofs.Apart.{fronts}
use Rattle.imap_session.proofs.Fronts.{outside_front}
use Rattle.imap_link.specs.Fronts.{BeginsReply, BeginsAtPlaces}

-- ---- no byte is a place where none has come

pub none_at : (q : List ℕ) (b : ℕ) (back : List ℕ) (at : ℕ) (s : Scanner) → place_from at s (q ++ b ∷ back) ≡ None → is_place (scanned s q) b ≡ false
none_at [] b back at s e = (no_place at s b back e).0
none_at (c ∷ q) b back at s e = none_at q b back (suc at) (after s c) (no_place at s c (q ++ b ∷ back) e).1

none_here : (xs q : List ℕ) (b : ℕ) (back : List ℕ) → NoPlace xs (q ++ b ∷ back) → is_place (scanned start (xs ++ q)) b ≡ true → ⊥
none_here xs q b back n p =
    let both : true ≡ false = sym p ∙ ap (λ (s : Scanner). is_place s b) (scanned-append start xs q) ∙ none_at q b back 0 (scanned start xs) n in
    cc

-- ---- what begins a reply

-- so does each front of it
front_begins : (xs front back : List ℕ) → xs ≡ front ++ back → BeginsReply xs → BeginsReply front
front_begins xs front back e h = record {
  begins = record {
    more = back ++ h.begins.more;
    value = h.begins.value;
    some = (let s = h.begins.some in omega (arith, s, length-append back h.begins.more));
    spelled = subst (ReplyText h.begins.value) (ap (λ (l : List ℕ). l ++ h.begins.more) e ∙ append_assoc front back h.begins.more) h.begins.spelled;
  };
  fits =
      let less : outside front ≤ outside (front ++ back) = outside_front Plain front back in
      let same : outside xs ≡ outside (front ++ back) = ap outside e in
      let all = h.fits in
      omega (arith, less, same, all);
}

pub all_begin : (xs : List ℕ) → BeginsReply xs → BeginsAtPlaces xs
all_begin xs h front back b e p = front_begins xs (front ++ b ∷ []) back (e ∙ sym (append_assoc front (b ∷ []) back)) h

pub begins_empty : BeginsAtPlaces []
begins_empty [] back b e p = cc
begins_empty (c ∷ front) back b e p = cc

-- no place has come since
module _ (xs ys : List ℕ) (h : BeginsAtPlaces xs) (n : NoPlace xs ys) (front back : List ℕ) (b : ℕ) (p : is_place (scanned start front) b ≡ true) where
  past : (q : List ℕ) → xs ++ q ≡ front → ys ≡ q ++ b ∷ back → ⊥
  past q e f = none_here xs q b back (subst (NoPlace xs) f n) (ap (λ (l : List ℕ). is_place (scanned start l) b) e ∙ p)

  begins_by : (l : List ℕ) → front ++ l ≡ xs → b ∷ back ≡ l ++ ys → BeginsReply (front ++ b ∷ [])
  begins_by [] e f = absurd (past [] (append-nil xs ∙ sym e ∙ append-nil front) (sym f))
  begins_by (c ∷ l) e f = h front l b (let same : c ≡ b = cc in sym e ∙ ap (λ (x : ℕ). front ++ x ∷ l) same) p

pub begins_between : (xs ys : List ℕ) → BeginsAtPlaces xs → NoPlace xs ys → BeginsAtPlaces (xs ++ ys)
begins_between xs ys h n front back b e p = elim (fronts xs ys front (b ∷ back) e) [
  | inl f ↦ absurd (past xs ys h n front back b p f.more f.is f.rest)
  | inr f ↦ begins_by xs ys h n front back b p f.more f.is f.rest
]
