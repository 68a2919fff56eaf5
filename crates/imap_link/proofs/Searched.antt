-- Where a reply was sought at each place, and none was whole.
use Rattle.std.proofs.Common.{◌≡◌, ◌≤◌, ◌<◌, ℕ, ◌+◌, suc, Bool, true, false, List, [], ◌∷◌, ◌++◌, inl, inr, refl, sym, ◌∙◌, ap, subst, arith, append_assoc, append-nil, length, take, drop, take-append-drop, take-add, length-append, length-drop, None, Some, Option, Result, Ok}
use Rattle.std.specs.Prelude.{◌==◌, ◌||◌, nat_le, if◌then◌else◌}
use Rattle.std.proofs.Math.Seq.{take-append_seam, take-length}
use Rattle.std.proofs.lemmas.List.{take-append-le}
use Rattle.wire_reader.specs.declared.answer.Read.{Read}
use Rattle.wire_reader.specs.declared.answer.Read.TheVariants.{WantsLiteral, Partial}
use Rattle.wire_reader.specs.declared.answer.WireFault.{WireFault}
use Rattle.wire_reader.specs.declared.lexical.Phase.TheVariants.{Plain}
use Rattle.wire_reader.specs.declared.scanner.Scanner.{Scanner}
use Rattle.wire_reader.specs.Answers.{Takes, TakesEach}
use Rattle.wire_reader.specs.Lexical.{outside, is_in, phase}
use Rattle.wire_reader.specs.Scanning.{start, after, scanned, is_place, place_from, NoPlace}
use Rattle.wire_reader.proofs.PlaceLaws.{end_law}
use Rattle.wire_reader.proofs.Scanned.{scanned-append}
use Rattle.imap_replies.specs.declared.reply.Reply.{Reply}
use Rattle.imap_replies.specs.Replies.{ReplyText, seen}
use Rattle.imap_replies.proofs.ReplyParts.{reply_part}
use Rattle.imap_replies.proofs.ReplyFeeds.{reply_feed}
use Rattle.imap_session.proofs.Apart.{fronts}
use Rattle.imap_session.proofs.AnswersApart.{reply_some}
use Rattle.imap_link.specs.Fronts.{BeginsAtPlaces, BeginsReply, NoneWhole}
use Rattle.imap_link.specs.declared.search.Search.{Search}
use Rattle.imap_link.specs.Searches.{IsSearched, IsNext}
use Rattle.imap_link.proofs.Places.{place_within}
use Rattle.imap_link.proofs.Begun.{all_begin, begins_between, none_at}

-- ---- no reply ends where no place is

phase_is : (s : Scanner) (xs : List ℕ) → (scanned s xs).phase ≡ phase s.phase xs
phase_is s [] = refl
phase_is s (b ∷ xs) = phase_is (after s b) xs

at_feed : (s : Scanner) → is_in s.phase ≡ false → is_place s 10 ≡ true
at_feed s e = ap (λ (t : Bool). if t then 10 == 0 else 10 == 10 || nat_le 65536 s.outside) e

no_end : (xs q back : List ℕ) → NoPlace xs (q ++ 10 ∷ back) → is_in (phase Plain (xs ++ q)) ≡ false → ⊥
no_end xs q back n o =
    let s = scanned (scanned start xs) q in
    let out : is_in s.phase ≡ false = ap (λ (v : Scanner). is_in v.phase) (sym (scanned-append start xs q)) ∙ ap is_in (phase_is start (xs ++ q)) ∙ o in
    let both : true ≡ false = sym (at_feed s out) ∙ none_at q 10 back 0 (scanned start xs) n in
    cc

empty_back : (l m : List ℕ) (b c : ℕ) → b ∷ [] ≡ c ∷ (l ++ m) → m ≡ []
empty_back [] m b c e = cc
empty_back (x ∷ l) m b c e = cc

-- a reply that ends after bytes in which none is whole ends at a place after these
module _ (xs : List ℕ) (none : NoneWhole xs) (r : Reply) (front back : List ℕ) (h : ReplyText r front) (fits : outside front ≤ 65536) where
  at_seam : (more : List ℕ) → xs ++ more ≡ front → more ≡ [] → ⊥
  at_seam more e n = none r front [] h fits (sym (append-nil xs) ∙ ap (λ (l : List ℕ). xs ++ l) (sym n) ∙ e ∙ sym (append-nil front))

  after_by : (p more : List ℕ) → xs ++ more ≡ front → front ≡ p ++ 10 ∷ [] → is_in (phase Plain p) ≡ false → NoPlace xs (more ++ back) → (l : List ℕ) → p ++ l ≡ xs → 10 ∷ [] ≡ l ++ more → ⊥
  after_by p more e parts out n [] is rest =
      let same : p ≡ xs = sym (append-nil p) ∙ is in
      no_end xs [] back (subst (λ (m : List ℕ). NoPlace xs (m ++ back)) (sym rest) n) (ap (λ (l : List ℕ). is_in (phase Plain l)) (append-nil xs ∙ sym same) ∙ out)
  after_by p more e parts out n (b ∷ l) is rest = at_seam more e (empty_back l more 10 b rest)

  pub ends_at_place : (more : List ℕ) → xs ++ more ≡ front → NoPlace xs (more ++ back) → ⊥
  ends_at_place more e n =
      let ends = end_law reply_part reply_feed r front h in
      elim (fronts xs more ends.front (10 ∷ []) (e ∙ ends.parts)) [
        | inl f ↦ no_end xs f.more back (subst (λ (l : List ℕ). NoPlace xs l) (ap (λ (m : List ℕ). m ++ back) f.rest ∙ append_assoc f.more (10 ∷ []) back) n) (ap (λ (l : List ℕ). is_in (phase Plain l)) f.is ∙ ends.outside)
        | inr f ↦ after_by ends.front more e ends.parts ends.outside n f.more f.is f.rest
      ]

-- after bytes in which none is whole no place has come
pub none_between : (xs ys : List ℕ) → NoneWhole xs → NoPlace xs ys → NoneWhole (xs ++ ys)
none_between xs ys none n r front back h fits e = elim (fronts xs ys front back e) [
  | inl f ↦ ends_at_place xs none r front back h fits f.more f.is (subst (NoPlace xs) f.rest n)
  | inr f ↦ none r front f.more h fits (sym f.is)
]

-- ---- where a reader asks for more, none is whole

pub none_whole : (xs : List ℕ) (result : Result (Read Reply) WireFault) → TakesEach seen ReplyText xs result → ((a : Reply) (n : ℕ) → Takes seen a n result → ⊥) → NoneWhole xs
none_whole xs result takes never r front back h fits e =
    let at : take (length front) xs ≡ front = ap (take (length front)) e ∙ take-append_seam front back in
    let long : length front ≤ length xs = omega (arith, ap length e, length-append front back) in
    never r (length front) (takes r (length front) (record { within = long; spelled = subst (ReplyText r) (sym at) h }) (subst (λ (l : List ℕ). outside l ≤ 65536) (sym at) fits))

pub none_empty : NoneWhole []
none_empty r [] back h fits e = reply_some r [] h refl
none_empty r (b ∷ front) back h fits e = cc

pub none_partial : (xs : List ℕ) (read : Read Reply) → read ≡ Partial → TakesEach seen ReplyText xs (Ok read) → NoneWhole xs
none_partial xs read e t = none_whole xs (Ok read) t (λ a n h. subst (λ (r : Read Reply). Takes seen a n (Ok r)) e h)

pub none_literal : (xs : List ℕ) (read : Read Reply) (n : ℕ) → read ≡ WantsLiteral n → TakesEach seen ReplyText xs (Ok read) → NoneWhole xs
none_literal xs read n e t = none_whole xs (Ok read) t (λ a k h. subst (λ (r : Read Reply). Takes seen a k (Ok r)) e h)

-- ---- from place to place

some_apart : (m n : ℕ) → (let x : Option ℕ = Some m in x) ≡ Some n → m ≡ n
some_apart m n e = cc

later_by : (p : Bool) (at n : ℕ) (rest : Option ℕ) → (rest ≡ Some n → suc at < n) → (if p then Some (suc at) else rest) ≡ Some n → at < n
later_by true at n rest next e = let same = some_apart (suc at) n e in omega (arith, same)
later_by false at n rest next e = let h = next e in omega (arith, h)

later : (xs : List ℕ) (at : ℕ) (s : Scanner) (n : ℕ) → place_from at s xs ≡ Some n → at < n
later [] at s n e = cc
later (b ∷ xs) at s n e = later_by (is_place s b) at n (place_from (suc at) (after s b) xs) (λ h. later xs (suc at) (after s b) n h) e

module _ (old : Search) (bytes : List ℕ) (is : IsSearched old bytes) where
  abbrev rest : List ℕ
  rest = drop old.scanned bytes

  rest_long : length rest + old.scanned ≡ length bytes
  rest_long = let w = is.within in omega (arith, w, length-drop old.scanned bytes)

  pub next_within : (count : ℕ) → Some count ≡ place_from 0 old.scanner rest → old.scanned + count ≤ length bytes
  next_within count e = place_within bytes rest old.scanned count old.scanner rest_long e

  on : (part : List ℕ) → scanned old.scanner part ≡ scanned start (take old.scanned bytes ++ part)
  on part = ap (λ (s : Scanner). scanned s part) is.scanner_is ∙ sym (scanned-append start (take old.scanned bytes) part)

  pub next_found : (count : ℕ) (scanner : Scanner) → Some count ≡ place_from 0 old.scanner rest → scanner ≡ scanned old.scanner (take count rest)
      → IsNext old (record { scanner = scanner; scanned = old.scanned + count }) bytes (old.scanned + count)
  next_found count scanner e m = record {
    within = next_within count e;
    later = (let some = later rest 0 old.scanner count (sym e) in omega (arith, some));
    scanned_is = refl;
    scanner_is = m ∙ on (take count rest) ∙ ap (scanned start) (sym (take-add old.scanned count bytes));
  }

  pub none_found : (scanner : Scanner) → None ≡ place_from 0 old.scanner rest → scanner ≡ scanned old.scanner rest
      → IsSearched (record { scanner = scanner; scanned = length bytes }) bytes
  none_found scanner e m = record {
    within = omega arith;
    scanner_is = m ∙ on rest ∙ ap (scanned start) (take-append-drop old.scanned bytes ∙ sym (take-length bytes));
    none =
        subst NoneWhole (take-append-drop old.scanned bytes ∙ sym (take-length bytes))
        (none_between (take old.scanned bytes) rest is.none (ap (λ (s : Scanner). place_from 0 s rest) (sym is.scanner_is) ∙ sym e));
    begun =
        subst BeginsAtPlaces (take-append-drop old.scanned bytes ∙ sym (take-length bytes))
        (begins_between (take old.scanned bytes) rest is.begun (ap (λ (s : Scanner). place_from 0 s rest) (sym is.scanner_is) ∙ sym e));
  }

-- no reply is whole before the place that was found
pub searched_next : (old new : Search) (bytes : List ℕ) (end : ℕ) → IsNext old new bytes end → NoneWhole (take end bytes) → BeginsReply (take end bytes) → IsSearched new bytes
searched_next old new bytes end n none begins = record {
  within = (let e = n.scanned_is in let w = n.within in omega (arith, e, w));
  scanner_is = n.scanner_is ∙ ap (λ (k : ℕ). scanned start (take k bytes)) (sym n.scanned_is);
  none = subst (λ (k : ℕ). NoneWhole (take k bytes)) (sym n.scanned_is) none;
  begun = subst (λ (k : ℕ). BeginsAtPlaces (take k bytes)) (sym n.scanned_is) (all_begin (take end bytes) begins);
}

-- all was scanned
pub searched_all : (search : Search) (bytes : List ℕ) → IsSearched search bytes → length bytes ≤ search.scanned → NoneWhole bytes
searched_all search bytes is all =
    let same : search.scanned ≡ length bytes = (let w = is.within in omega (arith, w, all)) in
    subst NoneWhole (ap (λ (k : ℕ). take k bytes) same ∙ take-length bytes) is.none

pub begun_all : (search : Search) (bytes : List ℕ) → IsSearched search bytes → length bytes ≤ search.scanned → BeginsAtPlaces bytes
begun_all search bytes is all =
    let same : search.scanned ≡ length bytes = (let w = is.within in omega (arith, w, all)) in
    subst BeginsAtPlaces (ap (λ (k : ℕ). take k bytes) same ∙ take-length bytes) is.begun

-- more came
pub searched_more : (search : Search) (bytes now more : List ℕ) → now ≡ bytes ++ more → IsSearched search bytes → IsSearched search now
searched_more search bytes now more e is =
    let same : take search.scanned now ≡ take search.scanned bytes = ap (take search.scanned) e ∙ take-append-le search.scanned bytes more is.within in
    record {
      within = (let w = is.within in let long = ap length e in omega (arith, w, long, length-append bytes more));
      scanner_is = is.scanner_is ∙ ap (scanned start) (sym same);
      none = subst NoneWhole (sym same) is.none;
      begun = subst BeginsAtPlaces (sym same) is.begun;
    }
