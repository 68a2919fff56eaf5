-- Where a reply of the profile was sought at each place, and none was whole.
use Rattle.std.proofs.Common.{◌≡◌, ◌≤◌, ◌<◌, ℕ, ◌+◌, ◌-◌, suc, Bool, true, false, List, [], ◌∷◌, ◌++◌, inl, inr, refl, sym, ◌∙◌, ap, subst, arith, append_assoc, append-nil, length, take, drop, codes, take-append-drop, take-add, length-append, length-drop, length-take-le, None, Some, Option}
use Rattle.std.specs.Prelude.{◌==◌, ◌||◌, nat_le, nat_eq, if◌then◌else◌}
use Rattle.std.specs.List.{ends_with}
use Rattle.std.specs.Cmp.Lexicographic.{pointwise}
use Rattle.std.proofs.Math.Seq.{take-length, drop-append_seam}
use Rattle.std.proofs.lemmas.List.{take-append-le}
use Rattle.wire_reader.specs.declared.lexical.Phase.TheVariants.{Plain}
use Rattle.wire_reader.specs.declared.scanner.Scanner.{Scanner}
use Rattle.wire_reader.specs.Lexical.{is_in, phase}
use Rattle.wire_reader.specs.Scanning.{start, after, scanned, is_place, place_from}
use Rattle.wire_reader.proofs.PlaceLaws.{end_law}
use Rattle.wire_reader.proofs.Scanned.{scanned-append}
use Rattle.imap_replies.proofs.ReplyParts.{reply_part}
use Rattle.imap_replies.proofs.ReplyFeeds.{reply_feed}
use Rattle.imap_session.proofs.Apart.{fronts}
use Rattle.imap_session.proofs.AnswersApart.{reply_some}
use Rattle.imap_link.proofs.Begun.{none_at}
use Rattle.imap_link.proofs.Places.{place_within}
use Rattle.link_face.specs.declared.extent.Extent.{Extent}
use Rattle.link_face.specs.declared.extent.Extent.TheVariants as extents
use Rattle.link_face.specs.declared.extent.ReplyExtent.{ReplyExtent}
use Rattle.link_face.specs.Extents.{IsSaid, IsListed, NoneSaid, NeverSaid, NoneBegins, Looks, LooksAt, EndsLine, GoesOn, IsSought, IsPlace}
use Rattle.link_face.specs.Faces.{IsSpelled}

-- ---- the place at which a reply ends

phase_is : (s : Scanner) (xs : List ℕ) → (scanned s xs).phase ≡ phase s.phase xs
phase_is s [] = refl
phase_is s (b ∷ xs) = phase_is (after s b) xs

at_feed : (s : Scanner) → is_in s.phase ≡ false → is_place s 10 ≡ true
at_feed s e = ap (λ (t : Bool). if t then 10 == 0 else 10 == 10 || nat_le 65536 s.outside) e

outside_place : (xs q : List ℕ) → is_in (phase Plain (xs ++ q)) ≡ false → is_place (scanned (scanned start xs) q) 10 ≡ true
outside_place xs q o =
    let s = scanned (scanned start xs) q in
    at_feed s (ap (λ (v : Scanner). is_in v.phase) (sym (scanned-append start xs q)) ∙ ap is_in (phase_is start (xs ++ q)) ∙ o)

-- after bytes in which none is whole a reply ends, at a place
record EndsLater (xs ys front back : List ℕ) : Type 0 where
  pub more : List ℕ
  pub is : front ≡ xs ++ (more ++ 10 ∷ [])
  pub rest : ys ≡ more ++ 10 ∷ back
  pub place : is_place (scanned (scanned start xs) more) 10 ≡ true

module _ (xs ys : List ℕ) (none : NoneSaid xs) (front back : List ℕ) (h : IsSaid front) where
  from_seam : (p : List ℕ) → front ≡ p ++ 10 ∷ [] → is_in (phase Plain p) ≡ false → (l : List ℕ) → p ++ l ≡ xs → 10 ∷ back ≡ l ++ ys → EndsLater xs ys front back
  from_seam p parts out [] is rest =
      let same : p ≡ xs = sym (append-nil p) ∙ is in
      record {
        more = [];
        is = parts ∙ ap (λ (l : List ℕ). l ++ 10 ∷ []) same;
        rest = sym rest;
        place = outside_place xs [] (ap (λ (l : List ℕ). is_in (phase Plain l)) (append-nil xs ∙ sym same) ∙ out);
      }
  from_seam p parts out (b ∷ l) is rest =
      let first : b ≡ 10 = cc in
      absurd (none front l h (sym is ∙ ap (λ (x : ℕ). p ++ x ∷ l) first ∙ sym (append_assoc p (10 ∷ []) l) ∙ ap (λ (x : List ℕ). x ++ l) (sym parts)))

  ends_later : xs ++ ys ≡ front ++ back → EndsLater xs ys front back
  ends_later e =
      let ends = end_law reply_part reply_feed h.reply front h.spelled in
      let all : xs ++ ys ≡ ends.front ++ 10 ∷ back = e ∙ ap (λ (l : List ℕ). l ++ back) ends.parts ∙ append_assoc ends.front (10 ∷ []) back in
      elim (fronts xs ys ends.front (10 ∷ back) all) [
        | inl f ↦ record {
          more = f.more;
          is = ends.parts ∙ ap (λ (l : List ℕ). l ++ 10 ∷ []) (sym f.is) ∙ append_assoc xs f.more (10 ∷ []);
          rest = f.rest;
          place = outside_place xs f.more (ap (λ (l : List ℕ). is_in (phase Plain l)) f.is ∙ ends.outside);
        }
        | inr f ↦ from_seam ends.front ends.parts ends.outside f.more f.is f.rest
      ]

-- the first place is no later
some_apart : (m n : ℕ) → (let x : Option ℕ = Some m in x) ≡ Some n → m ≡ n
some_apart m n e = cc

here_by : (p : Bool) (at n : ℕ) (rest : Option ℕ) → p ≡ true → (if p then Some (suc at) else rest) ≡ Some n → n ≡ suc at
here_by true at n rest e h = sym (some_apart (suc at) n h)
here_by false at n rest e h = cc

next_by : (p : Bool) (at n most : ℕ) (rest : Option ℕ) → suc at ≤ most → (rest ≡ Some n → n ≤ most) → (if p then Some (suc at) else rest) ≡ Some n → n ≤ most
next_by true at n most rest le next e = let same = some_apart (suc at) n e in omega (arith, same, le)
next_by false at n most rest le next e = next e

no_later : (s : Scanner) (q back : List ℕ) (at n : ℕ) → is_place (scanned s q) 10 ≡ true → place_from at s (q ++ 10 ∷ back) ≡ Some n → n ≤ at + suc (length q)
no_later s [] back at n p e = let same = here_by (is_place s 10) at n (place_from (suc at) (after s 10) back) p e in omega (arith, same)
no_later s (c ∷ q) back at n p e =
    next_by (is_place s c) at n (at + suc (suc (length q))) (place_from (suc at) (after s c) (q ++ 10 ∷ back)) (omega arith)
    (λ f. let h = no_later (after s c) q back (suc at) n p f in omega (arith, h)) e

-- a place is not the end of nothing
later_by : (p : Bool) (at n : ℕ) (rest : Option ℕ) → (rest ≡ Some n → suc at < n) → (if p then Some (suc at) else rest) ≡ Some n → at < n
later_by true at n rest next e = let same = some_apart (suc at) n e in omega (arith, same)
later_by false at n rest next e = let h = next e in omega (arith, h)

later : (xs : List ℕ) (at : ℕ) (s : Scanner) (n : ℕ) → place_from at s xs ≡ Some n → at < n
later [] at s n e = cc
later (b ∷ xs) at s n e = later_by (is_place s b) at n (place_from (suc at) (after s b) xs) (λ h. later xs (suc at) (after s b) n h) e

-- ---- from place to place

-- no place has come
none_between : (xs ys : List ℕ) → NoneSaid xs → place_from 0 (scanned start xs) ys ≡ None → NoneSaid (xs ++ ys)
none_between xs ys none n front back h e =
    let l = ends_later xs ys none front back h e in
    let unsaid : is_place (scanned (scanned start xs) l.more) 10 ≡ false = none_at l.more 10 back 0 (scanned start xs) (ap (place_from 0 (scanned start xs)) (sym l.rest) ∙ n) in
    let both : true ≡ false = sym l.place ∙ unsaid in
    cc

-- at the next place a reply may be whole, and at none before it
none_at_next : (xs ys : List ℕ) (n : ℕ) → NoneSaid xs → place_from 0 (scanned start xs) ys ≡ Some n → n ≤ length ys → (IsSaid (xs ++ take n ys) → ⊥) → NoneSaid (xs ++ take n ys)
none_at_next xs ys n none p within last front back h e =
    let all : xs ++ ys ≡ front ++ (back ++ drop n ys) =
    ap (λ (l : List ℕ). xs ++ l) (sym (take-append-drop n ys)) ∙ sym (append_assoc xs (take n ys) (drop n ys)) ∙ ap (λ (l : List ℕ). l ++ drop n ys) e ∙ append_assoc front back (drop n ys) in
    let l = ends_later xs ys none front (back ++ drop n ys) h all in
    let most = no_later (scanned start xs) l.more (back ++ drop n ys) 0 n l.place (ap (place_from 0 (scanned start xs)) (sym l.rest) ∙ p) in
    let long : length front ≡ length xs + (length l.more + 1) = ap length l.is ∙ length-append xs (l.more ++ 10 ∷ []) ∙ ap (λ (k : ℕ). length xs + k) (length-append l.more (10 ∷ [])) in
    let whole : length xs + length (take n ys) ≡ length front + length back = sym (length-append xs (take n ys)) ∙ ap length e ∙ length-append front back in
    let some : length (take n ys) ≡ n = length-take-le n ys within in
    let nothing : back ≡ [] = empty back (omega (arith, most, long, whole, some)) in
    last (subst IsSaid (sym (e ∙ ap (λ (x : List ℕ). front ++ x) nothing ∙ append-nil front)) h)
  where
    empty : (x : List ℕ) → length x ≤ 0 → x ≡ []
    empty [] le = refl
    empty (c ∷ x) le = absurd (omega (arith, le))

pub none_empty : NoneSaid []
none_empty [] back h e = reply_some h.reply [] h.spelled refl
none_empty (b ∷ front) back h e = cc

module _ (old : ReplyExtent) (bytes : List ℕ) (is : IsSought old bytes) where
  abbrev rest : List ℕ
  rest = drop old.scanned bytes

  rest_long : length rest + old.scanned ≡ length bytes
  rest_long = let w = is.within in omega (arith, w, length-drop old.scanned bytes)

  pub next_within : (count : ℕ) → Some count ≡ place_from 0 old.scanner rest → old.scanned + count ≤ length bytes
  next_within count e = place_within bytes rest old.scanned count old.scanner rest_long e

  on : (part : List ℕ) → scanned old.scanner part ≡ scanned start (take old.scanned bytes ++ part)
  on part = ap (λ (s : Scanner). scanned s part) is.scanner_is ∙ sym (scanned-append start (take old.scanned bytes) part)

  pub next_found : (count : ℕ) (scanner : Scanner) → Some count ≡ place_from 0 old.scanner rest → scanner ≡ scanned old.scanner (take count rest)
      → IsPlace old (record { scanner = scanner; scanned = old.scanned + count }) bytes (old.scanned + count)
  next_found count scanner e m =
      let parts : take (old.scanned + count) bytes ≡ take old.scanned bytes ++ take count rest = take-add old.scanned count bytes in
      let w = next_within count e in
      record {
        within = w;
        later = (let some = later rest 0 old.scanner count (sym e) in omega (arith, some));
        scanned_is = refl;
        scanner_is = m ∙ on (take count rest) ∙ ap (scanned start) (sym parts);
        none = λ unsaid. subst NoneSaid (sym parts)
            (none_at_next (take old.scanned bytes) rest count is.none (ap (λ (s : Scanner). place_from 0 s rest) (sym is.scanner_is) ∙ sym e) (omega (arith, w, rest_long))
            (λ said. unsaid (subst IsSaid (sym parts) said)));
      }

  pub none_found : (scanner : Scanner) → None ≡ place_from 0 old.scanner rest → scanner ≡ scanned old.scanner rest
      → IsSought (record { scanner = scanner; scanned = length bytes }) bytes
  none_found scanner e m =
      let all : take old.scanned bytes ++ rest ≡ take (length bytes) bytes = take-append-drop old.scanned bytes ∙ sym (take-length bytes) in
      record {
        within = omega arith;
        scanner_is = m ∙ on rest ∙ ap (scanned start) all;
        none = subst NoneSaid all (none_between (take old.scanned bytes) rest is.none (ap (λ (s : Scanner). place_from 0 s rest) (sym is.scanner_is) ∙ sym e));
      }

-- none is whole at the place that was found
pub sought_next : (old new : ReplyExtent) (bytes : List ℕ) (end : ℕ) → IsPlace old new bytes end → (IsSaid (take end bytes) → ⊥) → IsSought new bytes
sought_next old new bytes end n unsaid = record {
  within = (let e = n.scanned_is in let w = n.within in omega (arith, e, w));
  scanner_is = n.scanner_is ∙ ap (λ (k : ℕ). scanned start (take k bytes)) (sym n.scanned_is);
  none = subst (λ (k : ℕ). NoneSaid (take k bytes)) (sym n.scanned_is) (n.none unsaid);
}

-- all was scanned
pub sought_all : (extent : ReplyExtent) (bytes : List ℕ) → IsSought extent bytes → length bytes ≤ extent.scanned → NoneSaid bytes
sought_all extent bytes is all =
    let same : extent.scanned ≡ length bytes = (let w = is.within in omega (arith, w, all)) in
    subst NoneSaid (ap (λ (k : ℕ). take k bytes) same ∙ take-length bytes) is.none

-- more came
pub sought_more : (extent : ReplyExtent) (bytes now more : List ℕ) → now ≡ bytes ++ more → IsSought extent bytes → IsSought extent now
sought_more extent bytes now more e is =
    let same : take extent.scanned now ≡ take extent.scanned bytes = ap (take extent.scanned) e ∙ take-append-le extent.scanned bytes more is.within in
    record {
      within = (let w = is.within in let long = ap length e in omega (arith, w, long, length-append bytes more));
      scanner_is = is.scanner_is ∙ ap (scanned start) (sym same);
      none = subst NoneSaid (sym same) is.none;
    }

-- ---- what a look at a place says of all the bytes

-- a reply that no server of the profile begins so
never : (bytes : List ℕ) → NoneSaid bytes → NoneBegins bytes → NeverSaid bytes
never bytes none begins front back more h e = elim (fronts bytes more front back e) [
  | inl f ↦ begins f.more (subst IsSaid (sym f.is) h)
  | inr f ↦ none front f.more h (sym f.is)
]

pub looks_on : (old new : ReplyExtent) (bytes : List ℕ) (end : ℕ) (extent : Extent) → (extent ≡ extents.Begun → ⊥) → IsPlace old new bytes end → LooksAt (take end bytes) extent → Looks bytes extent
looks_on old new bytes end extents.Begun n is l = absurd (n refl)
looks_on old new bytes end (extents.Heard len) n is l =
    let same = l.0 ∙ length-take-le end bytes is.within in
    record { some = (let s = is.later in omega (arith, s, same)); within = (let w = is.within in omega (arith, w, same)); part = subst (λ (k : ℕ). IsSpelled (take k bytes)) (sym same) l.1 }
looks_on old new bytes end (extents.Listed len) n is l =
    let same = l.0 ∙ length-take-le end bytes is.within in
    record { some = (let s = is.later in omega (arith, s, same)); within = (let w = is.within in omega (arith, w, same)); part = subst (λ (k : ℕ). IsListed (take k bytes)) (sym same) l.1 }
looks_on old new bytes end (extents.Whole len) n is l =
    let same = l.0 ∙ length-take-le end bytes is.within in
    let unsaid : IsSaid (take end bytes) → ⊥ = λ said. l.1 [] (subst IsSaid (sym (append-nil (take end bytes))) said) in
    record {
      some = (let s = is.later in omega (arith, s, same));
      within = (let w = is.within in omega (arith, w, same));
      part = subst (λ (k : ℕ). NeverSaid (take k bytes)) (sym same) (never (take end bytes) (is.none unsaid) l.1);
    }
looks_on old new bytes end extents.TooLong n is l = tt

-- ---- at a place

abbrev is_feed : List ℕ → Bool
is_feed l = pointwise nat_eq (10 ∷ []) l

ends_here : (front : List ℕ) → ends_with nat_eq (front ++ 10 ∷ []) (10 ∷ []) ≡ true
ends_here front =
    let at : length (front ++ 10 ∷ []) - 1 ≡ length front = omega (arith, length-append front (10 ∷ [])) in
    ap (λ (k : ℕ). is_feed (drop k (front ++ 10 ∷ []))) at ∙ ap is_feed (drop-append_seam front (10 ∷ []))

-- a reply ends with a LF
pub no_line_end : (bytes : List ℕ) → ends_with nat_eq bytes (codes "\n") ≡ false → IsSaid bytes → ⊥
no_line_end bytes e h =
    let ends = end_law reply_part reply_feed h.reply bytes h.spelled in
    let both : true ≡ false = sym (ends_here ends.front) ∙ ap (λ (l : List ℕ). ends_with nat_eq l (codes "\n")) (sym ends.parts) ∙ e in
    cc

pub goes_on_at : (bytes : List ℕ) (extent : Extent) → (IsSaid bytes → ⊥) → GoesOn extent → LooksAt bytes extent
goes_on_at bytes extents.Begun unsaid g = unsaid
goes_on_at bytes (extents.Heard len) unsaid g = absurd g
goes_on_at bytes (extents.Listed len) unsaid g = absurd g
goes_on_at bytes (extents.Whole len) unsaid g = absurd g
goes_on_at bytes extents.TooLong unsaid g = tt

pub ends_line_at : (bytes : List ℕ) (extent : Extent) → NoneBegins bytes → EndsLine bytes extent → LooksAt bytes extent
ends_line_at bytes extents.Begun unsaid g = λ said. unsaid [] (subst IsSaid (sym (append-nil bytes)) said)
ends_line_at bytes (extents.Heard len) unsaid g = absurd g
ends_line_at bytes (extents.Listed len) unsaid g = absurd g
ends_line_at bytes (extents.Whole len) unsaid g = (g, unsaid)
ends_line_at bytes extents.TooLong unsaid g = tt
