-- A text that is read up to a place: bytes xs after which more is waited for, and bytes zs of which none is a place.
use Rattle.std.proofs.Common.{◌≡◌, ℕ, zero, suc, ◌+◌, ◌≤◌, Bool, true, false, eqb, List, [], ◌∷◌, ◌++◌, length, take, drop, Option, None, Some, refl, sym, ap, ◌∙◌, append-nil, take-append-drop, inl, inr, if◌then◌else◌, arith}
use Rattle.std.proofs.lemmas.Bool.{cases_Bool}
use Rattle.std.specs.Option.{unwrap_or}
use Rattle.std.proofs.lemmas.List.{length-append}
use Rattle.wire_reader.specs.declared.side.Speaker.TheVariants.{Commands}
use Rattle.wire_reader.specs.declared.lexical.Phase.{Phase}
use Rattle.wire_reader.specs.declared.lexical.Phase.TheVariants.{Plain, Brace, Digits, Plus, Close, Return, In}
use Rattle.wire_reader.specs.declared.scanner.Scanner.{Scanner}
use Rattle.wire_reader.specs.Lexical.{next, phase, is_in, asked, asks, outside}
use Rattle.wire_reader.specs.Scanning.{start, after, scanned, is_place, place_from, first_place, NoPlace}
use Rattle.wire_reader.proofs.Lexed.{asks-append}
use Rattle.wire_reader.proofs.Positions.{phase-scanned, outside-append, no_place_at, Octet, Outside}
use Rattle.wire_reader.proofs.Scanned.{scanned-append, place_case, no_place, place-from_none, place-append}
use Rattle.imap_replies.specs.declared.reply.Reply.{Reply}
use Rattle.imap_session.specs.Portions.{once, goes_from, goes_in}
use Rattle.imap_session.proofs.Gos.{goes-append}

-- ---- places

-- no byte of the front is a place either
pub no_place-front : (at : ℕ) (s : Scanner) (a b : List ℕ) → place_from at s (a ++ b) ≡ None → place_from at s a ≡ None
no_place-front at s [] b h = refl
no_place-front at s (c ∷ a) b h = let n = no_place at s c (a ++ b) h in ap (place_case at s c a) n.0 ∙ no_place-front (suc at) (after s c) a b n.1

pub no_place-take : (n : ℕ) (xs zs : List ℕ) → NoPlace xs zs → NoPlace xs (take n zs)
no_place-take n xs zs h = no_place-front 0 (scanned start xs) (take n zs) (drop n zs) (ap (first_place (scanned start xs)) (take-append-drop n zs) ∙ h)

pub no_place-append : (xs ys zs : List ℕ) → NoPlace xs ys → NoPlace (xs ++ ys) zs → NoPlace xs (ys ++ zs)
no_place-append xs ys zs h k =
    place-append ys 0 (scanned start xs) zs h ∙ ap (λ (s : Scanner). place_from (0 + length ys) s zs) (sym (scanned-append start xs ys))
    ∙ place-from_none zs 0 (0 + length ys) (scanned start (xs ++ ys)) k

-- the first place is the last of these bytes
pub record FoundPlace (at : ℕ) (s : Scanner) (bytes : List ℕ) (end : ℕ) : Type 0 where
  pub front : List ℕ
  pub byte : ℕ
  pub back : List ℕ
  pub parts : bytes ≡ front ++ byte ∷ back
  pub end_is : end ≡ at + suc (length front)
  pub none : place_from at s front ≡ None

pub found_place : (bytes : List ℕ) (at : ℕ) (s : Scanner) (end : ℕ) → place_from at s bytes ≡ Some end → FoundPlace at s bytes end
found_place [] at s end h = cc
found_place (b ∷ bs) at s end h =
    elim (cases_Bool (is_place s b)) [
      | inl e ↦ let here : Some (suc at) ≡ Some end = sym (ap (place_case at s b bs) e) ∙ h in let same : suc at ≡ end = cc in
          record { front = []; byte = b; back = bs; parts = refl; end_is = omega (arith, same); none = refl }
      | inr e ↦
          let r = found_place bs (suc at) (after s b) end (sym (ap (place_case at s b bs) e) ∙ h) in
          let is = r.end_is in
          record { front = b ∷ r.front; byte = r.byte; back = r.back; parts = ap (λ (l : List ℕ). b ∷ l) r.parts; end_is = omega (arith, is); none = ap (place_case at s b r.front) e ∙ r.none }
    ]

pub place_within : (bytes : List ℕ) (s : Scanner) (found : Option ℕ) → found ≡ first_place s bytes → unwrap_or found (length bytes) ≤ length bytes
place_within bytes s None e = omega arith
place_within bytes s (Some n) e =
    let f = found_place bytes 0 s n (sym e) in
    let is = f.end_is in
    omega (arith, is, ap length f.parts, length-append f.front (f.byte ∷ f.back))

-- ---- where nobody is asked to go on

not_asked : (p : Phase) (b : ℕ) → eqb b 10 ≡ false → asked Commands p b ≡ None
not_asked Plain b h = refl
not_asked Brace b h = refl
not_asked (Digits n) b h = refl
not_asked (Plus n) b h = refl
not_asked (Close n plus) b h = refl
not_asked (Return n true) b h = refl
not_asked (Return n false) b h = ap (λ (t : Bool). if t then Some n else None) h
not_asked (In n) b h = refl

not_asked_inside : (p : Phase) (b : ℕ) → is_in p ≡ true → asked Commands p b ≡ None
not_asked_inside Plain b h = refl
not_asked_inside Brace b h = refl
not_asked_inside (Digits n) b h = refl
not_asked_inside (Plus n) b h = refl
not_asked_inside (Close n plus) b h = refl
not_asked_inside (Return n plus) b h = absurd cc
not_asked_inside (In n) b h = refl

goes_nowhere : (zs : List ℕ) (at : ℕ) (s : Scanner) → place_from at s zs ≡ None → goes_from s.phase zs ≡ []
goes_nowhere [] at s h = refl
goes_nowhere (b ∷ bs) at s h =
    let n = no_place at s b bs h in
    let none : asked Commands s.phase b ≡ None = elim (no_place_at s b n.0) [ Octet e z ↦ not_asked_inside s.phase b e | Outside e f room ↦ not_asked s.phase b f ] in
    ap (λ (o : Option ℕ). once o ++ goes_from (next s.phase b) bs) none ∙ goes_nowhere bs (suc at) (after s b) n.1

pub goes_same : (xs zs : List ℕ) → NoPlace xs zs → goes_in (xs ++ zs) ≡ goes_in xs
goes_same xs zs h =
    goes-append Plain xs zs
    ∙ ap (λ (p : Phase). goes_in xs ++ goes_from p zs) (sym (phase-scanned start xs))
    ∙ ap (λ (l : List Reply). goes_in xs ++ l) (goes_nowhere zs 0 (scanned start xs) h) ∙ append-nil (goes_in xs)

-- the last byte may ask
pub goes_last : (text : List ℕ) (b : ℕ) → goes_in (text ++ b ∷ []) ≡ goes_in text ++ once (asks Commands (text ++ b ∷ []))
goes_last text b =
    goes-append Plain text (b ∷ []) ∙ ap (λ (l : List Reply). goes_in text ++ l) (append-nil (once (asked Commands (phase Plain text) b)))
    ∙ ap (λ (o : Option ℕ). goes_in text ++ once o) (sym (asks-append Commands Plain text b []))

-- ---- bytes outside literals

pub take-twice : (i j : ℕ) (text : List ℕ) → i ≤ j → take i (take j text) ≡ take i text
take-twice zero j text h = refl
take-twice (suc i) zero text h = absurd (omega (arith, h))
take-twice (suc i) (suc j) [] h = refl
take-twice (suc i) (suc j) (c ∷ cs) h = ap (λ (l : List ℕ). c ∷ l) (take-twice i j cs (omega (arith, h)))

pub outside-take : (i j : ℕ) (text : List ℕ) → i ≤ j → outside (take i text) ≤ outside (take j text)
outside-take i j text h =
    let front : take i (take j text) ≡ take i text = take-twice i j text h in
    let parts = outside-append Plain (take i (take j text)) (drop i (take j text)) in
    omega (arith, parts, ap outside front, ap outside (take-append-drop i (take j text)))
