-- Items in the order of their places, each with its line.
use Rattle.std.proofs.Common.{◌≡◌, ◌≢◌, ℕ, Bool, true, List, [], ◌∷◌, ◌++◌, get_or, drop, map, Option, Some, None, refl, sym, ap, ◌∙◌, subst}
use Rattle.std.specs.Prelude.{All, IfNone, ◌&&◌}
use Rattle.std.proofs.lemmas.Bool.{and_parts}
use Rattle.std.proofs.lemmas.List.{map-append}
use Rattle.std.proofs.lemmas.List.Elements.{All-nil, All-head, All-tail, All-push}
use Rattle.sync_state.specs.Cuts.{same_cut, no_cut}
use Rattle.sync_state.specs.Lines.{OneLine, AreLines, HasLine, HasNoLine}
use Rattle.sync_state.specs.JournalText.{is_below, rises, bottom}
use Rattle.sync_state.specs.Places.{last_of}
use Rattle.sync_state.specs.JournalReading.{AreItems}
use Rattle.sync_state.proofs.LineLemmas.{no_lines, line_more}

-- ---- one line

pub line_ends_text : {T X : Type 0} (r : Option X) (fits : T → Type 0) (line : T → List ℕ) (text : List ℕ) → OneLine text → IfNone r (HasNoLine [] fits line text)
line_ends_text None fits line text one = λ l following lacks e value f same. no_cut 10 text l following one e
line_ends_text (Some x) fits line text one = tt

pub line_is_none : {T X : Type 0} (r : Option X) (fits : T → Type 0) (line : T → List ℕ) (text first rest : List ℕ)
    → text ≡ first ++ 10 ∷ rest → OneLine first → ((value : T) → fits value → first ≢ line value) → IfNone r (HasNoLine [] fits line text)
line_is_none None fits line text first rest parts one none = λ l following lacks e value f same.
    let s = same_cut 10 first l rest following one lacks (sym parts ∙ e) in
    none value f (s.front ∙ same)
line_is_none (Some x) fits line text first rest parts one none = tt

pub line_of : {T : Type 0} (fits : T → Type 0) (line : T → List ℕ) (value : T) (text first rest : List ℕ) → text ≡ first ++ 10 ∷ rest → OneLine first → fits value × (first ≡ line value)
    → HasLine [] fits line value text rest
line_of fits line value text first rest parts one is = record {
  fitting = is.0;
  parts = parts ∙ ap (λ (x : List ℕ). x ++ 10 ∷ rest) is.1;
  one_line = subst (λ (x : List ℕ). OneLine x) is.1 one;
}

-- ---- order

pub rises-push : (b : ℕ × ℕ × ℕ) (ps : List (ℕ × ℕ × ℕ)) (p : ℕ × ℕ × ℕ) → rises b ps ≡ true → is_below (last_of b ps) p ≡ true → rises b (ps ++ p ∷ []) ≡ true
rises-push b [] p r l = let P : Bool → Type 0 = λ x. (x && true) ≡ true in subst P (sym l) refl
rises-push b (q ∷ ps) p r l =
    let u = and_parts (is_below b q) (rises q ps) r in
    let h = rises-push q ps p u.1 l in
    let P : Bool → Type 0 = λ x. (x && rises q (ps ++ p ∷ [])) ≡ true in
    subst P (sym u.0) h

pub last_of-push : (b : ℕ × ℕ × ℕ) (ps : List (ℕ × ℕ × ℕ)) (p : ℕ × ℕ × ℕ) → last_of b (ps ++ p ∷ []) ≡ p
last_of-push b [] p = refl
last_of-push b (q ∷ ps) p = last_of-push q ps p

pub rises-at : (b : ℕ × ℕ × ℕ) (ps qs : List (ℕ × ℕ × ℕ)) (p : ℕ × ℕ × ℕ) → rises b (ps ++ p ∷ qs) ≡ true → is_below (last_of b ps) p ≡ true
rises-at b [] qs p r = (and_parts (is_below b p) (rises p qs) r).0
rises-at b (q ∷ ps) qs p r = rises-at q ps qs p (and_parts (is_below b q) (rises q (ps ++ p ∷ qs)) r).1

-- ---- items

pub no_items : {A : Type 0} (fits : A → Type 0) (line : A → List ℕ) (place : A → ℕ × ℕ × ℕ) (text : List ℕ) → AreItems fits line place [] text text
no_items fits line place text = record { fitting = All-nil fits; rise = refl; lines = no_lines text }

pub item_more : {A : Type 0} (fits : A → Type 0) (line : A → List ℕ) (place : A → ℕ × ℕ × ℕ) (items : List A) (item : A) (text between rest : List ℕ)
    → AreItems fits line place items text between → HasLine [] fits line item between rest → is_below (last_of bottom (map place items)) (place item) ≡ true
    → AreItems fits line place (items ++ item ∷ []) text rest
item_more fits line place items item text between rest a l below = record {
  fitting = All-push fits items item a.fitting l.fitting;
  rise = let P : List (ℕ × ℕ × ℕ) → Type 0 = λ x. rises bottom x ≡ true in
      subst P (sym (map-append place items (item ∷ []))) (rises-push bottom (map place items) (place item) a.rise below);
  lines = let P : List (List ℕ) → Type 0 = λ x. AreLines x text rest in
      subst P (sym (map-append line items (item ∷ []))) (line_more (map line items) (line item) text between rest a.lines l.one_line l.parts);
}

pub last_item : {A : Type 0} (place : A → ℕ × ℕ × ℕ) (items : List A) (item : A) → place item ≡ last_of bottom (map place (items ++ item ∷ []))
last_item place items item =
    sym (ap (λ (x : List (ℕ × ℕ × ℕ)). last_of bottom x) (map-append place items (item ∷ [])) ∙ last_of-push bottom (map place items) (place item))

-- ---- items of other lines that begin the same way

-- items whose lines are known by their places, and lines after them that are none of theirs
pub record Following {A : Type 0} (fits : A → Type 0) (line : A → List ℕ) (place : A → ℕ × ℕ × ℕ) (all before : List A) (end tail : List (List ℕ)) : Type 0 where
  pub after : List A
  pub places : map place all ≡ map place before ++ map place after
  pub tail_is : tail ≡ map line after ++ end
  pub fitting : All fits after

pub record IsEnd {A : Type 0} (fits : A → Type 0) (line : A → List ℕ) (end : List (List ℕ)) : Type 0 where
  pub first : List ℕ
  pub others : List (List ℕ)
  pub same : end ≡ first ∷ others
  pub foreign : (a : A) → fits a → first ≢ line a

pub head_line : (l k : List ℕ) (ls ks : List (List ℕ)) → l ∷ ls ≡ k ∷ ks → l ≡ k
head_line l k ls ks e = ap (λ (x : List (List ℕ)). get_or x 0 []) e

pub tail_lines : (l k : List ℕ) (ls ks : List (List ℕ)) → l ∷ ls ≡ k ∷ ks → ls ≡ ks
tail_lines l k ls ks e = ap (λ (x : List (List ℕ)). drop 1 x) e

pub following : {A : Type 0} (fits : A → Type 0) (line : A → List ℕ) (place : A → ℕ × ℕ × ℕ)
    → ((a b : A) → fits a → fits b → line a ≡ line b → place a ≡ place b)
    → (all before : List A) (end tail : List (List ℕ)) → IsEnd fits line end → All fits all → All fits before
    → map line before ++ tail ≡ map line all ++ end → Following fits line place all before end tail
following fits line place known all [] end tail is fa fb e = record { after = all; places = refl; tail_is = e; fitting = fa }
following fits line place known [] (b ∷ bs) end tail is fa fb e =
    absurd (is.foreign b (All-head fits b bs fb) (sym (head_line (line b) is.first (map line bs ++ tail) is.others (e ∙ is.same))))
following {A} fits line place known (a ∷ all) (b ∷ bs) end tail is fa fb e =
    let first : line b ≡ line a = head_line (line b) (line a) (map line bs ++ tail) (map line all ++ end) e in
    let rest = tail_lines (line b) (line a) (map line bs ++ tail) (map line all ++ end) e in
    let same = known b a (All-head fits b bs fb) (All-head fits a all fa) first in
    let r = following fits line place known all bs end tail is (All-tail fits a all fa) (All-tail fits b bs fb) rest in
    record {
      after = r.after;
      places = ap (λ (x : ℕ × ℕ × ℕ). x ∷ map place all) (sym same) ∙ ap (λ (x : List (ℕ × ℕ × ℕ)). place b ∷ x) r.places;
      tail_is = r.tail_is;
      fitting = r.fitting;
    }
