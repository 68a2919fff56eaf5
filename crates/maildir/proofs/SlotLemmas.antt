-- Files in slots of which some are empty.
use Rattle.std.proofs.Common.{◌≡◌, ℕ, zero, suc, ◌+◌, ◌<◌, Bool, true, false, ◌||◌, List, [], ◌∷◌, ◌++◌, length, get_or, set, take, map, filter, Option, None, Some, refl, sym, ap, subst, ◌∙◌, inl, inr, arith}
use Rattle.std.specs.Prelude.{find, is_some, position}
use Rattle.std.specs.List.{list_any, remove}
use Rattle.std.specs.Option.{option_map}
use Rattle.std.proofs.lemmas.Bool.{cases_Bool, false≢true}
use Rattle.std.proofs.lemmas.List.{get_or_default}
use Rattle.std.proofs.lemmas.List.Edits.{length-remove}
use Rattle.std.proofs.lemmas.List.Quantifiers.{position-Some}
use Rattle.maildir.specs.declared.folder.Place.{Place}
use Rattle.maildir.specs.declared.folder.File.{File}
use Rattle.maildir.specs.declared.folder.FileName.{FileName}
use Rattle.maildir.specs.Folders.{AreApart, is_at, moved, name_of_file, without}
use Rattle.maildir.specs.Slots.{files_in, holds, under}
use Rattle.maildir.proofs.FileLemmas.{apart_head, apart_tail, at_true, moved_at, removed_at}
use Rattle.maildir.proofs.PlaceLemmas.{find_some, position_any}

-- ---- a name among the slots, and among the files

pub any_in : (p : Place) (n : List ℕ) (slots : List (Option File)) → list_any (holds p n) slots ≡ list_any (is_at p n) (files_in slots)
any_in p n [] = refl
any_in p n (None ∷ slots) = any_in p n slots
any_in p n (Some file ∷ slots) = ap (λ (b : Bool). is_at p n file || b) (any_in p n slots)

pub any_none : {X : Type 0} (t : X → Bool) (xs : List X) → position t xs ≡ None → list_any t xs ≡ false
any_none t xs none = sym (position_any t xs) ∙ ap is_some none

pub none_any : {X : Type 0} (t : X → Bool) (xs : List X) → list_any t xs ≡ false → position t xs ≡ None
none_any {X} t xs none = by_place (position t xs) (position_any t xs ∙ none)
  where
    by_place : (place : Option ℕ) → is_some place ≡ false → place ≡ None
    by_place None e = refl
    by_place (Some i) e = absurd (false≢true (sym e))

-- no file has the name
pub nowhere_in : (p : Place) (n : List ℕ) (slots : List (Option File)) → position (holds p n) slots ≡ None → position (is_at p n) (files_in slots) ≡ None
nowhere_in p n slots none = none_any (is_at p n) (files_in slots) (sym (any_in p n slots) ∙ any_none (holds p n) slots none)

pub nowhere_of : (p : Place) (n : List ℕ) (slots : List (Option File)) → position (is_at p n) (files_in slots) ≡ None → position (holds p n) slots ≡ None
nowhere_of p n slots none = none_any (holds p n) slots (any_in p n slots ∙ any_none (is_at p n) (files_in slots) none)

-- ---- the file in a slot

pub held : (p : Place) (n : List ℕ) (slot : Option File) → holds p n slot ≡ true → (file : File) × (slot ≡ Some file) × (is_at p n file ≡ true)
held p n None e = absurd (false≢true e)
held p n (Some file) e = (file, refl, e)

abbrev flat : Option (Option File) → Option File
flat None = None
flat (Some slot) = slot

find_in : (p : Place) (n : List ℕ) (slots : List (Option File)) → find (is_at p n) (files_in slots) ≡ flat (find (holds p n) slots)
find_in p n [] = refl
find_in p n (None ∷ slots) = find_in p n slots
find_in p n (Some file ∷ slots) = elim (cases_Bool (is_at p n file)) [
  | inl e ↦ rw e refl
  | inr e ↦ rw e (find_in p n slots)
]

pub found_in_slot : (p : Place) (n : List ℕ) (slots : List (Option File)) (i : ℕ) (d : Option File) → position (holds p n) slots ≡ Some i → find (is_at p n) (files_in slots) ≡ get_or slots i d
found_in_slot p n slots i d found = find_in p n slots ∙ ap flat (find_some (holds p n) slots i d found)

pub none_default : {X : Type 0} (t : Option X → Bool) (xs : List (Option X)) (i : ℕ) (x : Option X) → position t xs ≡ Some i → x ≡ get_or xs i x → x ≡ get_or xs i None
none_default t xs i x found is = is ∙ get_or_default xs i x None (position-Some t xs i None found).0

-- where the file of a slot stands in the list, and what becomes of the list where the slot changes
pub record Listed (slots : List (Option File)) (i : ℕ) (file : File) : Type 0 where
  pub at : ℕ
  pub within : at < length (files_in slots)
  pub is : (d : File) → get_or (files_in slots) at d ≡ file
  pub cleared : files_in (set slots i None) ≡ remove (files_in slots) at
  pub changed : (new : File) → files_in (set slots i (Some new)) ≡ set (files_in slots) at new

pub listed : (slots : List (Option File)) (i : ℕ) (file : File) → i < length slots → get_or slots i None ≡ Some file → Listed slots i file
listed [] i file within is = absurd (omega arith)
listed (None ∷ slots) zero file within is = cc
listed (Some other ∷ slots) zero file within is = record {
  at = 0;
  within = omega arith;
  is = λ d. cc;
  cleared = refl;
  changed = λ new. refl;
}
listed (None ∷ slots) (suc i) file within is =
    let rest = listed slots i file (omega arith) is in
    record { at = rest.at; within = rest.within; is = rest.is; cleared = rest.cleared; changed = rest.changed }
listed (Some other ∷ slots) (suc i) file within is =
    let rest = listed slots i file (omega arith) is in
    record {
      at = suc rest.at;
      within = let below = rest.within in omega arith;
      is = rest.is;
      cleared = ap (λ (l : List File). other ∷ l) rest.cleared;
      changed = λ new. ap (λ (l : List File). other ∷ l) (rest.changed new);
    }

-- ---- a slot is emptied, or its file gets another name

pub removed_in : (at : FileName) (slots : List (Option File)) (i : ℕ) → AreApart (files_in slots) → position (holds at.place at.name) slots ≡ Some i
    → files_in (set slots i None) ≡ without at.place at.name (files_in slots)
removed_in at slots i apart found =
    let first = position-Some (holds at.place at.name) slots i None found in
    let file = held at.place at.name (get_or slots i None) first.1 in
    let there = listed slots i file.0 first.0 file.1 in
    there.cleared ∙ removed_at at (files_in slots) there.at file.0 there.within (subst (λ (f : File). is_at at.place at.name f ≡ true) (sym (there.is file.0)) file.2) apart

pub one_less : (at : FileName) (slots : List (Option File)) (i : ℕ) → position (holds at.place at.name) slots ≡ Some i
    → length (files_in (set slots i None)) + 1 ≡ length (files_in slots)
one_less at slots i found =
    let first = position-Some (holds at.place at.name) slots i None found in
    let file = held at.place at.name (get_or slots i None) first.1 in
    let there = listed slots i file.0 first.0 file.1 in
    ap (λ (l : List File). length l + 1) there.cleared ∙ length-remove (files_in slots) there.at there.within

pub moved_in : (from to : FileName) (slots : List (Option File)) (i : ℕ) → AreApart (files_in slots) → position (holds from.place from.name) slots ≡ Some i
    → files_in (set slots i (option_map (under to) (get_or slots i None))) ≡ map (moved from to) (files_in slots)
moved_in from to slots i apart found =
    let first = position-Some (holds from.place from.name) slots i None found in
    let file = held from.place from.name (get_or slots i None) first.1 in
    let there = listed slots i file.0 first.0 file.1 in
    let here : is_at from.place from.name (get_or (files_in slots) there.at file.0) ≡ true = subst (λ (f : File). is_at from.place from.name f ≡ true) (sym (there.is file.0)) file.2 in
    let moves : moved from to file.0 ≡ under to file.0 = rw file.2 refl in
    ap (λ (slot : Option File). files_in (set slots i (option_map (under to) slot))) file.1
    ∙ there.changed (under to file.0)
    ∙ sym (moved_at from to (files_in slots) there.at file.0 there.within here apart
    ∙ ap (λ (f : File). set (files_in slots) there.at (moved from to f)) (there.is file.0)
    ∙ ap (λ (f : File). set (files_in slots) there.at f) moves)

-- ---- one more slot at the end

pub pushed_in : (slots : List (Option File)) (file : File) → files_in (slots ++ Some file ∷ []) ≡ files_in slots ++ file ∷ []
pushed_in [] file = refl
pushed_in (None ∷ slots) file = pushed_in slots file
pushed_in (Some other ∷ slots) file = ap (λ (l : List File). other ∷ l) (pushed_in slots file)

pub no_more : (slots : List (Option File)) → length (files_in slots) < length slots + 1
no_more [] = omega arith
no_more (None ∷ slots) = let rest = no_more slots in omega arith
no_more (Some file ∷ slots) = let rest = no_more slots in omega arith

-- ---- the empty slots go

pub filled_in : (slots : List (Option File)) → files_in (filter is_some slots) ≡ files_in slots
filled_in [] = refl
filled_in (None ∷ slots) = filled_in slots
filled_in (Some file ∷ slots) = ap (λ (l : List File). file ∷ l) (filled_in slots)

-- ---- no file before it has its name

none_before : (file : File) (slots : List (Option File)) (i : ℕ) → AreApart (files_in slots) → i < length slots → get_or slots i None ≡ Some file
    → list_any (holds file.place file.name) (take i slots) ≡ false
none_before file [] i apart within is = absurd (omega arith)
none_before file (slot ∷ slots) zero apart within is = refl
none_before file (None ∷ slots) (suc i) apart within is = none_before file slots i apart (omega arith) is
none_before file (Some other ∷ slots) (suc i) apart within is =
    let there = listed slots i file (omega arith) is in
    let rest = none_before file slots i (apart_tail other (files_in slots) apart) (omega arith) is in
    elim (cases_Bool (is_at file.place file.name other)) [
      | inl e ↦ absurd (apart_head other (files_in slots) apart there.at file there.within (at_true (name_of_file file) other e ∙ sym (ap name_of_file (there.is file))))
      | inr e ↦ rw e rest
    ]

pub alone_before : (file : File) (slots : List (Option File)) (i : ℕ) → AreApart (files_in slots) → i < length slots → get_or slots i None ≡ Some file
    → position (holds file.place file.name) (take i slots) ≡ None
alone_before file slots i apart within is = none_any (holds file.place file.name) (take i slots) (none_before file slots i apart within is)
