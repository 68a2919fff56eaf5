-- What an index says after the slots have changed.
use Rattle.std.proofs.Common.{◌≡◌, ℕ, ◌+◌, ◌<◌, ◌≤◌, Bool, true, false, cond, List, [], ◌∷◌, ◌++◌, length, get_or, set, take, map, Option, None, Some, refl, sym, ap, subst, ◌∙◌, arith}
use Rattle.std.specs.Prelude.{is_some, position}
use Rattle.std.specs.List.{list_any}
use Rattle.std.specs.Option.{option_map, option_or}
use Rattle.std.proofs.lemmas.Bool.{false≢true}
use Rattle.std.proofs.lemmas.List.{length-take-le, take_all, take_more}
use Rattle.std.proofs.lemmas.List.Folds.{list_any_at}
use Rattle.std.proofs.lemmas.List.Quantifiers.{position-Some}
use Rattle.maildir.specs.declared.folder.Place.{Place}
use Rattle.maildir.specs.declared.folder.File.{File}
use Rattle.maildir.specs.declared.folder.FileName.{FileName}
use Rattle.maildir.specs.declared.name_index.NameIndex.{NameIndex}
use Rattle.maildir.specs.Folders.{is_at, moved, name_of_file, without, AreApart}
use Rattle.maildir.specs.NameIndexes.{found_at, is_named, named}
use Rattle.maildir.specs.Slots.{files_in, holds, IsOf, Reports, under}
use Rattle.maildir.proofs.FileLemmas.{at_true}
use Rattle.maildir.proofs.PlaceLemmas.{position_any, position_filtered, position_pushed, position_pushed_other, position_set_new, position_set_other, position_mapped}
use Rattle.maildir.proofs.SlotLemmas.{alone_before, any_in, held, moved_in, nowhere_of, removed_in}

-- the name that the index is asked for
asked : (at : FileName) (p : Place) (n : List ℕ) → is_named at p n ≡ true → at ≡ named p n
asked at p n e = let file : File = record { place = at.place; name = at.name; bytes = [] } in at_true (named p n) file e

named_at : (at : FileName) (file : File) → is_at at.place at.name file ≡ true → (p : Place) (n : List ℕ) → is_at p n file ≡ is_named at p n
named_at at file e p n = ap (λ (a : FileName). is_named a p n) (at_true at file e)

-- another name than the one of the slot
other_held : (at : FileName) (slot : Option File) → holds at.place at.name slot ≡ true → (p : Place) (n : List ℕ) → is_named at p n ≡ false → holds p n slot ≡ false
other_held at slot here p n other =
    let file = held at.place at.name slot here in
    ap (holds p n) file.1 ∙ named_at at file.0 file.2 p n ∙ other

pub reported_removed : (at : FileName) (slots : List (Option File)) (i : ℕ) (old new : NameIndex) → AreApart (files_in slots) → Reports old slots
    → position (holds at.place at.name) slots ≡ Some i
    → ((p : Place) (n : List ℕ) → found_at p n new ≡ cond (is_named at p n) None (found_at p n old))
    → Reports new (set slots i None)
reported_removed at slots i old new apart states there forgets p n =
    let first = position-Some (holds at.place at.name) slots i None there in
    by_name first.0 first.1 (is_named at p n) refl
  where
    by_name : i < length slots → holds at.place at.name (get_or slots i None) ≡ true → (b : Bool) → is_named at p n ≡ b
        → found_at p n new ≡ position (holds p n) (set slots i None)
    by_name below here true e =
        let gone : position (is_at p n) (files_in (set slots i None)) ≡ None =
        ap (position (is_at p n)) (removed_in at slots i apart there)
        ∙ subst (λ (a : FileName). position (is_at p n) (without a.place a.name (files_in slots)) ≡ None) (sym (asked at p n e)) (position_filtered (is_at p n) (files_in slots)) in
        rw e at (forgets p n) ∙ sym (nowhere_of p n (set slots i None) gone)
    by_name below here false e =
        rw e at (forgets p n) ∙ states p n
        ∙ sym (position_set_other (holds p n) slots i None None below (other_held at (get_or slots i None) here p n e) refl)

pub reported_pushed : (file : File) (slots : List (Option File)) (name : List ℕ) (count : ℕ) (old new : NameIndex) → Reports old slots → position (holds file.place file.name) slots ≡ None
    → name ≡ file.name → count ≡ length slots
    → ((p : Place) (n : List ℕ) → found_at p n new ≡ cond (is_named (named file.place name) p n) (Some count) (found_at p n old))
    → Reports new (slots ++ Some file ∷ [])
reported_pushed file slots name count old new states absent named_so counted says p n = by_name (is_named (name_of_file file) p n) refl
  where
    says_here : found_at p n new ≡ cond (is_named (name_of_file file) p n) (Some (length slots)) (found_at p n old)
    says_here = says p n
        ∙ ap (λ (l : List ℕ). cond (is_named (named file.place l) p n) (Some count) (found_at p n old)) named_so
        ∙ ap (λ (k : ℕ). cond (is_named (name_of_file file) p n) (Some k) (found_at p n old)) counted

    by_name : (b : Bool) → is_named (name_of_file file) p n ≡ b → found_at p n new ≡ position (holds p n) (slots ++ Some file ∷ [])
    by_name true e =
        let none = subst (λ (a : FileName). position (holds a.place a.name) slots ≡ None) (asked (name_of_file file) p n e) absent in
        rw e at says_here ∙ sym (position_pushed (holds p n) slots (Some file) e none)
    by_name false e = rw e at says_here ∙ states p n ∙ sym (position_pushed_other (holds p n) slots (Some file) e)

pub reported_renamed : (from to : FileName) (slots : List (Option File)) (i : ℕ) (name : List ℕ) (old mid new : NameIndex) → AreApart (files_in slots) → Reports old slots
    → position (holds from.place from.name) slots ≡ Some i → position (holds to.place to.name) slots ≡ None
    → ((p : Place) (n : List ℕ) → found_at p n mid ≡ cond (is_named from p n) None (found_at p n old))
    → name ≡ to.name
    → ((p : Place) (n : List ℕ) → found_at p n new ≡ cond (is_named (named to.place name) p n) (Some i) (found_at p n mid))
    → Reports new (set slots i (option_map (under to) (get_or slots i None)))
reported_renamed from to slots i name old mid new apart states there absent forgets named_so says p n =
    let first = position-Some (holds from.place from.name) slots i None there in
    let file = held from.place from.name (get_or slots i None) first.1 in
    subst (λ (slot : Option File). found_at p n new ≡ position (holds p n) (set slots i (option_map (under to) slot))) (sym file.1)
    (by_name file.0 file.1 first.0 first.1 (is_named to p n) refl (is_named from p n) refl)
  where
    says_here : found_at p n new ≡ cond (is_named to p n) (Some i) (found_at p n mid)
    says_here = says p n ∙ ap (λ (l : List ℕ). cond (is_named (named to.place l) p n) (Some i) (found_at p n mid)) named_so

    gone : is_named to p n ≡ false → from ≡ named p n → (x : File) → is_at p n (moved from to x) ≡ false
    gone e same x = by_test (is_at from.place from.name x) refl
      where
        by_test : (b : Bool) → is_at from.place from.name x ≡ b → is_at p n (moved from to x) ≡ false
        by_test true f = rw f e
        by_test false f = rw f (subst (λ (a : FileName). is_at a.place a.name x ≡ false) same f)

    by_name : (file : File) → get_or slots i None ≡ Some file → i < length slots → holds from.place from.name (get_or slots i None) ≡ true
        → (s : Bool) → is_named to p n ≡ s → (t : Bool) → is_named from p n ≡ t
        → found_at p n new ≡ position (holds p n) (set slots i (Some (under to file)))
    by_name file is below here true e t f =
        let none = subst (λ (a : FileName). position (holds a.place a.name) slots ≡ None) (asked to p n e) absent in
        rw e at says_here ∙ sym (position_set_new (holds p n) slots i (Some (under to file)) below e none)
    by_name file is below here false e true f =
        let moves : files_in (set slots i (Some (under to file))) ≡ map (moved from to) (files_in slots) =
        subst (λ (slot : Option File). files_in (set slots i (option_map (under to) slot)) ≡ map (moved from to) (files_in slots)) is (moved_in from to slots i apart there) in
        let none : position (is_at p n) (files_in (set slots i (Some (under to file)))) ≡ None =
        ap (position (is_at p n)) moves ∙ position_mapped (is_at p n) (moved from to) (gone e (asked from p n f)) (files_in slots) in
        rw e at says_here ∙ rw f at (forgets p n) ∙ sym (nowhere_of p n (set slots i (Some (under to file))) none)
    by_name file is below here false e false f =
        rw e at says_here ∙ rw f at (forgets p n) ∙ states p n
        ∙ sym (position_set_other (holds p n) slots i (Some (under to file)) None below (other_held from (get_or slots i None) here p n f) e)

-- ---- each file's slot is noted anew

-- the slots up to this one were noted
abbrev pub NotedTo : ℕ → List (Option File) → (old new : NameIndex) → Type 0
NotedTo i slots old new = (p : Place) (n : List ℕ) → found_at p n new ≡ option_or (position (holds p n) (take i slots)) (found_at p n old)

pub noted_none : (slots : List (Option File)) (i : ℕ) (old new : NameIndex) → i < length slots → get_or slots i None ≡ None → NotedTo i slots old new → NotedTo (i + 1) slots old new
noted_none slots i old new below is noted p n =
    noted p n ∙ sym (ap (λ (place : Option ℕ). option_or place (found_at p n old))
    (ap (position (holds p n)) (take_more slots i None below ∙ ap (λ (slot : Option File). take i slots ++ slot ∷ []) is) ∙ position_pushed_other (holds p n) (take i slots) None refl))

pub noted_one : (file : File) (slots : List (Option File)) (i : ℕ) (name : List ℕ) (old mid new : NameIndex) → AreApart (files_in slots) → IsOf old slots
    → i < length slots → get_or slots i None ≡ Some file → name ≡ file.name → NotedTo i slots old mid
    → ((p : Place) (n : List ℕ) → found_at p n new ≡ cond (is_named (named file.place name) p n) (option_map (λ before. i) (found_at p n mid)) (found_at p n mid))
    → NotedTo (i + 1) slots old new
noted_one file slots i name old mid new apart of_them below is named_so noted says p n = by_name (is_named (name_of_file file) p n) refl
  where
    says_here : found_at p n new ≡ cond (is_named (name_of_file file) p n) (option_map (λ before. i) (found_at p n mid)) (found_at p n mid)
    says_here = says p n ∙ ap (λ (l : List ℕ). cond (is_named (named file.place l) p n) (option_map (λ before. i) (found_at p n mid)) (found_at p n mid)) named_so

    more : take (i + 1) slots ≡ take i slots ++ Some file ∷ []
    more = take_more slots i None below ∙ ap (λ (slot : Option File). take i slots ++ slot ∷ []) is

    moves : (before : Option ℕ) → is_some before ≡ true → option_map (λ b. i) before ≡ Some i
    moves None e = absurd (false≢true e)
    moves (Some b) e = refl

    by_name : (b : Bool) → is_named (name_of_file file) p n ≡ b → found_at p n new ≡ option_or (position (holds p n) (take (i + 1) slots)) (found_at p n old)
    by_name true e =
        let none : position (holds p n) (take i slots) ≡ None =
        subst (λ (a : FileName). position (holds a.place a.name) (take i slots) ≡ None) (asked (name_of_file file) p n e) (alone_before file slots i apart below is) in
        let there : is_some (found_at p n old) ≡ true = of_them p n ∙ list_any_at (holds p n) slots i None below (ap (holds p n) is ∙ e) in
        let before : found_at p n mid ≡ found_at p n old = noted p n ∙ ap (λ (place : Option ℕ). option_or place (found_at p n old)) none in
        let len : length (take i slots) ≡ i = length-take-le i slots (omega arith) in
        rw e at says_here ∙ moves (found_at p n mid) (ap is_some before ∙ there)
        ∙ sym (ap (λ (place : Option ℕ). option_or place (found_at p n old))
        (ap (position (holds p n)) more ∙ position_pushed (holds p n) (take i slots) (Some file) e none ∙ ap (λ (k : ℕ). Some k) len))
    by_name false e =
        rw e at says_here ∙ noted p n
        ∙ sym (ap (λ (place : Option ℕ). option_or place (found_at p n old)) (ap (position (holds p n)) more ∙ position_pushed_other (holds p n) (take i slots) (Some file) e))

pub noted_all : (slots : List (Option File)) (i : ℕ) (old new : NameIndex) → IsOf old slots → length slots ≤ i → NotedTo i slots old new → Reports new slots
noted_all slots i old new of_them all noted p n =
    noted p n ∙ ap (λ (l : List (Option File)). option_or (position (holds p n) l) (found_at p n old)) (take_all i slots all)
    ∙ by_place (position (holds p n) slots) refl
  where
    none_of : (found : Option ℕ) → is_some found ≡ false → found ≡ None
    none_of None e = refl
    none_of (Some k) e = absurd (false≢true (sym e))

    by_place : (place : Option ℕ) → position (holds p n) slots ≡ place → option_or place (found_at p n old) ≡ place
    by_place (Some k) e = refl
    by_place None e = none_of (found_at p n old) (of_them p n ∙ sym (position_any (holds p n) slots) ∙ ap is_some e)

-- an index that describes slots is of their files, and of these alone
pub reported_is_of : (index : NameIndex) (slots other : List (Option File)) → Reports index slots → files_in other ≡ files_in slots → IsOf index other
reported_is_of index slots other states same p n =
    ap is_some (states p n) ∙ position_any (holds p n) slots ∙ any_in p n slots ∙ ap (list_any (is_at p n)) (sym same) ∙ sym (any_in p n other)
