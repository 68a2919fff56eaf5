-- What others add before a call of a folder, they could as well have added after it.
use Rattle.std.proofs.Common.{◌≡◌, ◌≢◌, ℕ, Bool, true, false, not, cond, ◌||◌, All, List, [], ◌∷◌, ◌++◌, get_or, map, filter, Option, None, Some, refl, sym, ap, subst, ◌∙◌, append_assoc, append-nil, arith}
use Rattle.std.specs.List.{list_any}
use Rattle.std.specs.List.Sorted.{IsPermutation}
use Rattle.std.proofs.lemmas.Bool.{false≢true}
use Rattle.std.proofs.lemmas.List.{map-append}
use Rattle.std.proofs.lemmas.List.Elements.{filter-append, All-append, All-filter, All-map, All-weaker, All-head, All-tail, All-cons, All-nil}
use Rattle.std.proofs.lemmas.List.Folds.{list_any_at, list_any_none}
use Rattle.std.proofs.lemmas.List.Sorted.{IsPermutation-refl, IsPermutation-sym, IsPermutation-trans, IsPermutation-map, IsPermutation-append_left, IsPermutation-append_right, IsPermutation-append_comm, All-permutation}
use Rattle.mailcore.specs.Content.{mark_of}
use Rattle.mailcore.specs.Visitors.{AreOctets, IsForeign, Visitors}
use Rattle.maildir.specs.declared.folder.File.{File}
use Rattle.maildir.specs.declared.folder.FileName.{FileName}
use Rattle.maildir.specs.Folders.{Stored, AreApart, is_at, is_left, moved, name_of_file, placed, removed_file, renamed_file, with_copy, with_meta, without}
use Rattle.maildir.specs.Gains.{Adds, Gains, IsArrival}
use Rattle.maildir.specs.MemFolders.{with_arrival, with_file}
use Rattle.maildir.specs.Names.{is_waiting}
use Rattle.maildir.proofs.FileLemmas.{at_true, at_from_name}
use Rattle.maildir.proofs.PermutedLemmas.{passing_in_any_order, pairs_permuted, pairs_append}

-- ---- what stays

all_front : {X : Type 0} (P : X → Type 0) (xs ys : List X) → All P (xs ++ ys) → All P xs
all_front P [] ys h = All-nil P
all_front P (x ∷ xs) ys h = All-cons P x xs (All-head P x (xs ++ ys) h) (all_front P xs ys (All-tail P x (xs ++ ys) h))

all_after : {X : Type 0} (P : X → Type 0) (xs ys : List X) → All P (xs ++ ys) → All P ys
all_after P [] ys h = h
all_after P (x ∷ xs) ys h = all_after P xs ys (All-tail P x (xs ++ ys) h)

filter_stays : {X : Type 0} (p : X → Bool) (xs : List X) → All (λ x. p x ≡ true) xs → filter p xs ≡ xs
filter_stays p [] h = refl
filter_stays {X} p (x ∷ xs) h =
    ap (λ (b : Bool). cond b (x ∷ filter p xs) (filter p xs)) (All-head (λ (x : X). p x ≡ true) x xs h)
    ∙ ap (λ (l : List X). x ∷ l) (filter_stays p xs (All-tail (λ (x : X). p x ≡ true) x xs h))

map_stays : {X : Type 0} (f : X → X) (xs : List X) → All (λ x. f x ≡ x) xs → map f xs ≡ xs
map_stays f [] h = refl
map_stays {X} f (x ∷ xs) h =
    ap (λ (y : X). y ∷ map f xs) (All-head (λ (x : X). f x ≡ x) x xs h)
    ∙ ap (λ (l : List X). x ∷ l) (map_stays f xs (All-tail (λ (x : X). f x ≡ x) x xs h))

-- ---- a file that has another name

pub not_at : (at : FileName) (file : File) → name_of_file file ≢ at → is_at at.place at.name file ≡ false
not_at at file other = by_test (is_at at.place at.name file) refl
  where
    by_test : (b : Bool) → is_at at.place at.name file ≡ b → b ≡ false
    by_test true e = absurd (other (at_true at file e))
    by_test false e = refl

-- a name that does not wait is none of one that waits
apart_from_named : (to : FileName) (file : File) → is_waiting to.name ≡ false → is_waiting file.name ≡ true → name_of_file file ≢ to
apart_from_named to file none waits same = false≢true (sym none ∙ ap (λ (at : FileName). is_waiting at.name) (sym same) ∙ waits)

-- a name of its own is none of one that is there
apart_from_there : (at : FileName) (files : List File) (file : File) → list_any (is_at at.place at.name) files ≡ true
    → All (λ f. name_of_file f ≢ name_of_file file) files → name_of_file file ≢ at
apart_from_there at files file there own same =
    false≢true (sym (list_any_none (is_at at.place at.name) files
    (All-weaker (λ f. name_of_file f ≢ name_of_file file) (λ f. is_at at.place at.name f ≡ false) (λ f other. not_at at f (λ e. other (e ∙ sym same))) files own)) ∙ there)

or_true : (b : Bool) → (b || true) ≡ true
or_true true = refl
or_true false = refl

module _ (v : Visitors) (s m : Stored) (g : Gains v s m) where
  abbrev arrives : File → Type 0
  arrives = IsArrival v.ours s.files

  -- ---- a name that no arrival has

  abbrev IsNone : FileName → Type 0
  IsNone at = (y : File) → arrives y → name_of_file y ≢ at

  none_there : (at : FileName) → list_any (is_at at.place at.name) s.files ≡ true → IsNone at
  none_there at there = λ y a. apart_from_there at s.files y there a.own

  none_named : (to : FileName) → is_waiting to.name ≡ false → IsNone to
  none_named to named = λ y a. apart_from_named to y named a.waits

  abbrev stays_without : FileName → File → Type 0
  stays_without at y = is_left None at.place at.name y ≡ true

  more_stay : (at : FileName) → IsNone at → All (stays_without at) g.more
  more_stay at none = All-weaker arrives (stays_without at) (λ y a. ap not (not_at at y (none y a))) g.more g.arrivals

  without_gained : (at : FileName) → IsNone at → IsPermutation (without at.place at.name s.files ++ g.more) (without at.place at.name m.files)
  without_gained at none =
      let p : File → Bool = is_left None at.place at.name in
      subst (λ (l : List File). IsPermutation l (filter p m.files))
      (filter-append p s.files g.more ∙ ap (λ (l : List File). filter p s.files ++ l) (filter_stays p g.more (more_stay at none)))
      (passing_in_any_order p (s.files ++ g.more) m.files g.files)

  still : (at : FileName) → (y : File) → arrives y → IsArrival v.ours (without at.place at.name s.files) y
  still at y a = record { waits = a.waits; own = All-filter (is_left None at.place at.name) (λ f. name_of_file f ≢ name_of_file y) s.files a.own; octets = a.octets; foreign = a.foreign }

  -- ---- calls

  pub removed_after : (at : FileName) → list_any (is_at at.place at.name) s.files ≡ true → Gains v (removed_file at s) (removed_file at m)
  removed_after at there = record {
    more = g.more;
    files = without_gained at (none_there at there);
    arrivals = All-weaker arrives (IsArrival v.ours (without at.place at.name s.files)) (still at) g.more g.arrivals;
    apart = g.apart;
    is_there = g.is_there;
    copy = g.copy;
    meta = g.meta;
    nobody = λ alone. ap (removed_file at) (g.nobody alone);
  }

  put_after : (to : FileName) (bytes : List ℕ) → is_waiting to.name ≡ false → s.copy ≡ Some bytes → Gains v (placed to s) (placed to m)
  put_after to bytes named is =
      let file : File = record { place = to.place; name = to.name; bytes = bytes } in
      let one : List File = file ∷ [] in
      let front : List File = without to.place to.name s.files in
      let following : List File = without to.place to.name m.files in
      let none : IsNone to = none_named to named in
      let turned : IsPermutation ((front ++ one) ++ g.more) ((front ++ g.more) ++ one) =
      subst (λ (l : List File). IsPermutation l ((front ++ g.more) ++ one)) (sym (append_assoc front one g.more))
      (subst (λ (l : List File). IsPermutation (front ++ (one ++ g.more)) l) (sym (append_assoc front g.more one))
      (IsPermutation-append_right front (one ++ g.more) (g.more ++ one) (IsPermutation-append_comm one g.more))) in
      let copied : placed to s ≡ record s { files = front ++ one; copy = None } = rw is refl in
      let copied_too : placed to m ≡ record m { files = following ++ one; copy = None } = rw (g.copy, is) refl in
      subst (λ (x : Stored). Gains v x (placed to m)) (sym copied) (subst (λ (x : Stored). Gains v (record s { files = front ++ one; copy = None }) x) (sym copied_too) (record {
        more = g.more;
        files = IsPermutation-trans ((front ++ one) ++ g.more) ((front ++ g.more) ++ one) (following ++ one) turned
            (IsPermutation-append_left one (front ++ g.more) following (without_gained to none));
        arrivals = All-weaker arrives (IsArrival v.ours (front ++ one)) (λ y a. record {
          waits = a.waits;
          own = All-append (λ f. name_of_file f ≢ name_of_file y) front one (still to y a).own
              (All-cons (λ f. name_of_file f ≢ name_of_file y) file [] (λ e. none y a (sym e)) (All-nil (λ f. name_of_file f ≢ name_of_file y)));
          octets = a.octets;
          foreign = a.foreign;
        }) g.more g.arrivals;
        apart = g.apart;
        is_there = g.is_there;
        copy = refl;
        meta = g.meta;
        nobody = λ alone. sym copied_too ∙ ap (placed to) (g.nobody alone) ∙ copied;
      }))

  pub placed_after : (to : FileName) → is_waiting to.name ≡ false → Gains v (placed to s) (placed to m)
  placed_after to named = by_copy s.copy refl
    where
      by_copy : (copy : Option (List ℕ)) → s.copy ≡ copy → Gains v (placed to s) (placed to m)
      by_copy (Some bytes) is = put_after to bytes named is
      by_copy None is =
          let same : placed to s ≡ record s { copy = None } = rw is refl in
          let same_too : placed to m ≡ record m { copy = None } = rw (g.copy, is) refl in
          subst (λ (x : Stored). Gains v x (placed to m)) (sym same) (subst (λ (x : Stored). Gains v (record s { copy = None }) x) (sym same_too) (record {
            more = g.more;
            files = g.files;
            arrivals = g.arrivals;
            apart = g.apart;
            is_there = g.is_there;
            copy = refl;
            meta = g.meta;
            nobody = λ alone. sym same_too ∙ ap (placed to) (g.nobody alone) ∙ same;
          }))

  pub renamed_after : (from to : FileName) → list_any (is_at from.place from.name) s.files ≡ true → is_waiting to.name ≡ false
      → Gains v (renamed_file from to s) (renamed_file from to m)
  renamed_after from to there named =
      let p : File → Bool = is_left (Some from) to.place to.name in
      let mv : File → File = moved from to in
      let off_from : IsNone from = none_there from there in
      let off_to : IsNone to = none_named to named in
      let kept : filter p g.more ≡ g.more = filter_stays p g.more
      (All-weaker arrives (λ y. p y ≡ true) (λ y a. ap (λ (b : Bool). is_at from.place from.name y || not b) (not_at to y (off_to y a)) ∙ or_true (is_at from.place from.name y)) g.more g.arrivals) in
      let same : map mv g.more ≡ g.more = map_stays mv g.more
      (All-weaker arrives (λ y. mv y ≡ y) (λ y a. rw (not_at from y (off_from y a)) refl) g.more g.arrivals) in
      let split : map mv (filter p (s.files ++ g.more)) ≡ map mv (filter p s.files) ++ g.more =
      ap (λ (l : List File). map mv l) (filter-append p s.files g.more ∙ ap (λ (l : List File). filter p s.files ++ l) kept)
      ∙ map-append mv (filter p s.files) g.more ∙ ap (λ (l : List File). map mv (filter p s.files) ++ l) same in
      record {
        more = g.more;
        files = subst (λ (l : List File). IsPermutation l (map mv (filter p m.files))) split
            (IsPermutation-map mv (filter p (s.files ++ g.more)) (filter p m.files) (passing_in_any_order p (s.files ++ g.more) m.files g.files));
        arrivals = All-weaker arrives (IsArrival v.ours (map mv (filter p s.files))) (λ y a. record {
          waits = a.waits;
          own = All-map (λ x. name_of_file x ≢ name_of_file y) mv (filter p s.files)
              (All-weaker (λ x. name_of_file x ≢ name_of_file y) (λ x. name_of_file (mv x) ≢ name_of_file y) (apart_moved y (off_to y a)) (filter p s.files)
              (All-filter p (λ x. name_of_file x ≢ name_of_file y) s.files a.own));
          octets = a.octets;
          foreign = a.foreign;
        }) g.more g.arrivals;
        apart = g.apart;
        is_there = g.is_there;
        copy = g.copy;
        meta = g.meta;
        nobody = λ alone. ap (renamed_file from to) (g.nobody alone);
      }
    where
      apart_moved : (y : File) → name_of_file y ≢ to → (x : File) → name_of_file x ≢ name_of_file y → name_of_file (moved from to x) ≢ name_of_file y
      apart_moved y off x other = elim (is_at from.place from.name x) as (λ b. name_of_file (cond b (record { place = to.place; name = to.name; bytes = x.bytes }) x) ≢ name_of_file y) [ true ↦ (λ e. off (sym e)) | false ↦ other ]

  pub meta_after : (text : List ℕ) → Gains v (with_meta text s) (with_meta text m)
  meta_after text = record { more = g.more; files = g.files; arrivals = g.arrivals; apart = g.apart; is_there = g.is_there; copy = g.copy; meta = refl; nobody = λ alone. ap (with_meta text) (g.nobody alone) }

  pub copy_after : (bytes : List ℕ) → Gains v (with_copy bytes s) (with_copy bytes m)
  copy_after bytes = record { more = g.more; files = g.files; arrivals = g.arrivals; apart = g.apart; is_there = g.is_there; copy = refl; meta = g.meta; nobody = λ alone. ap (with_copy bytes) (g.nobody alone) }

  -- ---- the files stay apart

  pub apart_gained : AreApart s.files → AreApart m.files
  apart_gained apart =
      pairs_permuted (λ a b. name_of_file a ≡ name_of_file b → ⊥) (λ a b other same. other (sym same)) (s.files ++ g.more) m.files g.files
      (pairs_append (λ a b. name_of_file a ≡ name_of_file b → ⊥) s.files g.more apart g.apart
      (All-weaker arrives (λ y. All (λ x. name_of_file x ≢ name_of_file y) s.files) (λ y a. a.own) g.more g.arrivals))

-- ---- others add, and add more

pub gains_none : (v : Visitors) (s : Stored) → Gains v s s
gains_none v s = record {
  more = [];
  files = subst (λ (l : List File). IsPermutation l s.files) (sym (append-nil s.files)) (IsPermutation-refl s.files);
  arrivals = All-nil (IsArrival v.ours s.files);
  apart = λ i j d less below. absurd (omega arith);
  is_there = refl;
  copy = refl;
  meta = refl;
  nobody = λ alone. refl;
}

pub adds_none : (v : Visitors) (s : Stored) → Adds v s s
unfolding gains_none
adds_none v s = record { gains = gains_none v s; following = sym (append-nil s.files) }

pub gains_more : (v : Visitors) (s m n : Stored) → Gains v s m → Gains v m n → Gains v s n
gains_more v s m n g h =
    let at_first : (y : File) → IsArrival v.ours m.files y → All (λ f. name_of_file f ≢ name_of_file y) (s.files ++ g.more) =
    λ y a. All-permutation (λ f. name_of_file f ≢ name_of_file y) m.files (s.files ++ g.more) (IsPermutation-sym (s.files ++ g.more) m.files g.files) a.own in
    record {
      more = g.more ++ h.more;
      files = subst (λ (l : List File). IsPermutation l n.files) (append_assoc s.files g.more h.more)
          (IsPermutation-trans ((s.files ++ g.more) ++ h.more) (m.files ++ h.more) n.files (IsPermutation-append_left h.more (s.files ++ g.more) m.files g.files) h.files);
      arrivals = All-append (IsArrival v.ours s.files) g.more h.more g.arrivals
          (All-weaker (IsArrival v.ours m.files) (IsArrival v.ours s.files) (λ y a. record {
            waits = a.waits;
            own = all_front (λ f. name_of_file f ≢ name_of_file y) s.files g.more (at_first y a);
            octets = a.octets;
            foreign = a.foreign;
          }) h.more h.arrivals);
      apart = pairs_append (λ a b. name_of_file a ≡ name_of_file b → ⊥) g.more h.more g.apart h.apart
          (All-weaker (IsArrival v.ours m.files) (λ y. All (λ x. name_of_file x ≢ name_of_file y) g.more)
          (λ y a. all_after (λ f. name_of_file f ≢ name_of_file y) s.files g.more (at_first y a)) h.more h.arrivals);
      is_there = h.is_there ∙ g.is_there;
      copy = h.copy ∙ g.copy;
      meta = h.meta ∙ g.meta;
      nobody = λ alone. h.nobody alone ∙ g.nobody alone;
    }

pub adds_more : (v : Visitors) (s m n : Stored) → Adds v s m → Adds v m n → Adds v s n
unfolding gains_more
adds_more v s m n g h = record {
  gains = gains_more v s m n g.gains h.gains;
  following = h.following ∙ ap (λ (l : List File). l ++ h.gains.more) g.following ∙ append_assoc s.files g.gains.more h.gains.more;
}

-- ---- a file arrives

-- no file has this name
none_has : (at : FileName) (files : List File) → list_any (is_at at.place at.name) files ≡ false → All (λ f. name_of_file f ≢ at) files
none_has at files none = λ k d below same. false≢true (sym none ∙ list_any_at (is_at at.place at.name) files k d below (at_from_name at (get_or files k d) same))

-- a file under a name that none has takes no other's place
pub put_after_all : (s : Stored) (file : File) → list_any (is_at file.place file.name) s.files ≡ false → with_file file s ≡ with_arrival file s
put_after_all s file none =
    let others : without file.place file.name s.files ≡ s.files = filter_stays (is_left None file.place file.name) s.files
    (All-weaker (λ f. name_of_file f ≢ name_of_file file) (λ f. is_left None file.place file.name f ≡ true) (λ f other. ap not (not_at (name_of_file file) f other)) s.files (none_has (name_of_file file) s.files none)) in
    rw others refl

pub one_arrives : (v : Visitors) (s : Stored) (file : File) → v.alone ≡ false → is_waiting file.name ≡ true → AreOctets file.bytes → IsForeign v.ours (mark_of file.bytes)
    → list_any (is_at file.place file.name) s.files ≡ false → Gains v s (with_arrival file s)
one_arrives v s file others waits octets foreign none = record {
  more = file ∷ [];
  files = IsPermutation-refl (s.files ++ file ∷ []);
  arrivals = All-cons (IsArrival v.ours s.files) file [] (record { waits = waits; own = none_has (name_of_file file) s.files none; octets = octets; foreign = foreign }) (All-nil (IsArrival v.ours s.files));
  apart = λ i j d less below. absurd (omega arith);
  is_there = refl;
  copy = refl;
  meta = refl;
  nobody = λ alone. absurd (false≢true (sym others ∙ alone));
}

pub one_added : (v : Visitors) (s : Stored) (file : File) → v.alone ≡ false → is_waiting file.name ≡ true → AreOctets file.bytes → IsForeign v.ours (mark_of file.bytes)
    → list_any (is_at file.place file.name) s.files ≡ false → Adds v s (with_arrival file s)
unfolding one_arrives
one_added v s file others waits octets foreign none = record { gains = one_arrives v s file others waits octets foreign none; following = refl }
