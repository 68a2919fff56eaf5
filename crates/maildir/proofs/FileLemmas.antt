-- Lists of files that stand apart.
use Rattle.std.proofs.Common.{◌≡◌, ℕ, zero, suc, ◌<◌, Bool, true, false, not, cond, ltb, ◌||◌, List, [], ◌∷◌, ◌++◌, length, get_or, set, map, Option, None, Some, All, refl, sym, ap, subst, ◌∙◌, inl, inr, arith}
use Rattle.std.specs.Prelude.{nat_eq, position}
use Rattle.std.specs.Cmp.Lexicographic.{pointwise, bytes_decides}
use Rattle.std.proofs.lemmas.Bool.{and_parts, cases_Bool, false≢true, true≢false}
use Rattle.std.proofs.lemmas.List.{get_or-map, length-map}
use Rattle.std.proofs.lemmas.List.Elements.{filter_passes, All-get_or}
use Rattle.std.proofs.lemmas.Bool.Decides.{nat_tests}
use Rattle.std.specs.List.{position_or_len, remove}
use Rattle.std.proofs.lemmas.List.Sums.{fails_before_first}
use Rattle.std.proofs.lemmas.List.Quantifiers.{all_pairs_push}
use Rattle.std.proofs.lemmas.List.Kept.{AllPairs-filter}
use Rattle.maildir.specs.declared.folder.Place.{Place}
use Rattle.maildir.specs.declared.folder.Place.TheVariants.{New, Cur}
use Rattle.maildir.specs.declared.folder.File.{File}
use Rattle.maildir.specs.declared.folder.FileName.{FileName}
use Rattle.maildir.specs.Folders.{is_place, is_at, is_left, left, without, moved, name_of_file, AreApart}

place_true : (a b : Place) → is_place a b ≡ true → a ≡ b
place_true New New e = refl
place_true New Cur e = absurd (false≢true e)
place_true Cur New e = absurd (false≢true e)
place_true Cur Cur e = refl

place_same : (a : Place) → is_place a a ≡ true
place_same New = refl
place_same Cur = refl

-- where a file stands
pub at_true : (at : FileName) (file : File) → is_at at.place at.name file ≡ true → name_of_file file ≡ at
at_true at file e =
    let parts = and_parts (is_place at.place file.place) (pointwise nat_eq at.name file.name) e in
    let p : at.place ≡ file.place = place_true at.place file.place parts.0 in
    let n : at.name ≡ file.name = (bytes_decides at.name file.name).0 parts.1 in
    sym (ap (λ (q : Place). let x : FileName = record { place = q; name = at.name } in x) p ∙ ap (λ (m : List ℕ). let x : FileName = record { place = file.place; name = m } in x) n)

pub at_itself : (file : File) → is_at file.place file.name file ≡ true
at_itself file = rw (place_same file.place, (bytes_decides file.name file.name).1 refl) refl

pub at_from_name : (at : FileName) (file : File) → name_of_file file ≡ at → is_at at.place at.name file ≡ true
at_from_name at file e = subst (λ (a : FileName). is_at a.place a.name file ≡ true) e (at_itself file)

-- ---- what stays apart

pub apart_head : (x : File) (xs : List File) → AreApart (x ∷ xs) → (k : ℕ) (d : File) → k < length xs → name_of_file x ≡ name_of_file (get_or xs k d) → ⊥
apart_head x xs apart k d below = apart 0 (suc k) d (omega arith) (omega arith)

pub apart_tail : (x : File) (xs : List File) → AreApart (x ∷ xs) → AreApart xs
apart_tail x xs apart = λ i j d less below. apart (suc i) (suc j) d (omega arith) (omega arith)

pub apart_added : (files : List File) (file : File) → AreApart files → AreApart (without file.place file.name files ++ file ∷ [])
apart_added files file apart =
    all_pairs_push (λ a b. name_of_file a ≡ name_of_file b → ⊥) (without file.place file.name files) file
    (AllPairs-filter (λ a b. name_of_file a ≡ name_of_file b → ⊥) (is_left None file.place file.name) files apart)
    (λ k d below same. other (get_or (without file.place file.name files) k d) (All-get_or (λ x. is_left None file.place file.name x ≡ true) (without file.place file.name files) k d below (filter_passes (is_left None file.place file.name) files)) same)
  where
    other : (x : File) → not (is_at file.place file.name x) ≡ true → name_of_file x ≡ name_of_file file → ⊥
    other x passes same = let at = at_from_name (name_of_file file) x same in cc

pub apart_left : (spared : Option FileName) (place : Place) (name : List ℕ) (files : List File) → AreApart files → AreApart (left spared place name files)
apart_left spared place name files apart = AllPairs-filter (λ a b. name_of_file a ≡ name_of_file b → ⊥) (is_left spared place name) files apart

-- a file that is not renamed
moved_other : (from to : FileName) (x : File) → is_at from.place from.name x ≡ false → moved from to x ≡ x
moved_other from to x e = rw e refl

-- a renamed one stands at its new name
moved_name : (from to : FileName) (x : File) → is_at from.place from.name x ≡ true → name_of_file (moved from to x) ≡ to
moved_name from to x e = rw e refl

apart_moved_two : (from to : FileName) (a b : File) → is_left (Some from) to.place to.name a ≡ true → is_left (Some from) to.place to.name b ≡ true
    → (name_of_file a ≡ name_of_file b → ⊥) → name_of_file (moved from to a) ≡ name_of_file (moved from to b) → ⊥
apart_moved_two from to a b left_a left_b apart same = cases (is_at from.place from.name a) refl (is_at from.place from.name b) refl
  where
    not_both : (x y : Bool) → (x || not y) ≡ true → x ≡ false → y ≡ true → ⊥
    not_both true y e f g = true≢false f
    not_both false true e f g = false≢true e
    not_both false false e f g = false≢true g

    cases : (s : Bool) → is_at from.place from.name a ≡ s → (t : Bool) → is_at from.place from.name b ≡ t → ⊥
    cases true e true f = apart (at_true from a e ∙ sym (at_true from b f))
    cases true e false f =
        let there : name_of_file b ≡ to = sym (ap name_of_file (moved_other from to b f)) ∙ sym same ∙ moved_name from to a e in
        not_both (is_at from.place from.name b) (is_at to.place to.name b) left_b f (at_from_name to b there)
    cases false e true f =
        let there : name_of_file a ≡ to = sym (ap name_of_file (moved_other from to a e)) ∙ same ∙ moved_name from to b f in
        not_both (is_at from.place from.name a) (is_at to.place to.name a) left_a e (at_from_name to a there)
    cases false e false f = apart (sym (ap name_of_file (moved_other from to a e)) ∙ same ∙ ap name_of_file (moved_other from to b f))

pub apart_moved : (from to : FileName) (files : List File) → AreApart files → AreApart (map (moved from to) (left (Some from) to.place to.name files))
apart_moved from to files apart =
    let ys : List File = left (Some from) to.place to.name files in
    let ok : All (λ x. is_left (Some from) to.place to.name x ≡ true) ys = filter_passes (is_left (Some from) to.place to.name) files in
    let stays : AreApart ys = apart_left (Some from) to.place to.name files apart in
    λ i j d less below same.
    let size : length (map (moved from to) ys) ≡ length ys = length-map ys (moved from to) in
    apart_moved_two from to (get_or ys i d) (get_or ys j d) (ok i d (omega arith)) (ok j d (omega arith)) (stays i j d less (omega arith))
    (ap name_of_file (sym (get_or-map (moved from to) ys i d d (omega arith))) ∙ same ∙ ap name_of_file (get_or-map (moved from to) ys j d d (omega arith)))

-- ---- one file is renamed

pub moved_none : (from to : FileName) (ys : List File) → ((k : ℕ) (d : File) → k < length ys → is_at from.place from.name (get_or ys k d) ≡ false) → map (moved from to) ys ≡ ys
moved_none from to [] none = refl
moved_none from to (y ∷ ys) none =
    rw (moved_other from to y (none 0 y (omega arith)), moved_none from to ys (λ k d below. none (suc k) d (omega arith))) refl

pub moved_at : (from to : FileName) (ys : List File) (i : ℕ) (d : File) → i < length ys → is_at from.place from.name (get_or ys i d) ≡ true → AreApart ys
    → map (moved from to) ys ≡ set ys i (moved from to (get_or ys i d))
moved_at from to [] i d below e apart = absurd (omega arith)
moved_at from to (y ∷ ys) zero d below e apart =
    ap (λ (l : List File). moved from to y ∷ l) (moved_none from to ys (λ k d' below'. none k d' below' (is_at from.place from.name (get_or ys k d')) refl))
  where
    none : (k : ℕ) (d' : File) → k < length ys → (b : Bool) → is_at from.place from.name (get_or ys k d') ≡ b → b ≡ false
    none k d' below' true f = absurd (apart_head y ys apart k d' below' (at_true from y e ∙ sym (at_true from (get_or ys k d') f)))
    none k d' below' false f = refl
moved_at from to (y ∷ ys) (suc i) d below e apart =
    rw (moved_other from to y (other (is_at from.place from.name y) refl)) (ap (λ (l : List File). y ∷ l) (moved_at from to ys i d (omega arith) e (apart_tail y ys apart)))
  where
    other : (b : Bool) → is_at from.place from.name y ≡ b → is_at from.place from.name y ≡ false
    other true f = absurd (apart_head y ys apart i d (omega arith) (at_true from y f ∙ sym (at_true from (get_or ys i d) e)))
    other false f = f

pub moved_nowhere : (from to : FileName) (ys : List File) → position (is_at from.place from.name) ys ≡ None → map (moved from to) ys ≡ ys
moved_nowhere from to ys none =
    moved_none from to ys (λ k d below. fails_before_first (is_at from.place from.name) ys k d (past k below (ltb (position_or_len (is_at from.place from.name) ys) (length ys)) refl none))
  where
    past : (k : ℕ) → k < length ys → (b : Bool) → ltb (position_or_len (is_at from.place from.name) ys) (length ys) ≡ b
        → cond b (Some (position_or_len (is_at from.place from.name) ys)) None ≡ None → k < position_or_len (is_at from.place from.name) ys
    past k below true e same = cc
    past k below false e same = grind (arith, nat_tests)

-- ---- one file goes

without_none : (at : FileName) (ys : List File) → ((k : ℕ) (d : File) → k < length ys → is_at at.place at.name (get_or ys k d) ≡ false) → without at.place at.name ys ≡ ys
without_none at [] none = refl
without_none at (y ∷ ys) none =
    rw (none 0 y (omega arith)) (ap (λ (l : List File). y ∷ l) (without_none at ys (λ k d below. none (suc k) d (omega arith))))

pub removed_at : (at : FileName) (ys : List File) (i : ℕ) (d : File) → i < length ys → is_at at.place at.name (get_or ys i d) ≡ true → AreApart ys
    → remove ys i ≡ without at.place at.name ys
removed_at at [] i d below e apart = absurd (omega arith)
removed_at at (y ∷ ys) zero d below e apart = rw e (sym (without_none at ys (λ k d' below'. none k d' below' (is_at at.place at.name (get_or ys k d')) refl)))
  where
    none : (k : ℕ) (d' : File) → k < length ys → (b : Bool) → is_at at.place at.name (get_or ys k d') ≡ b → b ≡ false
    none k d' below' true f = absurd (apart_head y ys apart k d' below' (at_true at y e ∙ sym (at_true at (get_or ys k d') f)))
    none k d' below' false f = refl
removed_at at (y ∷ ys) (suc i) d below e apart =
    rw (other (is_at at.place at.name y) refl) (ap (λ (l : List File). y ∷ l) (removed_at at ys i d (omega arith) e (apart_tail y ys apart)))
  where
    other : (b : Bool) → is_at at.place at.name y ≡ b → is_at at.place at.name y ≡ false
    other true f = absurd (apart_head y ys apart i d (omega arith) (at_true at y f ∙ sym (at_true at (get_or ys i d) e)))
    other false f = f

-- ---- a new name that is another's, or the file's own

pub left_apart : (from to : FileName) → (from ≡ to → ⊥) → (ys : List File) → left (Some from) to.place to.name ys ≡ without to.place to.name ys
left_apart from to differ [] = refl
left_apart from to differ (y ∷ ys) =
    rw (same (is_at from.place from.name y) refl (is_at to.place to.name y) refl, left_apart from to differ ys) refl
  where
    same : (s : Bool) → is_at from.place from.name y ≡ s → (t : Bool) → is_at to.place to.name y ≡ t → is_left (Some from) to.place to.name y ≡ not (is_at to.place to.name y)
    same true e true f = absurd (differ (sym (at_true from y e) ∙ at_true to y f))
    same true e false f = rw (e, f) refl
    same false e t f = rw e refl

pub renamed_to_itself : (at : FileName) (ys : List File) → map (moved at at) (left (Some at) at.place at.name ys) ≡ ys
renamed_to_itself at [] = refl
renamed_to_itself at (y ∷ ys) =
    elim (cases_Bool (is_at at.place at.name y)) [
      | inl e ↦
          let same : record { place = at.place; name = at.name; bytes = y.bytes } ≡ y = ap (λ (a : FileName). let x : File = record { place = a.place; name = a.name; bytes = y.bytes } in x) (sym (at_true at y e)) in
          rw (e, e, same) (ap (λ (l : List File). y ∷ l) (renamed_to_itself at ys))
      | inr e ↦ rw (e, e) (ap (λ (l : List File). y ∷ l) (renamed_to_itself at ys))
    ]
