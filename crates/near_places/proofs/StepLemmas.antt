-- What one step of a walk through folders gains.
use Rattle.std.proofs.Common.{◌≡◌, ℕ, Bool, true, false, cond, List, [], ◌∷◌, ◌++◌, map, Option, None, Some, Result, Ok, Err, inl, inr, refl, sym, subst, ap, ◌∙◌, append_assoc, length, string_bytes, Global}
use Rattle.std.specs.Prelude.{◌↔◌, Contains, String, filter, flat_map, OnOk}
use Rattle.std.proofs.lemmas.Bool.{cases_Bool}
use Rattle.std.proofs.lemmas.List.{append-nil, map-append}
use Rattle.std.proofs.lemmas.List.Concat.{flat_map-append}
use Rattle.std.proofs.lemmas.List.Elements.{filter-append}
use Rattle.near_places.specs.Refusals.{unless_beyond}
use Rattle.near_places.specs.Trees.{Tree, Agrees, AreBoxesUnder, IsBoxUnder, IsLater}
use Rattle.near_places.specs.Trees.Look.{BoxAt, FolderAt}
use Rattle.near_places.specs.Walks.{Folder, Gained, GainedAt, GainedIn, GainedOf, folder_of, folders_within, followed, followed_at, followed_root, is_at, listed, listed_at, listed_box, new_folder}
use Rattle.near_places.specs.declared.looks.Identity.{Identity}
use Rattle.near_places.specs.declared.looks.Looks.{Looks}
use Rattle.near_places.specs.declared.refusal.PlaceRefusal.{PlaceRefusal}
use Rattle.near_places.specs.declared.refusal.PlaceRefusal.TheVariants.{CannotOpen, NoMemory}
use Rattle.near_places.specs.declared.tree.FolderNames.{FolderNames}
use Rattle.near_places.specs.declared.tree.WalkStart.{WalkStart}
use Rattle.near_places.specs.declared.tree.TreeFolder.{TreeFolder}
use Rattle.near_places.specs.declared.tree.TreeWalk.{TreeWalk}
use Rattle.near_places.proofs.LookLemmas.{box_answered, folder_answered, later_none, later_one, later_then}
use Rattle.near_places.proofs.TreeLemmas.{Walked, walked_all, walked_first, walked_more}

pub none_left : {X : Type 0} (xs : List X) → length xs ≡ 0 → xs ≡ []
none_left [] e = refl
none_left (x ∷ xs) e = absurd (cc)

flat_more : {X A : Type 0} (f : X → List A) (xs : List X) (x : X) → flat_map f (xs ++ x ∷ []) ≡ flat_map f xs ++ f x
flat_more {X} {A} f xs x = flat_map-append f xs (x ∷ []) ∙ ap (λ (l : List A). flat_map f xs ++ l) (append-nil (f x))

-- ---- gains

pub gained_nothing : (old new : TreeWalk) → new.ahead.items ≡ old.ahead.items → new.names.within.items ≡ old.names.within.items → Gained old new [] []
gained_nothing old new ahead names = record {
  ahead = ap (λ (fs : List TreeFolder). folders_within fs) ahead ∙ sym (append-nil (folders_within old.ahead.items));
  listed = ap (λ (ns : List (String Global)). map string_bytes ns) names ∙ sym (append-nil (map string_bytes old.names.within.items));
}

pub gained_then : {a b c : TreeWalk} {fs gs : List Folder} {ns ms : List (List ℕ)} → Gained a b fs ns → Gained b c gs ms → Gained a c (fs ++ gs) (ns ++ ms)
gained_then {a} {b} {c} {fs} {gs} {ns} {ms} first second = record {
  ahead = second.ahead ∙ ap (λ (l : List Folder). l ++ gs) first.ahead ∙ append_assoc (folders_within a.ahead.items) fs gs;
  listed = second.listed ∙ ap (λ (l : List (List ℕ)). l ++ ms) first.listed ∙ append_assoc (map string_bytes a.names.within.items) ns ms;
}

pub gained_as : {a b : TreeWalk} {fs gs : List Folder} {ns ms : List (List ℕ)} → fs ≡ gs → ns ≡ ms → Gained a b fs ns → Gained a b gs ms
gained_as {a} {b} {fs} {gs} {ns} {ms} folders names g = record {
  ahead = g.ahead ∙ ap (λ (l : List Folder). folders_within a.ahead.items ++ l) folders;
  listed = g.listed ∙ ap (λ (l : List (List ℕ)). map string_bytes a.names.within.items ++ l) names;
}

-- ---- one part of a folder

pub on_ok : {A E P Q : Type 0} (r : Result A E) → (P → Q) → OnOk r P → OnOk r Q
on_ok (Ok x) f p = f p
on_ok (Err e) f p = tt

pub box_gained : (tree : Tree) (path name : List ℕ) (is_box : Bool) (old : TreeWalk) (looks : Looks) (names : FolderNames)
    → looks.looks ≡ BoxAt path is_box ∷ old.names.looks.looks → names.looks ≡ looks
    → map string_bytes names.within.items ≡ map string_bytes old.names.within.items ++ listed_box name is_box → Agrees tree names.looks.looks
    → Gained old (record old { names = names }) [] (listed_box name (tree.is_box path))
box_gained tree path name is_box old looks names noted same within agrees =
    let is : tree.is_box path ≡ is_box =
    box_answered tree path is_box old.names.looks.looks names.looks.looks (ap (λ (l : Looks). l.looks) same ∙ noted) agrees in
    record {
      ahead = sym (append-nil (folders_within old.ahead.items));
      listed = within ∙ ap (λ (b : Bool). map string_bytes old.names.within.items ++ listed_box name b) (sym is);
    }

gained_at : (tree : Tree) (start : WalkStart) (name : List ℕ) (above : List Identity) (path : List ℕ) (found : Option Identity) (old new : TreeWalk)
    → path ≡ string_bytes start.root ++ name → tree.folder path ≡ found
    → Gained old new (followed name above (new_folder above found)) (listed start.inbox name (tree.is_box path) (new_folder above found))
    → GainedAt tree start name above old new
gained_at tree start name above path found old new at is gained =
    let whole = subst (λ (o : Option Identity).
    Gained old new (followed name above (new_folder above o)) (listed start.inbox name (tree.is_box path) (new_folder above o))) (sym is) gained in
    subst (λ (p : List ℕ).
    Gained old new (followed name above (new_folder above (tree.folder p))) (listed start.inbox name (tree.is_box p) (new_folder above (tree.folder p)))) at whole

-- nothing is found
pub visited_nothing : (tree : Tree) (start : WalkStart) (name : List ℕ) (above : List Identity) (path : List ℕ) (found : Option Identity) (old new : TreeWalk)
    → path ≡ string_bytes start.root ++ name → tree.folder path ≡ found → new_folder above found ≡ None
    → Gained old new [] [] → GainedAt tree start name above old new
visited_nothing tree start name above path found old new at is none same =
    gained_at tree start name above path found old new at is
    (subst (λ (o : Option Identity). Gained old new (followed name above o) (listed start.inbox name (tree.is_box path) o)) (sym none) same)

-- a folder is found, and kept to be read
pub visited_folder : (tree : Tree) (start : WalkStart) (name : List ℕ) (above : List Identity) (path : List ℕ) (found : Option Identity) (folder : Identity)
    (old asked kept new : TreeWalk) → path ≡ string_bytes start.root ++ name → tree.folder path ≡ found → new_folder above found ≡ Some folder
    → Gained old asked [] [] → Gained asked kept (followed name above (Some folder)) []
    → Gained kept new [] (cond (is_at start.inbox folder) [] (listed_box name (tree.is_box path))) → GainedAt tree start name above old new
visited_folder tree start name above path found folder old asked kept new at is child same keeps lists =
    gained_at tree start name above path found old new at is
    (subst (λ (o : Option Identity). Gained old new (followed name above o) (listed start.inbox name (tree.is_box path) o)) (sym child)
    (gained_then same (gained_then keeps lists)))

-- ---- the parts of a folder

-- these parts of a folder were looked at
pub record LookedAt (start : WalkStart) (folder : TreeFolder) (parts : List (List ℕ)) (old new : TreeWalk) : Type 0 where
  pub later : IsLater old.names.looks.looks new.names.looks.looks
  pub beyond : folder.is_within ≡ false → Gained old new [] []
  pub gained : folder.is_within ≡ true → (tree : Tree) → Agrees tree new.names.looks.looks → GainedIn tree start folder parts old new

pub looked_at_more : (start : WalkStart) (folder : TreeFolder) (parts : List (List ℕ)) (part : List ℕ) (a b c : TreeWalk) → LookedAt start folder parts a b
    → IsLater b.names.looks.looks c.names.looks.looks → (folder.is_within ≡ false → Gained b c [] [])
    → (folder.is_within ≡ true → (tree : Tree) → Agrees tree c.names.looks.looks → GainedOf tree start folder part b c)
    → LookedAt start folder (parts ++ part ∷ []) a c
looked_at_more start folder parts part a b c before later beyond gained = record {
  later = later_then before.later later;
  beyond = λ e. gained_then (before.beyond e) (beyond e);
  gained = λ e tree agrees.
      let root : List ℕ = string_bytes start.root in
      gained_as (sym (flat_more (followed_at tree root (folder_of folder)) parts part)) (sym (flat_more (listed_at tree root start.inbox (folder_of folder)) parts part))
      (gained_then (before.gained e tree (later.earlier tree agrees)) (gained e tree agrees));
}

-- ---- a folder is read

within_last : (fs : List TreeFolder) (f : TreeFolder) → f.is_within ≡ true → folders_within (fs ++ f ∷ []) ≡ folders_within fs ++ folder_of f ∷ []
within_last fs f e =
    ap (map folder_of) (filter-append (λ (g : TreeFolder). g.is_within) fs (f ∷ []))
    ∙ map-append folder_of (filter (λ (g : TreeFolder). g.is_within) fs) (filter (λ (g : TreeFolder). g.is_within) (f ∷ []))
    ∙ ap (λ (b : Bool). folders_within fs ++ map folder_of (cond b (f ∷ []) [])) e

beyond_last : (fs : List TreeFolder) (f : TreeFolder) → f.is_within ≡ false → folders_within (fs ++ f ∷ []) ≡ folders_within fs
beyond_last fs f e =
    ap (map folder_of) (filter-append (λ (g : TreeFolder). g.is_within) fs (f ∷ []))
    ∙ map-append folder_of (filter (λ (g : TreeFolder). g.is_within) fs) (filter (λ (g : TreeFolder). g.is_within) (f ∷ []))
    ∙ ap (λ (b : Bool). folders_within fs ++ map folder_of (cond b (f ∷ []) [])) e
    ∙ append-nil (folders_within fs)

is_answer : (answer : Result (Unit {0}) PlaceRefusal) → unless_beyond true answer ≡ Ok tt → answer ≡ Ok tt
is_answer (Ok done) e = refl
is_answer (Err (CannotOpen path reason)) e = absurd (cc)
is_answer (Err NoMemory) e = absurd (cc)

-- how far a walk has come in a tree
abbrev pub IsSoFar : (tree : Tree) (start : WalkStart) (inbox : List ℕ) (walk : TreeWalk) → Type 0
IsSoFar tree start inbox walk =
    Walked tree (string_bytes start.root) inbox (folders_within walk.ahead.items) (map string_bytes walk.names.within.items)

walked_as : {tree : Tree} {root inbox : List ℕ} {fs gs : List Folder} {ns ms : List (List ℕ)} → fs ≡ gs → ns ≡ ms → Walked tree root inbox fs ns
    → Walked tree root inbox gs ms
walked_as {tree} {root} {inbox} {fs} {gs} {ns} {ms} folders names w =
    subst (λ (l : List Folder). Walked tree root inbox l ms) folders (subst (λ (l : List (List ℕ)). Walked tree root inbox fs l) names w)

-- after a folder was taken and read
so_far_more : (tree : Tree) (start : WalkStart) (inbox : List ℕ) (folder : TreeFolder) (before taken after : TreeWalk) (answer : Result (Unit {0}) PlaceRefusal)
    → before.ahead.items ≡ taken.ahead.items ++ folder ∷ [] → taken.names.within.items ≡ before.names.within.items
    → tree.folder inbox ≡ start.inbox → unless_beyond folder.is_within answer ≡ Ok tt → (folder.is_within ≡ false → Gained taken after [] [])
    → OnOk answer (folder.is_within ≡ true → GainedIn tree start folder (tree.names (string_bytes start.root ++ string_bytes folder.way)) taken after)
    → IsSoFar tree start inbox before → IsSoFar tree start inbox after
so_far_more tree start inbox folder before taken after answer was same at_inbox e beyond gained w =
    let root : List ℕ = string_bytes start.root in
    let names : map string_bytes before.names.within.items ≡ map string_bytes taken.names.within.items =
    ap (λ (ns : List (String Global)). map string_bytes ns) (sym same) in
    elim (cases_Bool folder.is_within) [
      | inl is ↦
          let done : answer ≡ Ok tt = is_answer answer (subst (λ (b : Bool). unless_beyond b answer ≡ Ok tt) is e) in
          let gain : GainedIn tree start folder (tree.names (root ++ string_bytes folder.way)) taken after =
          subst (λ (r : Result (Unit {0}) PlaceRefusal).
          OnOk r (folder.is_within ≡ true → GainedIn tree start folder (tree.names (root ++ string_bytes folder.way)) taken after)) done gained is in
          let ahead : folders_within before.ahead.items ≡ folders_within taken.ahead.items ++ folder_of folder ∷ [] =
          ap (λ (fs : List TreeFolder). folders_within fs) was ∙ within_last taken.ahead.items folder is in
          let gain' = subst (λ (i : Option Identity).
          Gained taken after (flat_map (followed_at tree root (folder_of folder)) (tree.names (root ++ string_bytes folder.way)))
          (flat_map (listed_at tree root i (folder_of folder)) (tree.names (root ++ string_bytes folder.way)))) (sym at_inbox) gain in
          walked_as (sym gain'.ahead) (sym gain'.listed)
          (walked_more tree root inbox (folders_within taken.ahead.items) (folder_of folder) (map string_bytes taken.names.within.items) (walked_as ahead names w))
      | inr not ↦
          let none = beyond not in
          let ahead : folders_within before.ahead.items ≡ folders_within after.ahead.items =
          ap (λ (fs : List TreeFolder). folders_within fs) was ∙ beyond_last taken.ahead.items folder not
          ∙ sym (none.ahead ∙ append-nil (folders_within taken.ahead.items)) in
          walked_as ahead (names ∙ sym (none.listed ∙ append-nil (map string_bytes taken.names.within.items))) w
    ]

-- at first
so_far_first : (tree : Tree) (start : WalkStart) (inbox : List ℕ) (new walk : TreeWalk) → new.ahead.items ≡ [] → new.names.within.items ≡ []
    → Gained new walk (followed_root (tree.folder (string_bytes start.root))) [] → IsSoFar tree start inbox walk
so_far_first tree start inbox new walk ahead names gained =
    walked_as
    (sym (gained.ahead ∙ ap (λ (fs : List TreeFolder). folders_within fs ++ followed_root (tree.folder (string_bytes start.root))) ahead))
    (sym (gained.listed ∙ ap (λ (ns : List (String Global)). map string_bytes ns ++ []) names))
    (walked_first tree (string_bytes start.root) inbox)

-- at last
so_far_all : (tree : Tree) (start : WalkStart) (inbox : List ℕ) (walk : TreeWalk) → walk.ahead.items ≡ [] → IsSoFar tree start inbox walk → (name : List ℕ)
    → Contains (map string_bytes walk.names.within.items) name ↔ IsBoxUnder tree (string_bytes start.root) inbox name
so_far_all tree start inbox walk ahead w name =
    walked_all tree (string_bytes start.root) inbox (map string_bytes walk.names.within.items)
    (walked_as (ap (λ (fs : List TreeFolder). folders_within fs) ahead) refl w) name

-- how far a walk has come, in each tree where all answers are as they were given
pub record IsWalk (start : WalkStart) (inbox : List ℕ) (walk : TreeWalk) : Type 0 where
  pub at_inbox : (tree : Tree) → Agrees tree walk.names.looks.looks → tree.folder inbox ≡ start.inbox
  pub so_far : (tree : Tree) → Agrees tree walk.names.looks.looks → IsSoFar tree start inbox walk

pub walk_first : (start : WalkStart) (inbox root : List ℕ) (top : Option Identity) (none asked kept : TreeWalk) (looks : Looks) → root ≡ string_bytes start.root
    → none.ahead.items ≡ [] → none.names.within.items ≡ [] → Gained none asked [] []
    → asked.names.looks.looks ≡ FolderAt root top ∷ none.names.looks.looks
    → Gained asked kept (followed_root top) [] → kept.names ≡ asked.names → looks.looks ≡ FolderAt inbox start.inbox ∷ kept.names.looks.looks
    → IsWalk start inbox (record kept { names = record kept.names { looks = looks } })
walk_first start inbox root top none asked kept looks at ahead names nothing answered gained same noted =
    let new : TreeWalk = record kept { names = record kept.names { looks = looks } } in
    let was : kept.names.looks.looks ≡ FolderAt root top ∷ none.names.looks.looks = ap (λ (n : FolderNames). n.looks.looks) same ∙ answered in
    let later : IsLater kept.names.looks.looks looks.looks = later_one (FolderAt inbox start.inbox) kept.names.looks.looks looks.looks noted in
    record {
      at_inbox = λ tree agrees. folder_answered tree inbox start.inbox kept.names.looks.looks looks.looks noted agrees;
      so_far = λ tree agrees.
          let is : tree.folder root ≡ top =
          folder_answered tree root top none.names.looks.looks kept.names.looks.looks was (later.earlier tree agrees) in
          let is_top : top ≡ tree.folder (string_bytes start.root) = sym is ∙ ap (λ (p : List ℕ). tree.folder p) at in
          so_far_first tree start inbox none new ahead names
          (subst (λ (o : Option Identity). Gained none new (followed_root o) []) is_top
          (gained_as (append-nil (followed_root top)) refl (gained_then nothing (gained_then gained (gained_nothing kept new refl refl)))));
    }

pub walk_more : (start : WalkStart) (inbox : List ℕ) (folder : TreeFolder) (before taken after : TreeWalk) (answer : Result (Unit {0}) PlaceRefusal)
    → before.ahead.items ≡ taken.ahead.items ++ folder ∷ [] → taken.names ≡ before.names
    → unless_beyond folder.is_within answer ≡ Ok tt → IsLater taken.names.looks.looks after.names.looks.looks
    → (folder.is_within ≡ false → Gained taken after [] [])
    → OnOk answer (folder.is_within ≡ true → (tree : Tree) → Agrees tree after.names.looks.looks
    → GainedIn tree start folder (tree.names (string_bytes start.root ++ string_bytes folder.way)) taken after)
    → IsWalk start inbox before → IsWalk start inbox after
walk_more start inbox folder before taken after answer was same done later beyond gained w =
    let later' : IsLater before.names.looks.looks after.names.looks.looks =
    later_then (later_none before.names.looks.looks taken.names.looks.looks (ap (λ (n : FolderNames). n.looks.looks) same)) later in
    record {
      at_inbox = λ tree agrees. w.at_inbox tree (later'.earlier tree agrees);
      so_far = λ tree agrees.
          let before_agrees = later'.earlier tree agrees in
          so_far_more tree start inbox folder before taken after answer was (ap (λ (n : FolderNames). n.within.items) same) (w.at_inbox tree before_agrees) done beyond
          (on_ok answer (λ gain is. gain is tree agrees) gained) (w.so_far tree before_agrees);
    }

pub walk_all : (start : WalkStart) (inbox : List ℕ) (walk : TreeWalk) → walk.ahead.items ≡ [] → IsWalk start inbox walk
    → AreBoxesUnder (string_bytes start.root) inbox walk.names.looks.looks (map string_bytes walk.names.within.items)
walk_all start inbox walk ahead w = λ tree agrees name. so_far_all tree start inbox walk ahead (w.so_far tree agrees) name
