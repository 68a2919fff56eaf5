-- What is found at a part of a folder, as the tree has it.
use Rattle.std.proofs.Common.{◌≡◌, ◌≢◌, ℕ, Bool, true, false, not, ◌&&◌, cond, List, [], ◌∷◌, ◌++◌, Option, None, Some, inl, inr, refl, sym, subst, ap, ◌∙◌}
use Rattle.std.specs.Prelude.{◌==◌, Contains, codes}
use Rattle.std.proofs.lemmas.Bool.{and_parts, and_from, cases_Bool, eq-eqb, eqb-true, false≢true, not-true, not_from_false, or_cases, or_left, or_right, true≢false}
use Rattle.config_words.specs.Inboxes.{is_inbox}
use Rattle.near_places.specs.Trees.{Tree, IsBelow, IsBoxUnder, Way, is_mail_folder, is_within}
use Rattle.near_places.specs.Trees.Way.{below}
use Rattle.near_places.specs.Walks.{Folder, followed, followed_at, found_at, is_among, is_at, is_same, listed, listed_at, new_folder}
use Rattle.near_places.specs.declared.looks.Identity.{Identity}
use Rattle.near_places.proofs.MemberLemmas.{in_cases, in_first, in_none, in_one, in_rest}

-- ---- one folder

same_itself : (folder : Identity) → is_same folder folder ≡ true
same_itself folder = and_from (folder.device == folder.device) (folder.number == folder.number) (eq-eqb folder.device folder.device refl) (eq-eqb folder.number folder.number refl)

same_is : (a b : Identity) → is_same a b ≡ true → a ≡ b
same_is a b e =
    let parts = and_parts (a.device == b.device) (a.number == b.number) e in
    let device : a.device ≡ b.device = eqb-true a.device b.device parts.0 in
    let number : a.number ≡ b.number = eqb-true a.number b.number parts.1 in
    let folder : ℕ → ℕ → Identity = λ d n. record { device = d; number = n } in
    ap (λ (d : ℕ). folder d a.number) device ∙ ap (λ (n : ℕ). folder b.device n) number

among_if_in : (folders : List Identity) (folder : Identity) → Contains folders folder → is_among folders folder ≡ true
among_if_in [] folder c = absurd (in_none folder c)
among_if_in (x ∷ xs) folder c =
    elim (in_cases x xs folder c) [
      | inl same ↦ or_left (is_same x folder) (is_among xs folder) (subst (λ (y : Identity). is_same y folder ≡ true) (sym same) (same_itself folder))
      | inr rest ↦ or_right (is_same x folder) (is_among xs folder) (among_if_in xs folder rest)
    ]

in_if_among : (folders : List Identity) (folder : Identity) → is_among folders folder ≡ true → Contains folders folder
in_if_among [] folder e = absurd (false≢true e)
in_if_among (x ∷ xs) folder e =
    elim (or_cases (is_same x folder) (is_among xs folder) e) [
      | inl same ↦ subst (λ (y : Identity). Contains (x ∷ xs) y) (same_is x folder same) (in_first x xs)
      | inr rest ↦ in_rest x xs folder (in_if_among xs folder rest)
    ]

apart_if_not : (folders : List Identity) (folder : Identity) → is_among folders folder ≡ false → ¬ (Contains folders folder)
apart_if_not folders folder e c = true≢false (sym (among_if_in folders folder c) ∙ e)

not_if_apart : (folders : List Identity) (folder : Identity) → ¬ (Contains folders folder) → is_among folders folder ≡ false
not_if_apart folders folder apart =
    elim (cases_Bool (is_among folders folder)) [
      | inl among ↦ absurd (apart (in_if_among folders folder among))
      | inr other ↦ other
    ]

at_if_some : (found : Option Identity) (folder : Identity) → found ≡ Some folder → is_at found folder ≡ true
at_if_some found folder e = subst (λ (o : Option Identity). is_at o folder ≡ true) (sym e) (same_itself folder)

some_if_at : (found : Option Identity) (folder : Identity) → is_at found folder ≡ true → found ≡ Some folder
some_if_at None folder e = absurd (false≢true e)
some_if_at (Some other) folder e = ap Some (same_is other folder e)

-- ---- a folder below another one

chosen : {A : Type 0} (b : Bool) (o : Option A) (x : A) → cond b o None ≡ Some x → (b ≡ true) × (o ≡ Some x)
chosen true o x e = (refl, e)
chosen false o x e = absurd (cc)

unlike : {A : Type 0} (b : Bool) (o : Option A) (x : A) → cond b None o ≡ Some x → (b ≡ false) × (o ≡ Some x)
unlike true o x e = absurd (cc)
unlike false o x e = (refl, e)

new_is : (above : List Identity) (found : Option Identity) (folder : Identity) → new_folder above found ≡ Some folder
    → (found ≡ Some folder) × (is_among above folder ≡ false)
new_is above None folder e = absurd (cc)
new_is above (Some other) folder e =
    let parts = unlike (is_among above other) (Some other) folder e in
    let same : other ≡ folder = let s : Some other ≡ Some folder = parts.1 in cc in
    (parts.1, subst (λ (x : Identity). is_among above x ≡ false) same parts.0)

pub below_if_found : (tree : Tree) (root : List ℕ) (folder : Folder) (part : List ℕ) (child : Identity) → Contains (tree.names (root ++ folder.way)) part
    → found_at tree root folder part ≡ Some child → IsBelow tree root folder.way folder.above part child
below_if_found tree root folder part child named e =
    let path : List ℕ = root ++ (folder.way ++ part) in
    let fits = chosen (not (is_mail_folder part) && is_within (folder.way ++ part)) (new_folder folder.above (tree.folder path)) child e in
    let both = and_parts (not (is_mail_folder part)) (is_within (folder.way ++ part)) fits.0 in
    let is = new_is folder.above (tree.folder path) child fits.1 in
    record {
      named = named;
      other = not-true (is_mail_folder part) both.0;
      within = both.1;
      stands = is.0;
      apart = apart_if_not folder.above child is.1;
    }

pub found_if_below : (tree : Tree) (root way : List ℕ) (above : List Identity) (part : List ℕ) (child : Identity) → IsBelow tree root way above part child
    → found_at tree root (record { way = way; above = above }) part ≡ Some child
found_if_below tree root way above part child is =
    let fits : (not (is_mail_folder part) && is_within (way ++ part)) ≡ true =
    and_from (not (is_mail_folder part)) (is_within (way ++ part)) (not_from_false (is_mail_folder part) is.other) is.within in
    ap (λ (b : Bool). cond b (new_folder above (tree.folder (root ++ (way ++ part)))) None) fits
    ∙ ap (λ (o : Option Identity). new_folder above o) is.stands
    ∙ ap (λ (b : Bool). cond b None (Some child)) (not_if_apart above child is.apart)

-- ---- what is to be read of it

record Followed (name : List ℕ) (above : List Identity) (found : Option Identity) (next : Folder) : Type 0 where
  folder : Identity
  is : found ≡ Some folder
  next_is : record { way = name ++ codes "/"; above = above ++ folder ∷ [] } ≡ next

followed_is : (name : List ℕ) (above : List Identity) (found : Option Identity) (next : Folder) → Contains (followed name above found) next
    → Followed name above found next
followed_is name above None next c = absurd (in_none next c)
followed_is name above (Some folder) next c = record { folder = folder; is = refl; next_is = in_one _ next c }

pub way_if_followed : (tree : Tree) (root : List ℕ) (folder : Folder) (part : List ℕ) (next : Folder) → Way tree root folder.way folder.above
    → Contains (tree.names (root ++ folder.way)) part → Contains (followed_at tree root folder part) next → Way tree root next.way next.above
way_if_followed tree root folder part next leads named c =
    let f = followed_is (folder.way ++ part) folder.above (found_at tree root folder part) next c in
    subst (λ (g : Folder). Way tree root g.way g.above) f.next_is
    (below folder.way folder.above part f.folder leads (below_if_found tree root folder part f.folder named f.is))

pub followed_if_below : (tree : Tree) (root way : List ℕ) (above : List Identity) (part : List ℕ) (child : Identity) → IsBelow tree root way above part child
    → Contains (followed_at tree root (record { way = way; above = above }) part) (record { way = (way ++ part) ++ codes "/"; above = above ++ child ∷ [] })
followed_if_below tree root way above part child is =
    let next : Folder = record { way = (way ++ part) ++ codes "/"; above = above ++ child ∷ [] } in
    subst (λ (o : Option Identity). Contains (followed (way ++ part) above o) next) (sym (found_if_below tree root way above part child is)) (in_first next [])

-- ---- what is to be listed of it

record Listed (inbox : Option Identity) (name : List ℕ) (is_box : Bool) (found : Option Identity) (it : List ℕ) : Type 0 where
  folder : Identity
  is : found ≡ Some folder
  elsewhere : is_at inbox folder ≡ false
  stands : is_box ≡ true
  no_inbox : is_inbox name ≡ false
  it_is : name ≡ it

one_listed : (name : List ℕ) (b : Bool) (it : List ℕ) → Contains (cond b (name ∷ []) []) it → (b ≡ true) × (name ≡ it)
one_listed name true it c = (refl, in_one name it c)
one_listed name false it c = absurd (in_none it c)

none_listed : (b : Bool) (names : List (List ℕ)) (it : List ℕ) → Contains (cond b [] names) it → (b ≡ false) × Contains names it
none_listed true names it c = absurd (in_none it c)
none_listed false names it c = (refl, c)

listed_is : (inbox : Option Identity) (name : List ℕ) (is_box : Bool) (found : Option Identity) (it : List ℕ) → Contains (listed inbox name is_box found) it
    → Listed inbox name is_box found it
listed_is inbox name is_box None it c = absurd (in_none it c)
listed_is inbox name is_box (Some folder) it c =
    let apart = none_listed (is_at inbox folder) (cond (is_box && not (is_inbox name)) (name ∷ []) []) it c in
    let one = one_listed name (is_box && not (is_inbox name)) it apart.1 in
    let both = and_parts is_box (not (is_inbox name)) one.0 in
    record {
      folder = folder;
      is = refl;
      elsewhere = apart.0;
      stands = both.0;
      no_inbox = not-true (is_inbox name) both.1;
      it_is = one.1;
    }

pub box_if_listed : (tree : Tree) (root inbox : List ℕ) (folder : Folder) (part it : List ℕ) → Way tree root folder.way folder.above
    → Contains (tree.names (root ++ folder.way)) part → Contains (listed_at tree root (tree.folder inbox) folder part) it → IsBoxUnder tree root inbox it
box_if_listed tree root inbox folder part it leads named c =
    let name : List ℕ = folder.way ++ part in
    let l = listed_is (tree.folder inbox) name (tree.is_box (root ++ name)) (found_at tree root folder part) it c in
    subst (λ (n : List ℕ). IsBoxUnder tree root inbox n) l.it_is (record {
      way = folder.way;
      above = folder.above;
      part = part;
      folder = l.folder;
      leads = leads;
      below = below_if_found tree root folder part l.folder named l.is;
      named = refl;
      no_inbox = l.no_inbox;
      elsewhere = λ at. true≢false (sym (at_if_some (tree.folder inbox) l.folder at) ∙ l.elsewhere);
      is_box = l.stands;
    })

not_at : (found : Option Identity) (folder : Identity) → found ≢ Some folder → is_at found folder ≡ false
not_at found folder other =
    elim (cases_Bool (is_at found folder)) [
      | inl at ↦ absurd (other (some_if_at found folder at))
      | inr apart ↦ apart
    ]

pub listed_if_box : (tree : Tree) (root inbox it : List ℕ) (box : IsBoxUnder tree root inbox it)
    → Contains (listed_at tree root (tree.folder inbox) (record { way = box.way; above = box.above }) box.part) it
listed_if_box tree root inbox it box =
    let name : List ℕ = box.way ++ box.part in
    let is : is_inbox name ≡ false = subst (λ (n : List ℕ). is_inbox n ≡ false) box.named box.no_inbox in
    let stands : tree.is_box (root ++ name) ≡ true = subst (λ (n : List ℕ). tree.is_box (root ++ n) ≡ true) box.named box.is_box in
    let both : (tree.is_box (root ++ name) && not (is_inbox name)) ≡ true =
    and_from (tree.is_box (root ++ name)) (not (is_inbox name)) stands (not_from_false (is_inbox name) is) in
    let found : Option Identity = found_at tree root (record { way = box.way; above = box.above }) box.part in
    let one : listed (tree.folder inbox) name (tree.is_box (root ++ name)) found ≡ name ∷ [] =
    ap (λ (o : Option Identity). listed (tree.folder inbox) name (tree.is_box (root ++ name)) o) (found_if_below tree root box.way box.above box.part box.folder box.below)
    ∙ ap (λ (b : Bool). cond b [] (cond (tree.is_box (root ++ name) && not (is_inbox name)) (name ∷ []) [])) (not_at (tree.folder inbox) box.folder box.elsewhere)
    ∙ ap (λ (b : Bool). cond b (name ∷ []) []) both in
    subst (λ (ls : List (List ℕ)). Contains ls it) (sym one) (subst (λ (n : List ℕ). Contains (n ∷ []) it) box.named (in_first it []))
