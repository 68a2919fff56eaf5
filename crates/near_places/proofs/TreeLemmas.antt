-- A walk through the folders of a tree: what was read, and what is still to be read.
use Rattle.std.proofs.Common.{◌≡◌, ℕ, List, [], ◌∷◌, ◌++◌, Option, None, Some, inl, inr, refl, sym, subst}
use Rattle.std.specs.Prelude.{◌⊎◌, ◌↔◌, Contains, codes, flat_map}
use Rattle.std.proofs.lemmas.List.Elements.{Contains-append_left, Contains-append_right, Contains-append_cases, Contains-push, Contains-push_cases}
use Rattle.near_places.specs.Trees.{Tree, IsBoxUnder, Way}
use Rattle.near_places.specs.Trees.Way.{at_root, below}
use Rattle.near_places.specs.Walks.{Folder, followed_at, followed_root, listed_at}
use Rattle.near_places.specs.declared.looks.Identity.{Identity}
use Rattle.near_places.proofs.MemberLemmas.{in_cases, in_first, in_flat, in_none, in_one, in_rest, source}
use Rattle.near_places.proofs.FoundLemmas.{box_if_listed, followed_if_below, listed_if_box, way_if_followed}

abbrev IsMet : (read ahead : List Folder) → Folder → Type 0
IsMet read ahead folder = Contains read folder ⊎ Contains ahead folder

abbrev top_folder : Identity → Folder
top_folder top = record { way = []; above = top ∷ [] }

-- Some folders were read. What is to be followed from them was read or is ahead, and what is to be listed is listed. Each that is ahead
-- is one of the tree, and each name that is listed is that of a mailbox.
pub record Walked (tree : Tree) (root inbox : List ℕ) (ahead : List Folder) (names : List (List ℕ)) : Type 0 where
  pub read : List Folder
  pub begun : (top : Identity) → tree.folder root ≡ Some top → IsMet read ahead (top_folder top)
  pub onward : (folder : Folder) → Contains read folder → (part : List ℕ) → Contains (tree.names (root ++ folder.way)) part → (next : Folder)
      → Contains (followed_at tree root folder part) next → IsMet read ahead next
  pub kept : (folder : Folder) → Contains read folder → (part : List ℕ) → Contains (tree.names (root ++ folder.way)) part → (name : List ℕ)
      → Contains (listed_at tree root (tree.folder inbox) folder part) name → Contains names name
  pub ways : (folder : Folder) → Contains ahead folder → Way tree root folder.way folder.above
  pub boxes : (name : List ℕ) → Contains names name → IsBoxUnder tree root inbox name

-- ---- at first

met_first : (found : Option Identity) (top : Identity) → found ≡ Some top → Contains (followed_root found) (top_folder top)
met_first found top e = subst (λ (o : Option Identity). Contains (followed_root o) (top_folder top)) (sym e) (in_first (top_folder top) [])

way_first : (tree : Tree) (root : List ℕ) (found : Option Identity) → tree.folder root ≡ found → (folder : Folder) → Contains (followed_root found) folder
    → Way tree root folder.way folder.above
way_first tree root None e folder c = absurd (in_none folder c)
way_first tree root (Some top) e folder c =
    subst (λ (f : Folder). Way tree root f.way f.above) (in_one (top_folder top) folder c) (at_root top e)

pub walked_first : (tree : Tree) (root inbox : List ℕ) → Walked tree root inbox (followed_root (tree.folder root)) []
walked_first tree root inbox = record {
  read = [];
  begun = λ top e. inr (met_first (tree.folder root) top e);
  onward = λ folder c part named next followed. absurd (in_none folder c);
  kept = λ folder c part named name listed. absurd (in_none folder c);
  ways = λ folder c. way_first tree root (tree.folder root) refl folder c;
  boxes = λ name c. absurd (in_none name c);
}

-- ---- one folder is read

still_met : (read ahead more : List Folder) (folder met : Folder) → IsMet read (ahead ++ folder ∷ []) met → IsMet (folder ∷ read) (ahead ++ more) met
still_met read ahead more folder met (inl done) = inl (in_rest folder read met done)
still_met read ahead more folder met (inr left) =
    elim (Contains-push_cases ahead folder met left) [
      | inl other ↦ inr (Contains-append_left ahead more met other)
      | inr same ↦ inl (subst (λ (f : Folder). Contains (folder ∷ read) f) same (in_first folder read))
    ]

pub walked_more : (tree : Tree) (root inbox : List ℕ) (ahead : List Folder) (folder : Folder) (names : List (List ℕ))
    → Walked tree root inbox (ahead ++ folder ∷ []) names
    → Walked tree root inbox (ahead ++ flat_map (followed_at tree root folder) (tree.names (root ++ folder.way)))
    (names ++ flat_map (listed_at tree root (tree.folder inbox) folder) (tree.names (root ++ folder.way)))
walked_more tree root inbox ahead folder names w =
    let parts : List (List ℕ) = tree.names (root ++ folder.way) in
    let more : List Folder = flat_map (followed_at tree root folder) parts in
    let boxes : List (List ℕ) = flat_map (listed_at tree root (tree.folder inbox) folder) parts in
    let leads : Way tree root folder.way folder.above = w.ways folder (Contains-push ahead folder) in
    record {
      read = folder ∷ w.read;
      begun = λ top e. still_met w.read ahead more folder (top_folder top) (w.begun top e);
      onward = λ f c part named next followed. elim (in_cases folder w.read f c) [
        | inl same ↦ inr (Contains-append_right ahead more next
            (in_flat (followed_at tree root folder) parts part next
            (subst (λ (g : Folder). Contains (tree.names (root ++ g.way)) part) (sym same) named)
            (subst (λ (g : Folder). Contains (followed_at tree root g part) next) (sym same) followed)))
        | inr before ↦ still_met w.read ahead more folder next (w.onward f before part named next followed)
      ];
      kept = λ f c part named name listed. elim (in_cases folder w.read f c) [
        | inl same ↦ Contains-append_right names boxes name
            (in_flat (listed_at tree root (tree.folder inbox) folder) parts part name
            (subst (λ (g : Folder). Contains (tree.names (root ++ g.way)) part) (sym same) named)
            (subst (λ (g : Folder). Contains (listed_at tree root (tree.folder inbox) g part) name) (sym same) listed))
        | inr before ↦ Contains-append_left names boxes name (w.kept f before part named name listed)
      ];
      ways = λ f c. elim (Contains-append_cases ahead more f c) [
        | inl before ↦ w.ways f (Contains-append_left ahead (folder ∷ []) f before)
        | inr new ↦ let s = source (followed_at tree root folder) parts f new in way_if_followed tree root folder s.of f leads s.among s.gives
      ];
      boxes = λ name c. elim (Contains-append_cases names boxes name c) [
        | inl before ↦ w.boxes name before
        | inr new ↦ let s = source (listed_at tree root (tree.folder inbox) folder) parts name new in
            box_if_listed tree root inbox folder s.of name leads s.among s.gives
      ];
    }

-- ---- nothing is ahead

was_read : (read : List Folder) (folder : Folder) → IsMet read [] folder → Contains read folder
was_read read folder (inl done) = done
was_read read folder (inr left) = absurd (in_none folder left)

each_read : (tree : Tree) (root inbox : List ℕ) (names : List (List ℕ)) (w : Walked tree root inbox [] names) (way : List ℕ) (above : List Identity)
    → Way tree root way above → Contains w.read (record { way = way; above = above })
each_read tree root inbox names w way above (at_root top e) = was_read w.read (top_folder top) (w.begun top e)
each_read tree root inbox names w way above (below before folders part child leads is) =
    let from : Folder = record { way = before; above = folders } in
    let next : Folder = record { way = (before ++ part) ++ codes "/"; above = folders ++ child ∷ [] } in
    was_read w.read next
    (w.onward from (each_read tree root inbox names w before folders leads) part is.named next (followed_if_below tree root before folders part child is))

pub walked_all : (tree : Tree) (root inbox : List ℕ) (names : List (List ℕ)) → Walked tree root inbox [] names → (name : List ℕ)
    → Contains names name ↔ IsBoxUnder tree root inbox name
walked_all tree root inbox names w name = (
  w.boxes name,
  λ box. w.kept (record { way = box.way; above = box.above }) (each_read tree root inbox names w box.way box.above box.leads)
      box.part box.below.named name (listed_if_box tree root inbox name box),
)
