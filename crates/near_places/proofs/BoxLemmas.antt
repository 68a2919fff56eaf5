-- The names of the mailboxes of a store.
use Rattle.std.proofs.Common.{◌≡◌, ℕ, Bool, true, false, not, cond, List, [], ◌∷◌, ◌++◌, map, Option, inl, inr, refl, sym, subst, ap, ◌∙◌, string_bytes, Global}
use Rattle.std.specs.Prelude.{◌⊎◌, Contains, String, codes, filter}
use Rattle.std.specs.List.Sorted.{IsPermutation}
use Rattle.std.proofs.lemmas.Bool.{and_parts}
use Rattle.std.proofs.lemmas.List.Elements.{Contains-append_cases, Contains-append_left, Contains-append_right}
use Rattle.std.proofs.lemmas.List.Sorted.{Contains-permutation, IsPermutation-map, IsPermutation-sym}
use Rattle.mailcore.specs.MailboxNames.{is_mailbox_name}
use Rattle.config.specs.declared.config.MaildirStore.{MaildirStore}
use Rattle.near_places.specs.Names.{has_own_part}
use Rattle.near_places.specs.Paths.{placed}
use Rattle.near_places.specs.Trees.{Tree, Look, AreBoxes, AreBoxesUnder, HasBox, IsBoxUnder, IsInbox}
use Rattle.near_places.specs.Trees.Look.{BoxAt}
use Rattle.near_places.specs.Walks.{first_names}
use Rattle.near_places.proofs.LookLemmas.{box_answered, later_one}
use Rattle.near_places.proofs.MemberLemmas.{in_cases, in_first, in_none, in_one, in_rest}

-- ---- what passes a test

kept_is_in : {X : Type 0} (p : X → Bool) (y : X) (xs : List X) (x : X) (b : Bool) → (Contains (filter p xs) x → Contains xs x)
    → Contains (cond b (y ∷ filter p xs) (filter p xs)) x → Contains (y ∷ xs) x
kept_is_in {X} p y xs x true rest c =
    elim (in_cases y (filter p xs) x c) [
      | inl same ↦ subst (λ (z : X). Contains (y ∷ xs) z) same (in_first y xs)
      | inr kept ↦ in_rest y xs x (rest kept)
    ]
kept_is_in p y xs x false rest c = in_rest y xs x (rest c)

is_in : {X : Type 0} (p : X → Bool) (xs : List X) (x : X) → Contains (filter p xs) x → Contains xs x
is_in p [] x c = absurd (in_none x c)
is_in p (y ∷ xs) x c = kept_is_in p y xs x (p y) (is_in p xs x) c

stays : {X : Type 0} (p : X → Bool) (y : X) (xs : List X) (x : X) (b : Bool) → Contains (filter p xs) x → Contains (cond b (y ∷ filter p xs) (filter p xs)) x
stays p y xs x true c = in_rest y (filter p xs) x c
stays p y xs x false c = c

passes : {X : Type 0} (p : X → Bool) (xs : List X) (x : X) → p x ≡ true → Contains xs x → Contains (filter p xs) x
passes p [] x e c = absurd (in_none x c)
passes {X} p (y ∷ xs) x e c =
    elim (in_cases y xs x c) [
      | inl same ↦
          let one : p y ≡ true = ap p same ∙ e in
          subst (λ (b : Bool). Contains (cond b (y ∷ filter p xs) (filter p xs)) x) (sym one)
          (subst (λ (z : X). Contains (y ∷ filter p xs) z) same (in_first y (filter p xs)))
      | inr rest ↦ stays p y xs x (p y) (passes p xs x e rest)
    ]

-- ---- INBOX, and the others

inbox_is : (has_inbox : Bool) (name : List ℕ) → Contains (first_names has_inbox) name → (name ≡ codes "INBOX") × (has_inbox ≡ true)
inbox_is true name c = (sym (in_one (codes "INBOX") name c), refl)
inbox_is false name c = absurd (in_none name c)

inbox_in : (has_inbox : Bool) (name : List ℕ) → name ≡ codes "INBOX" → has_inbox ≡ true → Contains (first_names has_inbox) name
inbox_in has_inbox name e is =
    subst (λ (n : List ℕ). Contains (first_names has_inbox) n) (sym e)
    (subst (λ (b : Bool). Contains (first_names b) (codes "INBOX")) (sym is) (in_first (codes "INBOX") []))

box_is_name : (tree : Tree) (root inbox name : List ℕ) → IsBoxUnder tree root inbox name → is_mailbox_name name ≡ true
box_is_name tree root inbox name box =
    let both = and_parts (is_mailbox_name (box.way ++ box.part)) (not (has_own_part (box.way ++ box.part))) box.below.within in
    subst (λ (n : List ℕ). is_mailbox_name n ≡ true) (sym box.named) both.0

is_other : (tree : Tree) (root inbox : List ℕ) (listed sorted : List (String Global)) (name : List ℕ) → IsPermutation listed sorted
    → (Contains (map string_bytes listed) name → IsBoxUnder tree root inbox name)
    → Contains (filter is_mailbox_name (map string_bytes sorted)) name → IsBoxUnder tree root inbox name
is_other tree root inbox listed sorted name moved is c =
    is (Contains-permutation (map string_bytes sorted) (map string_bytes listed) name
    (IsPermutation-sym (map string_bytes listed) (map string_bytes sorted) (IsPermutation-map string_bytes listed sorted moved))
    (is_in is_mailbox_name (map string_bytes sorted) name c))

other_in : (tree : Tree) (root inbox : List ℕ) (listed sorted : List (String Global)) (name : List ℕ) → IsPermutation listed sorted
    → (IsBoxUnder tree root inbox name → Contains (map string_bytes listed) name)
    → IsBoxUnder tree root inbox name → Contains (filter is_mailbox_name (map string_bytes sorted)) name
other_in tree root inbox listed sorted name moved is box =
    passes is_mailbox_name (map string_bytes sorted) name (box_is_name tree root inbox name box)
    (Contains-permutation (map string_bytes listed) (map string_bytes sorted) name (IsPermutation-map string_bytes listed sorted moved) (is box))

pub are_boxes : (home : Option (List ℕ)) (store : MaildirStore) (root inbox : List ℕ) (has_inbox : Bool) (before after : List Look)
    (listed sorted : List (String Global)) (names : List (List ℕ)) → root ≡ placed home (string_bytes store.path)
    → inbox ≡ placed home (string_bytes store.inbox) → AreBoxesUnder root inbox before (map string_bytes listed) → IsPermutation listed sorted
    → after ≡ BoxAt inbox has_inbox ∷ before → names ≡ first_names has_inbox ++ filter is_mailbox_name (map string_bytes sorted)
    → AreBoxes home store after names
are_boxes home store root inbox has_inbox before after listed sorted names at_root at_inbox under moved noted all = λ tree agrees name.
    let others : List (List ℕ) = filter is_mailbox_name (map string_bytes sorted) in
    let is : tree.is_box inbox ≡ has_inbox = box_answered tree inbox has_inbox before after noted agrees in
    let boxes = under tree ((later_one (BoxAt inbox has_inbox) before after noted).earlier tree agrees) name in
    let Has : List ℕ → List ℕ → Type 0 = λ r i. IsInbox tree i name ⊎ IsBoxUnder tree r i name in
    let here : Has root inbox → HasBox tree home store name = λ h.
    subst (λ (r : List ℕ). Has r (placed home (string_bytes store.inbox))) at_root (subst (λ (i : List ℕ). Has root i) at_inbox h) in
    let back : HasBox tree home store name → Has root inbox = λ h.
    subst (λ (i : List ℕ). Has root i) (sym at_inbox) (subst (λ (r : List ℕ). Has r (placed home (string_bytes store.inbox))) (sym at_root) h) in
    let to : Contains (first_names has_inbox ++ others) name → Has root inbox = λ c.
    elim (Contains-append_cases (first_names has_inbox) others name c) [
      | inl first ↦ let e = inbox_is has_inbox name first in inl (e.0, is ∙ e.1)
      | inr other ↦ inr (is_other tree root inbox listed sorted name moved boxes.0 other)
    ] in
    let from : Has root inbox → Contains (first_names has_inbox ++ others) name = λ h. elim h [
      | inl first ↦ Contains-append_left (first_names has_inbox) others name (inbox_in has_inbox name first.0 (sym is ∙ first.1))
      | inr other ↦ Contains-append_right (first_names has_inbox) others name (other_in tree root inbox listed sorted name moved boxes.1 other)
    ] in (
      λ c. here (to (subst (λ (l : List (List ℕ)). Contains l name) all c)),
      λ h. subst (λ (l : List (List ℕ)). Contains l name) (sym all) (from (back h)),
    )
