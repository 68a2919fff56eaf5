-- Groups, and the places of their channels.
use Rattle.std.proofs.Common.{◌≡◌, ◌∙◌, ℕ, ◌+◌, List, [], ◌∷◌, ◌++◌, append_assoc, drop, map, refl, ap, sym}
use Rattle.std.specs.Prelude.{All, Option, Some}
use Rattle.std.proofs.lemmas.List.{map-append}
use Rattle.std.proofs.lemmas.List.Elements.{All-head, All-tail, All-nil, All-cons}
use Rattle.config.specs.declared.config.Group.{Group}
use Rattle.config.specs.declared.group.Member.{Member}
use Rattle.config.specs.declared.group.NamedGroup.{NamedGroup}
use Rattle.config.specs.Configurations.{group_value, placed}
use Rattle.config.specs.Named.{group_named, member_name}

pub all_before : {A : Type 0} (P : A → Type 0) (xs : List A) (x : A) → All P (xs ++ x ∷ []) → All P xs × P x
all_before P [] x all = (All-nil P, All-head P x [] all)
all_before P (y ∷ xs) x all =
    let rest = all_before P xs x (All-tail P y (xs ++ x ∷ []) all) in
    (All-cons P y xs (All-head P y (xs ++ x ∷ []) all) rest.0, rest.1)

-- one name more
pub name_more : (items new : List Member) (m : Member) (name : List ℕ) (before names : List (List ℕ)) → new ≡ items ++ m ∷ [] → member_name m ≡ name
    → map member_name items ≡ before ++ names → map member_name new ≡ before ++ (names ++ name ∷ [])
name_more items new m name before names grown is known =
    let step : map member_name items ++ member_name m ∷ [] ≡ (before ++ names) ++ name ∷ [] = cc in
    ap (λ (l : List Member). map member_name l) grown ∙ (map-append member_name items (m ∷ []) ∙ (step ∙ append_assoc before names (name ∷ [])))

-- one place more
pub place_more : (f : List ℕ → Option ℕ) (places new : List ℕ) (place : ℕ) (left following : List Member) (m : Member) (all : List (Option ℕ))
    → new ≡ places ++ place ∷ [] → left ≡ m ∷ following → Some place ≡ f (member_name m)
    → map Some places ++ map f (map member_name left) ≡ all → map Some new ++ map f (map member_name following) ≡ all
place_more f places new place left following m all grown next found known =
    let rest : List (Option ℕ) = map f (map member_name following) in
    ap (λ (l : List ℕ). map Some l ++ rest) grown
    ∙ (ap (λ (l : List (Option ℕ)). l ++ rest) (map-append Some places (place ∷ []))
    ∙ (append_assoc (map Some places) (Some place ∷ []) rest
    ∙ (ap (λ (o : Option ℕ). map Some places ++ o ∷ rest) found
    ∙ (sym (ap (λ (l : List Member). map Some places ++ map f (map member_name l)) next) ∙ known))))

-- one group more
pub group_more : (names : List (List ℕ)) (found new : List Group) (group : Group) (before : List NamedGroup) (named : NamedGroup)
    → new ≡ found ++ group ∷ [] → group_value group ≡ placed names (group_named named)
    → map group_value found ≡ map (placed names) (map group_named before)
    → map group_value new ≡ map (placed names) (map group_named (before ++ named ∷ []))
group_more names found new group before named grown is known =
    let step : map group_value found ++ group_value group ∷ [] ≡ map (placed names) (map group_named before) ++ placed names (group_named named) ∷ [] = cc in
    ap (λ (l : List Group). map group_value l) grown
    ∙ (map-append group_value found (group ∷ [])
    ∙ (step ∙ sym (ap (λ l. map (placed names) l) (map-append group_named before (named ∷ []))
    ∙ map-append (placed names) (map group_named before) (group_named named ∷ []))))
