-- What a change of a map with byte strings as keys leaves at any name.
use Rattle.std.proofs.Common.{◌≡◌, ℕ, Bool, true, false, cond, List, [], ◌∷◌, Option, None, Some, refl, sym, ap, subst, ◌∙◌, ◌⊎◌, inl, inr, arith}
use Rattle.std.specs.Prelude.{nat_eq, Vec}
use Rattle.std.specs.Global.{Global}
use Rattle.std.specs.Option.{option_map}
use Rattle.std.specs.Cmp.Lexicographic.{pointwise, bytes_decides, nat_list_eq_equiv}
use Rattle.std.specs.HashMap.{HashMap, UpdatesBy, get}
use Rattle.std.specs.Map.{lookup, IsKeyTest, AreApart, KeepsOthers}
use Rattle.maildir.specs.declared.name_index.NameIndex.{NameIndex}
use Rattle.maildir.specs.NameIndexes.{KeepsRoom, found_in}

abbrev pub Key : Type 0
Key = Vec ℕ Global

abbrev pub same_key : Key → Key → Bool
same_key one other = pointwise nat_eq one.items other.items

abbrev pub is_key : List ℕ → Key → Bool
is_key name key = pointwise nat_eq name key.items

key_test : (name : List ℕ) → IsKeyTest same_key (is_key name)
key_test name x y = nat_list_eq_equiv.congr name x.items y.items

-- ---- the same entries in another order

some_key : (test : Key → Bool) (es : List (Key × ℕ)) → ((key : Key) × (test key ≡ true)) ⊎ (lookup test es ≡ None)
some_key test [] = inr refl
some_key test (e ∷ es) = by_test (test e.0) refl (some_key test es)
  where
    by_test : (b : Bool) → test e.0 ≡ b → ((key : Key) × (test key ≡ true)) ⊎ (lookup test es ≡ None)
        → ((key : Key) × (test key ≡ true)) ⊎ (cond (test e.0) (Some e.1) (lookup test es) ≡ None)
    by_test true passes rest = inl (e.0, passes)
    by_test false fails (inl key) = inl key
    by_test false fails (inr none) = inr (rw fails none)

lookup_same : (test other : Key → Bool) → ((key : Key) → test key ≡ other key) → (es : List (Key × ℕ)) → lookup test es ≡ lookup other es
lookup_same test other same [] = refl
lookup_same test other same (e ∷ es) = rw (same e.0, lookup_same test other same es) refl

pub found_in_reordered : {S : Type 0} (m n : HashMap Key ℕ S) → ((key : Key) → get same_key n key ≡ get same_key m key) → (name : List ℕ) → found_in name n ≡ found_in name m
found_in_reordered m n same name = by_key (some_key (is_key name) m.entries) (some_key (is_key name) n.entries)
  where
    at_key : (key : Key) → is_key name key ≡ true → found_in name n ≡ found_in name m
    at_key key passes =
        let alike = λ (y : Key). key_test name key y passes in
        lookup_same (is_key name) (same_key key) alike n.entries ∙ same key ∙ sym (lookup_same (is_key name) (same_key key) alike m.entries)

    by_key : ((key : Key) × (is_key name key ≡ true)) ⊎ (lookup (is_key name) m.entries ≡ None)
        → ((key : Key) × (is_key name key ≡ true)) ⊎ (lookup (is_key name) n.entries ≡ None) → found_in name n ≡ found_in name m
    by_key (inl key) other = at_key key.0 key.1
    by_key (inr none) (inl key) = at_key key.0 key.1
    by_key (inr none) (inr none') = none' ∙ sym none

-- ---- one key's value changes

others_kept : (test : Key → Bool) (old new : List (Key × ℕ)) → KeepsOthers same_key test old new
    → (other : Key → Bool) → IsKeyTest same_key other → AreApart test other → lookup other new ≡ lookup other old
unfolding KeepsOthers
others_kept test old new kept = kept

pub found_in_updated : {S : Type 0} (m n : HashMap Key ℕ S) (at : List ℕ) (value : Option ℕ) → UpdatesBy same_key (is_key at) m n value
    → (name : List ℕ) → found_in name n ≡ cond (pointwise nat_eq name at) value (found_in name m)
found_in_updated m n at value updates name = by_name (pointwise nat_eq name at) refl
  where
    apart : pointwise nat_eq name at ≡ false → AreApart (is_key at) (is_key name)
    apart differs key passes = nat_list_eq_equiv.symm name key.items ∙ sym (nat_list_eq_equiv.congr at key.items name passes) ∙ nat_list_eq_equiv.symm at name ∙ differs

    by_name : (b : Bool) → pointwise nat_eq name at ≡ b → found_in name n ≡ cond (pointwise nat_eq name at) value (found_in name m)
    by_name true same = rw same (subst (λ l. found_in l n ≡ value) (sym ((bytes_decides name at).0 same)) updates.1)
    by_name false differs = rw differs (others_kept (is_key at) m.entries n.entries updates.3 (is_key name) (key_test name) (apart differs))

-- the value of a key that is there is another one
pub found_in_renumbered : {S : Type 0} (m n : HashMap Key ℕ S) (at : List ℕ) (before spot : ℕ) → found_in at m ≡ Some before → UpdatesBy same_key (is_key at) m n (Some spot)
    → (name : List ℕ) → found_in name n ≡ cond (pointwise nat_eq name at) (option_map (λ b. spot) (found_in name m)) (found_in name m)
found_in_renumbered m n at before spot there updates name = by_name (pointwise nat_eq name at) refl
  where
    by_name : (b : Bool) → pointwise nat_eq name at ≡ b → found_in name n ≡ cond (pointwise nat_eq name at) (option_map (λ b. spot) (found_in name m)) (found_in name m)
    by_name true same =
        let here : found_in name m ≡ Some before = ap (λ (l : List ℕ). found_in l m) ((bytes_decides name at).0 same) ∙ there in
        rw same at (found_in_updated m n at (Some spot) updates name) ∙ rw (same, here) refl
    by_name false differs = rw differs at (found_in_updated m n at (Some spot) updates name) ∙ rw differs refl

pub room_kept : (old mid new : NameIndex) → KeepsRoom old mid → KeepsRoom mid new → KeepsRoom old new
room_kept old mid new first then = (let a = first.0 in let b = then.0 in omega (arith, a, b), let a = first.1 in let b = then.1 in omega (arith, a, b))
