-- Entries stay pairs when one is added that may stand last.
use Rattle.std.proofs.Common.{◌≡◌, ℕ, ◌<◌, Bool, true, List, [], ◌∷◌, ◌++◌, Option, Some, None, refl, subst, inl, inr, arith}
use Rattle.std.specs.Prelude.{All, not, ◌&&◌, ◌||◌, ◌==◌, nat_lt, is_none}
use Rattle.std.specs.List.{list_all}
use Rattle.std.proofs.lemmas.Bool.{false≢true, and_parts, or_cases, eqb-true, eq-eqb, ltb-true}
use Rattle.std.proofs.lemmas.List.Elements.{All-push, All-weaker}
use Rattle.std.proofs.lemmas.List.Quantifiers.{all_pairs_push}
use Rattle.std.proofs.lemmas.List.Sums.{AllPass-from_list_all}
use Rattle.mailcore.specs.declared.side.Side.TheVariants.{Far, Near}
use Rattle.rules.specs.declared.entry.Entry.{Entry}
use Rattle.rules.specs.Entries.{ArePairs, EntryBefore, uid_of, is_same, follows, has_a_side, may_end}

-- what a test says of two entries
record Follows (a b : Entry) : Type 0 where
  before : EntryBefore a b
  far : a.far ≡ b.far → a.far ≡ None
  near : a.near ≡ b.near → a.near ≡ None

is_same-same : (x : Option ℕ) → is_same x x ≡ true
is_same-same None = refl
is_same-same (Some u) = eq-eqb u u refl

same_is : (x y : Option ℕ) → x ≡ y → is_same x y ≡ true
same_is x y e = subst (λ z. is_same x z ≡ true) e (is_same-same x)

none_is : (x : Option ℕ) → is_none x ≡ true → x ≡ None
none_is None h = refl
none_is (Some u) h = absurd (false≢true h)

pub once : (x y : Option ℕ) → (not (is_same x y) || is_none x) ≡ true → x ≡ y → x ≡ None
once x y h e = elim (or_cases (not (is_same x y)) (is_none x) h) [
  | inl other ↦ absurd (false≢true (rw (same_is x y e) at other))
  | inr none ↦ none_is x none
]

follows_says : (a b : Entry) → follows a b ≡ true → Follows a b
follows_says a b h =
    let first : Bool = nat_lt (uid_of Far a) (uid_of Far b) || (uid_of Far a == uid_of Far b && nat_lt (uid_of Near a) (uid_of Near b)) in
    let u = and_parts (first && (not (is_same a.far b.far) || is_none a.far)) (not (is_same a.near b.near) || is_none a.near) h in
    let v = and_parts first (not (is_same a.far b.far) || is_none a.far) u.0 in
    record {
      before = elim (or_cases (nat_lt (uid_of Far a) (uid_of Far b)) (uid_of Far a == uid_of Far b && nat_lt (uid_of Near a) (uid_of Near b)) v.0) [
        | inl below ↦ let l : uid_of Far a < uid_of Far b = ltb-true (uid_of Far a) (uid_of Far b) below in (omega arith, λ e. absurd (omega (arith, e)))
        | inr here ↦ let w = and_parts (uid_of Far a == uid_of Far b) (nat_lt (uid_of Near a) (uid_of Near b)) here in
            let e : uid_of Far a ≡ uid_of Far b = eqb-true (uid_of Far a) (uid_of Far b) w.0 in let l : uid_of Near a < uid_of Near b = ltb-true (uid_of Near a) (uid_of Near b) w.1 in (omega arith, λ _. l)
      ];
      far = once a.far b.far v.1;
      near = once a.near b.near u.1;
    }

pub ArePairs-push : (es : List Entry) (e : Entry) → ArePairs es → may_end e es ≡ true → ArePairs (es ++ e ∷ [])
ArePairs-push es e p h =
    let u = and_parts (has_a_side e) (list_all (λ a. follows a e) es) h in
    let all : All (λ a. Follows a e) es = All-weaker (λ a. follows a e ≡ true) (λ a. Follows a e) (λ a t. follows_says a e t) es (AllPass-from_list_all (λ a. follows a e) es u.1) in
    record {
      ordered = all_pairs_push EntryBefore es e p.ordered (λ k d l. (all k d l).before);
      some = All-push (λ x. has_a_side x ≡ true) es e p.some u.0;
      far_once = all_pairs_push (λ a b. a.far ≡ b.far → a.far ≡ None) es e p.far_once (λ k d l. (all k d l).far);
      near_once = all_pairs_push (λ a b. a.near ≡ b.near → a.near ≡ None) es e p.near_once (λ k d l. (all k d l).near);
    }
