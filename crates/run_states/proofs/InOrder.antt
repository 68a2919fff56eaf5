-- Maps of UIDs that rise keep the order of a plan.
use Rattle.std.proofs.Common.{◌≡◌, ◌<◌, ℕ, inl, inr, refl, sym, ap, subst, ◌∙◌}
use Rattle.std.specs.Prelude.{◌||◌, ◌==◌, if◌then◌else◌}
use Rattle.mailcore.specs.declared.side.Side.{Side}
use Rattle.mailcore.specs.declared.side.Side.TheVariants.{Far, Near}
use Rattle.mailcore.specs.declared.side.Direction.TheVariants.{Pull, Push}
use Rattle.rules.specs.Order.{Before, IsBelow, place}
use Rattle.rules.specs.Propagation.{Propagation, New, Gone, Flags, Expunge, Record, Drop}
use Rattle.rules.specs.Renaming.{IsRenaming}
use Rattle.rules.specs.World.{store}
use Rattle.law_outcome.specs.OtherUids.{propagation_under}
use Rattle.run_states.specs.Worlds.{NextIsInOrder}
use Rattle.law_outcome.proofs.Maps.{mono}

-- the side by whose UIDs a kind rises first
abbrev side_of : (kind : ℕ) → Side
side_of kind = if kind == 1 || kind == 2 || kind == 7 then Near else Far

abbrev at : (kind first second : ℕ) → ℕ × ℕ × ℕ
at kind first second = (kind, first, second)

abbrev sent : (Side → ℕ → ℕ) → ℕ × ℕ × ℕ → ℕ × ℕ × ℕ
sent to a = (a.0, to (side_of a.0) a.1, to Near a.2)

module _ (to : Side → ℕ → ℕ) (next : Side → ℕ) (some : (side : Side) → 0 < next side) (renames : (side : Side) → IsRenaming (next side) (to side)) where
  none : to Near 0 ≡ 0
  none = (renames Near).same 0 (some Near)

  with_none : (k u : ℕ) → at k u 0 ≡ at k u (to Near 0)
  with_none k u = ap (λ (n : ℕ). at k u n) (sym none)

  place_sent : (p : Propagation) → place (propagation_under to p) ≡ sent to (place p)
  place_sent (New Pull u) = with_none 0 (to Far u)
  place_sent (New Push u) = with_none 1 (to Near u)
  place_sent (Gone Pull f n) = with_none 2 (to Near n)
  place_sent (Gone Push f n) = with_none 3 (to Far f)
  place_sent (Flags Pull f n set cleared) = with_none 4 (to Far f)
  place_sent (Flags Push f n set cleared) = with_none 5 (to Far f)
  place_sent (Expunge Far u) = with_none 6 (to Far u)
  place_sent (Expunge Near u) = with_none 7 (to Near u)
  place_sent (Record f n w) = refl
  place_sent (Drop f n) = refl

  below_sent : (a b : ℕ × ℕ × ℕ) → IsBelow a b → IsBelow (sent to a) (sent to b)
  below_sent a b (inl k) = inl k
  below_sent a b (inr (e, inl l)) = inr (e, inl (subst (λ (k : ℕ). to (side_of a.0) a.1 < to (side_of k) b.1) e (mono (next (side_of a.0)) (to (side_of a.0)) (renames (side_of a.0)) a.1 b.1 l)))
  below_sent a b (inr (e, inr (s, l))) =
      inr (e, inr (ap (λ (u : ℕ). to (side_of a.0) u) s ∙ ap (λ (k : ℕ). to (side_of k) b.1) e, mono (next Near) (to Near) (renames Near) a.2 b.2 l))

  pub before_sent : (p q : Propagation) → Before p q → Before (propagation_under to p) (propagation_under to q)
  before_sent p q h =
      subst (λ (x : ℕ × ℕ × ℕ). IsBelow x (place (propagation_under to q))) (sym (place_sent p))
      (subst (λ (x : ℕ × ℕ × ℕ). IsBelow (sent to (place p)) x) (sym (place_sent q)) (below_sent (place p) (place q) h))

pub next_is_in_order : NextIsInOrder
next_is_in_order opening outcome found a above p q h = before_sent a.to (λ side. (store opening side).next) above a.renames p q h
