-- Where all messages are fit, none is skipped.
use Rattle.std.proofs.Common.{◌≡◌, ◌∙◌, Bool, true, false, ◌&&◌, List, [], ◌∷◌, ◌++◌, map, refl, ap, cond}
use Rattle.std.specs.Prelude.{not, filter}
use Rattle.std.specs.List.{list_all}
use Rattle.std.proofs.lemmas.Bool.{and_parts}
use Rattle.mailcore.specs.declared.listing.Item.{Item}
use Rattle.mailcore.specs.declared.side.Side.TheVariants as side
use Rattle.mailcore.specs.declared.side.Direction.{Direction}
use Rattle.mailcore.specs.declared.side.Direction.TheVariants.{Pull, Push}
use Rattle.mailcore.specs.Sides.{source}
use Rattle.rules.specs.Scene.{Scene}
use Rattle.rules.specs.Called.{is_unfit, would_be_new}
use Rattle.planner.specs.Listed.{all_unfit}

not_unfit : (b fit : Bool) → fit ≡ true → (b && not fit) ≡ false
not_unfit true fit is = ap not is
not_unfit false fit is = refl

none_here : (s : Scene) (d : Direction) (items : List Item) → list_all (λ (i : Item). i.fit) items ≡ true → filter (is_unfit s d) items ≡ []
none_here s d [] all = refl
none_here s d (i ∷ items) all =
    let u = and_parts i.fit (list_all (λ (x : Item). x.fit) items) all in
    ap (λ (b : Bool). cond b (i ∷ filter (is_unfit s d) items) (filter (is_unfit s d) items)) (not_unfit (would_be_new s d i) i.fit u.0) ∙ none_here s d items u.1

pub none_unfit : (s : Scene) → list_all (λ (i : Item). i.fit) s.far ≡ true → list_all (λ (i : Item). i.fit) s.near ≡ true → all_unfit s ≡ []
none_unfit s far near =
    ap (λ (is : List Item). map (λ i. (side.Far, i.uid)) is ++ map (λ i. (side.Near, i.uid)) (filter (is_unfit s Push) s.near)) (none_here s Pull s.far far)
    ∙ ap (λ (is : List Item). map (λ i. (side.Near, i.uid)) is) (none_here s Push s.near near)
