use Rattle.std.proofs.Common.{◌≡◌, List, ℕ, sym, subst, ◌∙◌, rules}
use Rattle.link_face.specs.Names.{IsName}
use Rattle.link_face.proofs.Cuts.{same_name, none_case, some_case}
use Rattle.link_face.proofs.OneToOne.{one_far}
use Rattle.link_face.proofs.command.with_far_name.Goals as goal

pub returns-in_default-2 : goal.returns-in_default-2
returns-in_default-2 c tag word near following far names name =
    let named = c.in-Some.named in
    let same = same_name c.args.command.now named.tag.now named.word.now named.name.now named.following.now tag word near following c.in-Some.ensures.parts names.parts in
    let never = none_case c.in_ok-far.field-0 _ _ c.in_default-2.is c.in_ok-far.ensures in
    let P : List ℕ → Type 0 = λ near. IsName far near in
    absurd (never far (subst P (sym same) name))

pub returns-then-eq : goal.returns-then-eq
returns-then-eq c tag word near following far names name =
    let named = c.in-Some.named in
    let same = same_name c.args.command.now named.tag.now named.word.now named.name.now named.following.now tag word near following c.in-Some.ensures.parts names.parts in
    let found = some_case c.in_ok-far.field-0 _ _ c.in-Some-2.far c.in-Some-2.is c.in_ok-far.ensures in
    let unchanged : c.in-Some-2.far.items ≡ named.name.now = search rules in
    let P : List ℕ → Type 0 = λ near. IsName c.in-Some-2.far.items near in
    one_far near far c.in-Some-2.far.items name (subst P same found) ∙ (unchanged ∙ same)
