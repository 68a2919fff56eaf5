-- A step of the walks of `src/looks.rt`: a struct without fields. Assumes `Logic`.
use Rattle.std.proofs.Common.{List, [], ◌∷◌, refl}
use seplogic.Ra.Ura.{Ura}
use mir.Val.{Val, vstruct, vnil}
use types.Logic.{Logic}
use types.Kit.{Goal, Step, step, Item, ‵, ◌$◌, fjoin, fpack, feq_i}
use denote.RattleType.{Valss}
use denote.Steps.{nothing}
use denote.Struct.Struct.{Struct, Shape, within}

-- to the machine
abbrev pub bare : Val
bare = vstruct vnil

abbrev shape : Shape
shape = record { name = []; args = []; types = []; fields = [] }

-- it owns nothing
pub owns_none : {M : Type 1} {𝓤 : Ura M} {𝓛 : Logic 𝓤} {K : Type 0} {Γ : List (Item 𝓤)} {G : Goal 𝓤 𝓛.H} → K
    → Step K 𝓛 (‵ ((Struct shape).own_val tt (bare ∷ [])) ∷ Γ) G Γ G
owns_none t = step (λ s. nothing t $ feq_i t (List Val) (bare ∷ []) (bare ∷ []) refl $ fjoin t $ fpack t (Valss []) (within shape tt (bare ∷ [])) tt $ s)
