-- Steps of the walks of records that take no memory: a struct whose one field has no bytes. Assumes `Logic`.
use Rattle.std.proofs.Common.{List, [], ◌∷◌, refl}
use seplogic.Ra.Ura.{Ura}
use mir.Val.{Val, vstruct, vcons, vnil}
use types.Logic.{Logic}
use types.Kit.{Goal, Step, step, Item, ‵, ◌$◌, move, fjoin, fpack, feq_i}
use denote.RattleType.{RattleType, Valss}
use denote.Steps.{nothing}
use denote.Struct.Struct.{Struct, Shape, within}

-- a struct without fields, and one of one field, to the machine
abbrev pub bare : Val
bare = vstruct vnil

abbrev pub wrapped : Val
wrapped = vstruct (vcons bare vnil)

abbrev shape : RattleType → Shape
shape R = record { name = []; args = []; types = []; fields = R ∷ [] }

-- who owns what the field owns, owns what the struct does
pub wraps : {M : Type 1} {𝓤 : Ura M} {𝓛 : Logic 𝓤} {K : Type 0} {Γ : List (Item 𝓤)} {G : Goal 𝓤 𝓛.H} → K → (R : RattleType) (x : R.Denot)
    → Step K 𝓛 (‵ ((Struct (shape R)).own_val (x, tt) (wrapped ∷ [])) ∷ Γ) G (‵ (R.own_val x (bare ∷ [])) ∷ Γ) G
wraps t R x = step (λ s.
    nothing t $ move t (1 ∷ 0 ∷ []) $ fjoin t $ feq_i t (List Val) (wrapped ∷ []) (wrapped ∷ []) refl $ fjoin t $
    fpack t (Valss (R ∷ [])) (within (shape R) (x, tt) (wrapped ∷ [])) (bare ∷ [], tt) $ s)
