-- When a path begins at the home folder.
use Rattle.std.proofs.Common.{◌≡◌, ◌≢◌, inl, inr, ℕ, Bool, false, cond, List, [], ◌∷◌, ◌++◌, refl, ◌∙◌, ap}
use Rattle.std.specs.Prelude.{Some, ◌==◌, ◌&&◌}
use Rattle.std.proofs.Math.Bool.{and-false}
use Rattle.std.proofs.lemmas.Bool.Decides.{eqb_tells}
use Rattle.near_places.specs.Paths.{begins_with_slash, placed}

not_at_home : (b : ℕ) (bs : List ℕ) → ((rest : List ℕ) → b ∷ bs ≢ 126 ∷ 47 ∷ rest) → (b == 126 && begins_with_slash bs) ≡ false
not_at_home b [] other = and-false (b == 126)
not_at_home b (c ∷ cs) other =
    elim (eqb_tells b 126) [
      | inl tilde ↦ elim (eqb_tells c 47) [
        | inl slash ↦ let same : b ∷ c ∷ cs ≡ 126 ∷ 47 ∷ cs = cc in absurd (other cs same)
        | inr byte ↦ ap (λ (t : Bool). t && (c == 47)) tilde.0 ∙ byte.0
      ]
      | inr byte ↦ ap (λ (t : Bool). t && (c == 47)) byte.0
    ]

-- another path stays as it is
pub placed_elsewhere : (home path : List ℕ) → ((rest : List ℕ) → path ≢ 126 ∷ 47 ∷ rest) → placed (Some home) path ≡ path
placed_elsewhere home [] other = refl
placed_elsewhere home (b ∷ bs) other = ap (λ (t : Bool). cond t (home ++ bs) (b ∷ bs)) (not_at_home b bs other)
