-- Where the path does not begin with `~/` it stays as it is.
use Rattle.std.proofs.Common.{◌≡◌, ℕ, ◌∷◌, List, Some, IfOk, string_bytes, sym, subst}
use Rattle.near_places.specs.Paths.{placed}
use Rattle.near_places.proofs.PathLemmas.{placed_elsewhere}
use Rattle.near_places.proofs.home.place_below.Goals as goal

pub returns-in_default : goal.returns-in_default
unfolding lib.Utf8.encode
returns-in_default c =
    let same : placed (Some c.args.home.now) c.args.path.now ≡ c.args.path.now =
    placed_elsewhere c.args.home.now c.args.path.now (λ rest e. c.in_default.ensures.cases (47 ∷ rest) e) in
    subst (λ (p : List ℕ). IfOk c.from_str.result (λ text. string_bytes text ≡ p)) (sym same) c.from_str.ensures.ok
