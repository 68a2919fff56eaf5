-- Texts that begin with a start, or do not.
use Rattle.std.proofs.Common.{◌≡◌, ◌≢◌, ℕ, true, false, eqb, List, ◌++◌, length, drop, take, sym, ap, ◌∙◌, refl}
use Rattle.std.specs.Cmp.Lexicographic.{pointwise, bytes_decides}
use Rattle.std.proofs.lemmas.List.{take-append-drop, take_at}

pub starts : (start text rest : List ℕ) → pointwise eqb (take (length start) text) start ≡ true → rest ≡ drop (length start) text → text ≡ start ++ rest
starts start text rest same is =
    let front : take (length start) text ≡ start = (bytes_decides (take (length start) text) start).0 same in
    sym (take-append-drop (length start) text) ∙ ap (λ (x : List ℕ). x ++ drop (length start) text) front ∙ ap (λ (x : List ℕ). start ++ x) (sym is)

pub no_start : (start text rest : List ℕ) → pointwise eqb (take (length start) text) start ≡ false → text ≢ start ++ rest
no_start start text rest other is =
    let front : take (length start) text ≡ start = ap (λ (x : List ℕ). take (length start) x) is ∙ take_at start rest (length start) refl in
    let same = (bytes_decides (take (length start) text) start).1 front in
    let both : true ≡ false = sym same ∙ other in
    cc
