-- Chunks of bytes, of which the first is the last in a vector, and what is handed out of them.
use Rattle.std.proofs.Common.{◌≡◌, ℕ, ◌+◌, ◌-◌, ◌<◌, refl, subst, List, [], ◌∷◌, ◌++◌, length, take, drop, sym, ap, ◌∙◌, append_assoc, arith}
use Rattle.std.specs.Prelude.{Vec, Option, Some, None, MatchOption, option_to_list}
use Rattle.std.specs.Global.{Global}
use Rattle.std.proofs.lemmas.List.{append-nil}
use Rattle.link_face.specs.Chunks.{AreSome, from_last}
use Rattle.link_face.proofs.Pieces.{took}

-- a chunk that is put before the others is handed out before them
pub from_last-snoc : (chunks : List (Vec ℕ Global)) (chunk : Vec ℕ Global) → from_last (chunks ++ chunk ∷ []) ≡ chunk.items ++ from_last chunks
from_last-snoc [] chunk = sym (append-nil chunk.items)
from_last-snoc (c ∷ cs) chunk = ap (λ (l : List ℕ). l ++ c.items) (from_last-snoc cs chunk) ∙ append_assoc chunk.items (from_last cs) c.items

pub are_some-snoc : (chunks : List (Vec ℕ Global)) (chunk : Vec ℕ Global) → AreSome chunks → 0 < length chunk.items → AreSome (chunks ++ chunk ∷ [])
are_some-snoc [] chunk some is_some = (is_some, tt)
are_some-snoc (c ∷ cs) chunk some is_some = (some.0, are_some-snoc cs chunk some.1 is_some)

pub snoc-are_some : (chunks : List (Vec ℕ Global)) (chunk : Vec ℕ Global) → AreSome (chunks ++ chunk ∷ []) → AreSome chunks × (0 < length chunk.items)
snoc-are_some [] chunk some = (tt, some.0)
snoc-are_some (c ∷ cs) chunk some = let more = snoc-are_some cs chunk some.1 in ((some.0, more.0), more.1)

-- the last of the vector is taken out, if there is one
pub taken_first : (old new : List (Vec ℕ Global)) (result : Option (Vec ℕ Global)) (now : List ℕ) (many left : ℕ) → AreSome old → old ≡ new ++ option_to_list result
    → many ≡ length old → MatchOption result ((many ≡ 0) × (left ≡ 0)) (λ chunk. left + 1 ≡ many) → from_last old ≡ now
    → MatchOption result ((now ≡ []) × (from_last new ≡ [])) (λ chunk. (0 < length chunk.items) × (now ≡ chunk.items ++ from_last new))
taken_first old new None now many left some same len none is =
    let nothing : new ≡ old = sym (same ∙ append-nil new) in
    let empty : old ≡ [] = are_none old (sym len ∙ none.0) in
    (sym is ∙ ap from_last empty, ap from_last (nothing ∙ empty))
  where
    are_none : (chunks : List (Vec ℕ Global)) → length chunks ≡ 0 → chunks ≡ []
    are_none [] e = refl
    are_none (c ∷ cs) e = absurd (omega arith)
taken_first old new (Some chunk) now many left some same len none is =
    let P : List (Vec ℕ Global) → Type 0 = AreSome in
    ((snoc-are_some new chunk (subst P same some)).1, sym is ∙ ap from_last same ∙ from_last-snoc new chunk)

-- what is left of those chunks
pub rest-are_some : (old new : List (Vec ℕ Global)) (result : Option (Vec ℕ Global)) → AreSome old → old ≡ new ++ option_to_list result → AreSome new
rest-are_some old new None some same = let P : List (Vec ℕ Global) → Type 0 = AreSome in subst P (same ∙ append-nil new) some
rest-are_some old new (Some chunk) some same = let P : List (Vec ℕ Global) → Type 0 = AreSome in (snoc-are_some new chunk (subst P same some)).0

-- a copy of the front was handed out, and the rest is left, before what comes later
pub took_before : (bytes lent piece now later left : List ℕ) (given n : ℕ) → drop given bytes ++ later ≡ now → lent ≡ bytes → take n piece ≡ take n (take (length lent - given) (drop given lent))
    → left ≡ drop (given + n) bytes ++ later → now ≡ take n piece ++ left
took_before bytes lent piece now later left given n is same copied rest =
    sym is
    ∙ ap (λ (l : List ℕ). l ++ later) (took bytes lent piece (drop given bytes) given n refl same copied)
    ∙ append_assoc (take n piece) (drop (given + n) bytes) later
    ∙ ap (λ (l : List ℕ). take n piece ++ l) (sym rest)
