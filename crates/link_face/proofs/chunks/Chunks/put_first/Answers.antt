use Rattle.std.proofs.Common.{ℕ, ◌<◌, List, ◌++◌, length, sym, ap, ◌∙◌, subst}
use Rattle.std.specs.Prelude.{Vec}
use Rattle.std.specs.Global.{Global}
use Rattle.link_face.specs.Chunks.{AreSome, from_last}
use Rattle.link_face.proofs.ChunkLemmas.{are_some-snoc, from_last-snoc}
use Rattle.link_face.proofs.chunks.Chunks.put_first.Goals as goal

pub invariant_of-self-2 : goal.invariant_of-self-2
invariant_of-self-2 c =
    let P : List (Vec ℕ Global) → Type 0 = AreSome in
    let Q : List ℕ → Type 0 = λ l. 0 < length l in
    subst P (sym c.push_reserved.ensures.items)
    (are_some-snoc c.reserve.new.self.items c.in_ok-chunk.chunk (subst P (sym c.reserve.ensures.items) c.self.invariant) (subst Q (sym c.in_ok-chunk.ensures.items) c.requires.some))

pub returns-clause-ok : goal.returns-clause-ok
returns-clause-ok c =
    ap from_last c.push_reserved.ensures.items
    ∙ from_last-snoc c.reserve.new.self.items c.in_ok-chunk.chunk
    ∙ ap (λ (l : List ℕ). l ++ from_last c.reserve.new.self.items) c.in_ok-chunk.ensures.items
    ∙ ap (λ (l : List ℕ). c.args.chunk.now ++ l) (ap from_last c.reserve.ensures.items ∙ c.self.view_is)
