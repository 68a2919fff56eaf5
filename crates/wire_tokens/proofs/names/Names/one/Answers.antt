use Rattle.std.proofs.Common.{List, ℕ, [], ◌∷◌, ap, ◌∙◌}
use Rattle.wire_tokens.proofs.SpacedNames.{one_atom, one_spaced}
use Rattle.wire_tokens.proofs.names.Names.one.Goals as goal

pub invariant_of-result : goal.invariant_of-result
invariant_of-result c = one_spaced c.text.result.now c.text.ensures.atom

pub returns : goal.returns
returns c = one_atom c.text.result.now c.text.ensures.atom ∙ ap (λ (t : List ℕ). t ∷ []) c.text.ensures.same
