use Rattle.std.proofs.Common.{sym, ◌∙◌, ap, subst, List, ℕ, [], ◌∷◌, ◌++◌}
use Rattle.wire_tokens.specs.Atoms.{IsTag}
use Rattle.imap_client.proofs.TagLemmas.{tags_are}
use Rattle.imap_client.proofs.tags.tag_of.Goals as goal

pub unreachable-requires : goal.unreachable-requires
unreachable-requires c =
    let all = c.deref.ensures.value ∙ c.in_ok-extend_from_slice.ensures.items ∙ ap (λ (l : List ℕ). l ++ c.as_bytes.result.now) c.in_ok-text.ensures.items ∙ ap (λ (l : List ℕ). (65 ∷ []) ++ l) (c.as_bytes.ensures.value ∙ c.format.ensures.text) in
    c.in-None.ensures (subst IsTag (sym all) (tags_are c.args.n c.ranges.n.fits))
