use Rattle.std.proofs.Common.{refl}
use Rattle.wire_tokens.proofs.AtomParts.{in_tag}
use Rattle.wire_tokens.proofs.tag.Tag.of.Goals as goal

pub invariant_of-result : goal.invariant_of-result
invariant_of-result c = in_tag c.args.text.now c.copy_from_slice.new.self _ c.requires c.copy_from_slice.ensures.after refl
