use Rattle.std.proofs.Common.{refl, rules}
use Rattle.mailcore.proofs.MarkText.{IsMark-base64url, encoded_over}
use Rattle.mailcore.proofs.tuid.Tuid.from_bytes.Goals as goal

pub returns : goal.returns
returns c = encoded_over _ _ _ _ (search rules) refl c.encode_slice.ensures.fits c.encode_slice.ensures.written

pub invariant_of-result : goal.invariant_of-result
invariant_of-result c = rw (returns c) (IsMark-base64url c.args.bytes.now (search rules) (search rules))
