use Rattle.std.proofs.Common.{arith}
use Rattle.wire_tokens.proofs.NumberLemmas.{number-decimal}
use Rattle.wire_tokens.proofs.WritingLemmas.{appended}
use Rattle.wire_tokens.proofs.number.write_number.Goals as goal

pub returns-clause-ok : goal.returns-clause-ok
returns-clause-ok c = appended _ _ _ _ _ (rw (c.as_bytes.ensures.value, c.format.ensures.text) at c.extend_from_slice.ensures.items) (number-decimal _ (omega arith), omega arith)
