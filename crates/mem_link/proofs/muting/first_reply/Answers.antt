use Rattle.imap_answers.proofs.Left.{first_of, some_bytes, whole_text}
use Rattle.mem_link.proofs.muting.first_reply.Goals as goal

pub returns-in-Ok-Whole-clause-first : goal.returns-in-Ok-Whole-clause-first
returns-in-Ok-Whole-clause-first c said h =
    first_of c.args.bytes.now c.in-Ok-Whole.reply c.in-Ok-Whole.len said
    (whole_text c.args.bytes.now c.read_reply.result c.in-Ok-Whole.field-0 c.in-Ok-Whole.reply c.in-Ok-Whole.len c.in-Ok-Whole.is c.in-Ok-Whole.field-0-is c.read_reply.ensures.answers)
    h (some_bytes c.args.bytes.now c.requires)
