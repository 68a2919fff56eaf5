use Rattle.std.proofs.Common.{◌∙◌}
use Rattle.imap_answers.proofs.Left.{first_of, must_take, some_bytes, waits_not, partial_not, err_stops, whole_text}
use Rattle.imap_answers.proofs.reading.first_reply.Goals as goal

pub returns-in-Ok-Whole-clause-first : goal.returns-in-Ok-Whole-clause-first
returns-in-Ok-Whole-clause-first c rs h =
    first_of c.args.bytes.now c.in-Ok-Whole.reply c.in-Ok-Whole.len rs
    (whole_text c.args.bytes.now c.read_reply.result c.in-Ok-Whole.field-0 c.in-Ok-Whole.reply c.in-Ok-Whole.len c.in-Ok-Whole.is c.in-Ok-Whole.field-0-is c.read_reply.ensures.answers)
    h (some_bytes c.args.bytes.now c.requires.some)

pub returns-in-Ok-WantsLiteral-clause-err : goal.returns-in-Ok-WantsLiteral-clause-err
returns-in-Ok-WantsLiteral-clause-err c =
    absurd (waits_not c.read_reply.result c.in-Ok-WantsLiteral.field-0 c.in-Ok-WantsLiteral.field-0-0 c.in-Ok-WantsLiteral.is c.in-Ok-WantsLiteral.field-0-is
    (must_take c.args.bytes.now c.read_reply.result c.requires.speaks (some_bytes c.args.bytes.now c.requires.some) c.read_reply.ensures.takes))

pub returns-in-Ok-Partial-clause-err : goal.returns-in-Ok-Partial-clause-err
returns-in-Ok-Partial-clause-err c =
    absurd (partial_not c.read_reply.result c.in-Ok-Partial.field-0 c.in-Ok-Partial.is c.in-Ok-Partial.field-0-is
    (must_take c.args.bytes.now c.read_reply.result c.requires.speaks (some_bytes c.args.bytes.now c.requires.some) c.read_reply.ensures.takes))

pub returns-in-Err-clause-err : goal.returns-in-Err-clause-err
returns-in-Err-clause-err c =
    c.from.ensures ∙ err_stops c.read_reply.result c.in-Err.fault c.in-Err.is
    (must_take c.args.bytes.now c.read_reply.result c.requires.speaks (some_bytes c.args.bytes.now c.requires.some) c.read_reply.ensures.takes)
