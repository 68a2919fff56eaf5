use Rattle.std.proofs.Common.{sym}
use Rattle.std.proofs.lemmas.List.{length-take-le}
use Rattle.wire_reader.proofs.Lines.{line_takes, line_waits}
use Rattle.wire_reader.proofs.Decisive.{end_within, line_kept, line_passed}
use Rattle.imap_replies.specs.Replies.{seen}
use Rattle.imap_replies.proofs.ReplyParts.{reply_part}
use Rattle.imap_replies.proofs.reading.read_reply.Goals as goal

pub slice_bounds-read_unlimited-end : goal.slice_bounds-read_unlimited-end
slice_bounds-read_unlimited-end c = sym (length-take-le c.in-Err.end c.args.bytes.now (end_within c.answered.result c.args.bytes.now c.in-Err.end c.in-Err.ensures))

pub returns-in-Ok-clause-answers : goal.returns-in-Ok-clause-answers
returns-in-Ok-clause-answers c = line_kept c.answered.result c.args.bytes.now reply_part seen c.read_unlimited.result _ c.read_unlimited.ensures c.answered.ensures c.in-Ok.ensures

pub returns-in-Ok-clause-takes : goal.returns-in-Ok-clause-takes
returns-in-Ok-clause-takes c = line_takes reply_part seen c.args.bytes.now _ (returns-in-Ok-clause-answers c)

pub returns-in-Ok-clause-waits : goal.returns-in-Ok-clause-waits
returns-in-Ok-clause-waits c = line_waits reply_part seen c.args.bytes.now _ (returns-in-Ok-clause-answers c)

pub returns-in-Err-clause-answers : goal.returns-in-Err-clause-answers
returns-in-Err-clause-answers c = line_passed c.answered.result c.args.bytes.now reply_part seen c.read_unlimited-in-Err.result c.in-Err.end _ _ c.in-Err.ensures c.read_unlimited-in-Err.ensures c.answered-in-Err.ensures c.within.ensures

pub returns-in-Err-clause-takes : goal.returns-in-Err-clause-takes
returns-in-Err-clause-takes c = line_takes reply_part seen c.args.bytes.now _ (returns-in-Err-clause-answers c)

pub returns-in-Err-clause-waits : goal.returns-in-Err-clause-waits
returns-in-Err-clause-waits c = line_waits reply_part seen c.args.bytes.now _ (returns-in-Err-clause-answers c)
