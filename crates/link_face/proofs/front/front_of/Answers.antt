use Rattle.std.proofs.Common.{◌∙◌, ap, rules, Result, Ok, Err}
use Rattle.wire_reader.specs.declared.answer.Read.{Read}
use Rattle.wire_reader.specs.declared.answer.WireFault.{WireFault}
use Rattle.imap_replies.specs.declared.reply.Reply.{Reply}
use Rattle.link_face.proofs.FrontLemmas.{front_short, front_literal, front_partial, front_syntax, front_line, front_length}
use Rattle.link_face.proofs.front.front_of.Goals as goal

abbrev read : Read Reply → Result (Read Reply) WireFault
read r = Ok r

abbrev failed : WireFault → Result (Read Reply) WireFault
failed fault = Err fault

pub returns-in-Ok-Whole : goal.returns-in-Ok-Whole
returns-in-Ok-Whole c =
    front_short c.args.bytes.now c.read_reply.result c.in-Ok-Whole.reply c.in-Ok-Whole.used (c.in-Ok-Whole.is ∙ ap read c.in-Ok-Whole.field-0-is) c.read_reply.ensures.takes c.read_reply.ensures.waits (search rules)

pub returns-in-Ok-WantsLiteral : goal.returns-in-Ok-WantsLiteral
returns-in-Ok-WantsLiteral c = front_literal c.args.bytes.now c.read_reply.result c.in-Ok-WantsLiteral.field-0-0 (c.in-Ok-WantsLiteral.is ∙ ap read c.in-Ok-WantsLiteral.field-0-is) c.read_reply.ensures.takes

pub returns-in-Ok-Partial : goal.returns-in-Ok-Partial
returns-in-Ok-Partial c = front_partial c.args.bytes.now c.read_reply.result (c.in-Ok-Partial.is ∙ ap read c.in-Ok-Partial.field-0-is) c.read_reply.ensures.takes

pub returns-in-Err-Syntax : goal.returns-in-Err-Syntax
returns-in-Err-Syntax c =
    front_syntax c.args.bytes.now c.read_reply.result c.in-Err-Syntax.field-0-0 (c.in-Err-Syntax.is ∙ ap failed c.in-Err-Syntax.field-0-is) c.read_reply.ensures.takes c.read_reply.ensures.waits

pub returns-in-Err-LineTooLong : goal.returns-in-Err-LineTooLong
returns-in-Err-LineTooLong c =
    front_line c.args.bytes.now c.read_reply.result (c.in-Err-LineTooLong.is ∙ ap failed c.in-Err-LineTooLong.field-0-is) c.read_reply.ensures.takes c.read_reply.ensures.waits

pub returns-in-Err-LiteralTooLong : goal.returns-in-Err-LiteralTooLong
returns-in-Err-LiteralTooLong c =
    front_length c.args.bytes.now c.read_reply.result c.in-Err-LiteralTooLong.field-0-0 (c.in-Err-LiteralTooLong.is ∙ ap failed c.in-Err-LiteralTooLong.field-0-is) c.read_reply.ensures.takes c.read_reply.ensures.waits
