use Rattle.std.proofs.Common.{rules}
use Rattle.imap_link.proofs.Faulty.{fault_reports}
use Rattle.imap_link.proofs.Searched.{none_partial, none_literal}
use Rattle.imap_link.proofs.search.read_length.Goals as goal

pub returns-in-Ok-Whole-clause-looks : goal.returns-in-Ok-Whole-clause-looks
returns-in-Ok-Whole-clause-looks c = record {
  reply = c.in-Ok-Whole.field-0-0;
  within = search rules;
  spells = record { spelled = search rules; fits = search rules };
}

pub returns-in-Ok-WantsLiteral-clause-looks : goal.returns-in-Ok-WantsLiteral-clause-looks
returns-in-Ok-WantsLiteral-clause-looks c = none_literal c.args.bytes.now c.in-Ok-WantsLiteral.field-0 c.in-Ok-WantsLiteral.field-0-0 c.in-Ok-WantsLiteral.field-0-is c.in-Ok-WantsLiteral.ensures.takes

pub returns-in-Ok-Partial-clause-looks : goal.returns-in-Ok-Partial-clause-looks
returns-in-Ok-Partial-clause-looks c = none_partial c.args.bytes.now c.in-Ok-Partial.field-0 c.in-Ok-Partial.field-0-is c.in-Ok-Partial.ensures.takes

pub returns-clause-looks : goal.returns-clause-looks
returns-clause-looks c = fault_reports c.args.bytes.now c.in-Err.fault c.in-Err.ensures.takes c.in-Err.ensures.waits
