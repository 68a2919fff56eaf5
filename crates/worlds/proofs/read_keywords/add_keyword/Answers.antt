use Rattle.std.proofs.Common.{rules, ◌≢◌}
use Rattle.mailcore.specs.declared.keywords.KeywordFault.TheVariants.{NoMemory}
use Rattle.worlds.proofs.KeywordLines.{adds, no_next_below, no_next_refused}
use Rattle.worlds.proofs.read_keywords.add_keyword.Goals as goal

pub returns-then-not-are_below-clause-bad : goal.returns-then-not-are_below-clause-bad
returns-then-not-are_below-clause-bad c =
    let none = no_next_below c.args.keywords.now c.args.line.text.now (search rules) in search rules

pub returns-in-Ok-clause-added : goal.returns-in-Ok-clause-added
returns-in-Ok-clause-added c =
    adds c.args.keywords.now c.add.new.self c.args.line.text.now (search rules) (search rules) c.as_slice.ensures.map (search rules) c.in-Ok.ensures.added.0 c.in-Ok.ensures.added.1

pub returns-in-Err : goal.returns-in-Err
returns-in-Err c =
    let other : c.in-Err.field-0 ≢ NoMemory = search rules in
    let none = no_next_refused c.args.keywords.now c.args.line.text.now c.in-Err.field-0 other c.in-Err.ensures.refused.1 in
    record { added = tt; bad = search rules }
