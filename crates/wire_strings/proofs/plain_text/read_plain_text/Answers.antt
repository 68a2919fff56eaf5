use Rattle.std.proofs.Common.{sym, subst, ◌∙◌}
use Rattle.wire_strings.specs.Texts.{IsPlain}
use Rattle.wire_strings.proofs.TextParts.{plain_line}
use Rattle.wire_strings.proofs.plain_text.read_plain_text.Goals as goal

pub invariant_of-result : goal.invariant_of-result
invariant_of-result c =
    subst IsPlain (sym c.bytes-text.ensures.same)
    (plain_line c.args.bytes.now c.in_ok-line.line c.in_ok-line.rest.now (sym c.begins_with_bracket.ensures ∙ c.if-begins_with_bracket.false) c.in_ok-line.ensures)
