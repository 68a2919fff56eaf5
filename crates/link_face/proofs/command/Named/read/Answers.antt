use Rattle.std.proofs.Common.{ap, ◌∙◌}
use Rattle.link_face.specs.Commands.{is_naming, is_plain}
use Rattle.link_face.proofs.Cuts.{no_space, no_quote, no_end, in_parts, same_word, same_name, false_is_true}
use Rattle.link_face.proofs.command.Named.read.Goals as goal

pub returns-in_err-tag : goal.returns-in_err-tag
returns-in_err-tag c = rw c.from_residual.ensures (λ tag word name following names. no_space c.args.command.now tag word name following c.in_err-tag.ensures.sides names.parts)

pub returns-in_err-word : goal.returns-in_err-word
returns-in_err-word c =
    rw c.from_residual-in_err-word.ensures (λ tag word name following names.
    no_quote c.args.command.now c.in_ok-tag.tag.now c.in_ok-tag.rest.now tag word name following c.in_ok-tag.ensures.sides.0 c.in_ok-tag.ensures.sides.1 c.in_err-word.ensures.sides names.parts)

pub returns-in_err-name : goal.returns-in_err-name
returns-in_err-name c =
    rw c.from_residual-in_err-name.ensures (λ tag word name following names.
    no_end c.args.command.now c.in_ok-tag.tag.now c.in_ok-tag.rest.now c.in_ok-word.word.now c.in_ok-word.rest.now tag word name following
    c.in_ok-tag.ensures.sides.0 c.in_ok-tag.ensures.sides.1 c.in_ok-word.ensures.sides.0 c.in_ok-word.ensures.sides.1 c.in_err-name.ensures.sides names.parts)

pub returns-then-not-is_naming : goal.returns-then-not-is_naming
returns-then-not-is_naming c tag word name following names =
    let found = in_parts c.args.command.now c.in_ok-tag.tag.now c.in_ok-tag.rest.now c.in_ok-word.word.now c.in_ok-word.rest.now c.in_ok-name.name.now c.in_ok-name.following.now
    c.in_ok-tag.ensures.sides.0 c.in_ok-tag.ensures.sides.1 c.in_ok-word.ensures.sides.0 c.in_ok-word.ensures.sides.1 c.in_ok-name.ensures.sides.0 c.in_ok-name.ensures.sides.1 in
    let same = same_word c.args.command.now c.in_ok-tag.tag.now c.in_ok-word.word.now c.in_ok-name.name.now c.in_ok-name.following.now tag word name following found names.parts in
    false_is_true (c.if-not-is_naming.ensures ∙ (ap is_naming same ∙ names.naming))

pub returns-then-not-is_plain : goal.returns-then-not-is_plain
returns-then-not-is_plain c tag word name following names =
    let found = in_parts c.args.command.now c.in_ok-tag.tag.now c.in_ok-tag.rest.now c.in_ok-word.word.now c.in_ok-word.rest.now c.in_ok-name.name.now c.in_ok-name.following.now
    c.in_ok-tag.ensures.sides.0 c.in_ok-tag.ensures.sides.1 c.in_ok-word.ensures.sides.0 c.in_ok-word.ensures.sides.1 c.in_ok-name.ensures.sides.0 c.in_ok-name.ensures.sides.1 in
    let same = same_name c.args.command.now c.in_ok-tag.tag.now c.in_ok-word.word.now c.in_ok-name.name.now c.in_ok-name.following.now tag word name following found names.parts in
    false_is_true (c.if-not-is_plain.ensures ∙ (ap is_plain same ∙ names.plain))
