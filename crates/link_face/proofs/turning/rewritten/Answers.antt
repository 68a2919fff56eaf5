use Rattle.std.proofs.Common.{Some}
use Rattle.link_face.proofs.TurnLemmas.{numbered_kept, status_kept, untagged_kept}
use Rattle.link_face.proofs.RowLemmas.{numbered_row, other_no_row}
use Rattle.link_face.proofs.turning.rewritten.Goals as goal

pub returns-in-Status-clause-word : goal.returns-in-Status-clause-word
returns-in-Status-clause-word c =
    status_kept c.args.raw.now c.in-Status.status.tag.now c.in-Status.status.word.now c.with_status.result c.in-Status.ensures c.with_status.ensures.word

pub returns-in_ok-names_line-in-Names-clause-word : goal.returns-in_ok-names_line-in-Names-clause-word
returns-in_ok-names_line-in-Names-clause-word c =
    untagged_kept c.args.raw.now c.in-Names.word.now (Some c.in_ok-names_line-in-Names.field-0) c.replaced.result c.in-Names.ensures c.in_ok-names_line-in-Names.ensures
    c.replaced.ensures.same

pub returns-in-Numbered-clause-row : goal.returns-in-Numbered-clause-row
returns-in-Numbered-clause-row c fetch =
    numbered_row c.args.raw.now c.in-Numbered.number.now c.in-Numbered.event.now c.in-Numbered.rest.now c.numbered.result fetch c.in-Numbered.ensures c.numbered.ensures.row

pub returns-in-Numbered-clause-word : goal.returns-in-Numbered-clause-word
returns-in-Numbered-clause-word c =
    numbered_kept c.args.raw.now c.in-Numbered.number.now c.in-Numbered.event.now c.in-Numbered.rest.now c.numbered.result c.in-Numbered.ensures c.numbered.ensures.word

pub returns-in-Other-clause-row : goal.returns-in-Other-clause-row
returns-in-Other-clause-row c fetch = other_no_row c.args.raw.now fetch c.in-Other.ensures
