use Rattle.std.proofs.Common.{◌≡◌, map, codes, rules, sym, ◌∙◌}
use Rattle.std.specs.Char.{to_ascii_lowercase}
use Rattle.link_face.proofs.RowLemmas.{lacking, row_front_if, row_kept_if}
use Rattle.link_face.proofs.TurnLemmas.{fetch_given}
use Rattle.link_face.proofs.turning.numbered.Goals as goal

pub returns-then-has_all_items-clause-word : goal.returns-then-has_all_items-clause-word
returns-then-has_all_items-clause-word c =
    let same : map to_ascii_lowercase c.args.event.now ≡ map to_ascii_lowercase (codes "FETCH") = search rules in
    fetch_given c.args.number.now c.args.event.now c.whole_row.result same (row_front_if c.args.rest.now c.args.number.now c.in-Some.row c.whole_row.result c.in-Some.ensures c.whole_row.ensures.row)

pub returns-then-has_all_items-clause-row : goal.returns-then-has_all_items-clause-row
returns-then-has_all_items-clause-row c same = row_kept_if c.args.rest.now c.args.number.now c.in-Some.row c.whole_row.result c.in-Some.ensures c.whole_row.ensures.row

pub returns-else-has_all_items-clause-row : goal.returns-else-has_all_items-clause-row
returns-else-has_all_items-clause-row c same = lacking c.args.rest.now c.in-Some.row (λ items h. sym (c.has_all_items.ensures items h) ∙ c.if-has_all_items.false) c.in-Some.ensures
