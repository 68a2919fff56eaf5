use Rattle.std.proofs.Common.{rules, tests}
use Rattle.link_face.proofs.RowLemmas.{row_written}
use Rattle.link_face.proofs.row.FetchRow.written.Goals as goal

pub returns : goal.returns
returns c items is =
    row_written items c.args.number.now c.in-Some.uid.now _ _ _ (c.in-Some.ensures items is) c.in_ok-out.ensures
    (c.in_ok-append_values.ensures items is (search (rules, tests))) c.in_ok-append.ensures.ok
