use Rattle.std.proofs.Common.{ℕ, Option, IfSome, Vec, subst}
use Rattle.std.specs.Global.{Global}
use Rattle.link_face.specs.Rows.{IsRowWritten}
use Rattle.link_face.proofs.RowLemmas.{gives_row_if}
use Rattle.link_face.proofs.turning.whole_row.Goals as goal

pub returns-in-Some-clause-row : goal.returns-in-Some-clause-row
returns-in-Some-clause-row c items is =
    gives_row_if c.args.number.now items c.in-Some.bytes c.reported.result
    (subst (λ (found : Option (Vec ℕ Global)). IfSome found (λ (out : Vec ℕ Global). IsRowWritten c.args.number.now items out.items)) c.in-Some.is (c.in_ok-bytes.ensures items is))
    c.reported.ensures.same c.reported.ensures.never
