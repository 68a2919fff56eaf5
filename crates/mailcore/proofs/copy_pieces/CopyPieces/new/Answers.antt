use Rattle.std.proofs.Common.{◌∙◌, ap, ◌++◌, rules}
use Rattle.std.specs.Prelude.{codes, List}
use Rattle.std.specs.List.{flat_map}
use Rattle.mailcore.specs.Content.{TextLine, line_end_bytes}
use Rattle.mailcore.specs.CopyPieces.{line_pieces, join}
use Rattle.mailcore.proofs.PieceLemmas.{text_is}
use Rattle.mailcore.proofs.copy_pieces.CopyPieces.new.Goals as goal

pub returns : goal.returns
returns c =
    ap (λ (lines : List TextLine). codes "X-TUID: " ++ (c.args.head.now.mark ++ (line_end_bytes c.args.head.now.end ++ join (flat_map (line_pieces c.args.head.now.end) lines)))) c.new.ensures
    ∙ text_is c.args.head.now.mark c.args.message.now c.args.head.now.end (search rules)
