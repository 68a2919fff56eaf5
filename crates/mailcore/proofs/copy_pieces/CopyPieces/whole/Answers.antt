use Rattle.std.proofs.Common.{◌≡◌, ◌∙◌, ap, ◌++◌, append-nil, refl, List, [], ℕ}
use Rattle.std.specs.List.{flat_map}
use Rattle.mailcore.specs.Content.{TextLine, content_lines, without_marks}
use Rattle.mailcore.specs.CopyPieces.{line_pieces, join}
use Rattle.mailcore.specs.declared.side.LineEnd.TheVariants.{Lf}
use Rattle.mailcore.proofs.copy_pieces.CopyPieces.whole.Goals as goal

no_lines : content_lines [] ≡ []
unfolding without_marks
no_lines = refl

pub returns : goal.returns
returns c =
    ap (λ (lines : List TextLine). c.args.message.now ++ join (flat_map (line_pieces Lf) lines)) (c.new.ensures ∙ no_lines) ∙ append-nil c.args.message.now
