use Rattle.std.proofs.Common.{◌≤◌, length, sym, ap, ◌∙◌, arith, rules}
use Rattle.std.proofs.lemmas.Bool.{le-leb}
use Rattle.mailcore.specs.Content.{content, crlf}
use Rattle.mailcore.specs.declared.side.LineEnd.TheVariants.{CrLf}
use Rattle.mailcore.proofs.ContentLemmas.{with_line_ends-content, length-content_lines}
use Rattle.mailcore.proofs.content.content_fits.Goals as goal

pub returns-then-message : goal.returns-then-message
returns-then-message c =
    let message = c.args.message.now in
    let short : length message ≤ 8388608 = search rules in
    let few : length (crlf (content message)) ≤ 16777216 =
    omega (arith, short, ap length (with_line_ends-content CrLf message), length-content_lines CrLf message) in
    le-leb _ _ short ∙ sym (le-leb _ _ few)
