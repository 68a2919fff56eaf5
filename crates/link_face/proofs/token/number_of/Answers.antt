use Rattle.std.proofs.Common.{◌≡◌, true, ◌∙◌, rules}
use Rattle.link_face.specs.Heads.{is_number}
use Rattle.link_face.proofs.TokenLemmas.{digit_at, number_more}
use Rattle.link_face.proofs.token.number_of.Goals as goal

pub loop-b-preserved : goal.loop-b-preserved
loop-b-preserved c =
    let word = c.args.word.now in
    let digits : is_number word ≡ true = search rules in
    c.with_digit-number.ensures (digit_at word c.loop-b.b-index 0 c.loop-b-test.true digits) ∙ number_more word c.loop-b.b-index c.loop-b.number 0 c.loop-b-test.true c.loop-b.invariant
