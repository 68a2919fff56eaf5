use Rattle.std.proofs.Common.{ℕ, subst, rules}
use Rattle.link_face.proofs.TokenLemmas.{ValueSoFar, value_begins, value_ends, value_goes_on}
use Rattle.link_face.proofs.token.read_value.Goals as goal

pub loop-init : goal.loop-init
loop-init c = value_begins c.args.bytes.now

pub loop-preserved : goal.loop-preserved
loop-preserved c =
    value_goes_on c.args.bytes.now c.loop.rest.now c.in_ok-token.following.now c.loop.depth c.in_ok-depth.depth c.in_ok-token.token c.loop.invariant c.in_ok-token.ensures c.in_ok-depth.ensures

pub returns-then-ends_value : goal.returns-then-ends_value
returns-then-ends_value c =
    let closed = subst (λ (d : ℕ). ValueSoFar c.args.bytes.now d c.loop.rest.now) (search rules) c.loop.invariant in
    value_ends c.args.bytes.now c.loop.rest.now c.in_ok-token.following.now c.in_ok-value.value.now c.in_ok-value.left.now c.in_ok-token.token _ closed c.in_ok-token.ensures (λ text rest t. c.ends_value.ensures text rest (search rules) t)
    (search rules) c.in_ok-value.ensures.cases.1 c.in_ok-value.ensures.cases.2
