use Rattle.std.proofs.Common.{ℕ, List, drop, Result, Ok, sym, ap, ◌∙◌}
use Rattle.wire_reader.specs.declared.stop.Stop.{Stop}
use Rattle.wire_reader.proofs.Nuls.{nul_found, few_found, all_found}
use Rattle.wire_reader.proofs.literal.octets.Goals as goal

pub returns-then-is_nul : goal.returns-then-is_nul
returns-then-is_nul c = nul_found c.args.n c.args.bytes.now c.front.result.now c.front.ensures c.to_nul-count.result c.to_nul-count.ensures c.if-is_nul.true

pub returns-then-count-n : goal.returns-then-count-n
returns-then-count-n c = few_found c.args.n c.args.bytes.now c.front.result.now c.front.ensures c.to_nul-count.result c.to_nul-count.ensures c.if-is_nul.false c.if-count-n.true

pub returns : goal.returns
returns c =
    let long = c.if-count-n.false in
    let rest = drop c.args.n c.args.bytes.now in
    all_found c.args.n c.args.bytes.now c.front.result.now c.front.ensures c.to_nul-count.result c.to_nul-count.ensures c.if-is_nul.false long
    ∙ ap (λ (x : List ℕ). let o : Result (List ℕ × List ℕ) Stop = Ok (x, rest) in o) (sym c.split_at.ensures.front)
    ∙ ap (λ (x : List ℕ). let o : Result (List ℕ × List ℕ) Stop = Ok (c.split_at.result.0.now, x) in o) (sym c.split_at.ensures.back)
