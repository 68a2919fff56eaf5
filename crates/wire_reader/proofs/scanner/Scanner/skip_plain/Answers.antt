use Rattle.std.proofs.Common.{◌≡◌, ◌∙◌, ℕ, ◌+◌, ◌-◌, ◌≤◌, List, length, ap, subst, sym, take, true, false, arith}
use Rattle.std.proofs.lemmas.List.{length-take}
use Rattle.std.specs.List.{All}
use Rattle.wire_reader.specs.declared.lexical.Phase.{Phase}
use Rattle.wire_reader.specs.Advancing.{Advances, is_plain}
use Rattle.wire_reader.proofs.Plain.{take_take}
use Rattle.wire_reader.proofs.Scanned.{plain_skipped}
use Rattle.wire_reader.proofs.scanner.Scanner.skip_plain.Goals as goal

pub returns : goal.returns
returns c =
    let count = c.plain_length-count.result in
    let out = c.args.self.now.outside in
    let bytes = c.args.bytes.now in
    let within : count ≤ length (take (65536 - out) bytes) = subst (λ (x : List ℕ). count ≤ length x) c.front.ensures c.plain_length-count.ensures.within in
    let m = length-take (65536 - out) bytes in
    let same : take count c.front.result.now ≡ take count bytes = ap (take count) c.front.ensures ∙ take_take count (65536 - out) bytes (omega (arith, within, m)) in
    subst (λ (p : Phase). Advances (record { phase = p; outside = out }) bytes (count, false) (record { phase = p; outside = out + count })) (sym c.requires.plain)
    (plain_skipped bytes out count (let n = c.if-count-eq0.false in grind (arith, n)) (omega (arith, within, m)) (let r = c.requires.room in omega (arith, within, m, r))
    (subst (All (λ b. is_plain b ≡ true)) same c.plain_length-count.ensures.plain))
