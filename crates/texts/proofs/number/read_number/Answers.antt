use Rattle.std.proofs.Common.{◌≡◌, sym, arith, rules}
use Rattle.std.proofs.lemmas.Fmt.{parse-decimal}
use Rattle.texts.proofs.NumberLemmas.{not_decimal, parsed_is_decimal}
use Rattle.texts.proofs.number.read_number.Goals as goal

pub returns-then-has_sign_or_leading_zero-clause-each : goal.returns-then-has_sign_or_leading_zero-clause-each
returns-then-has_sign_or_leading_zero-clause-each c = λ n within e. absurd (not_decimal n c.args.bytes.now (omega arith) (search rules) e)

pub returns-in_default-clause-each : goal.returns-in_default-clause-each
returns-in_default-clause-each c = λ n within e.
    let same = parse-decimal 64 n c.args.bytes.now _ (omega arith) (omega arith) (sym e) c.parse_u64.ensures in
    let is = c.in_default.is in
    cc

pub returns-then-number-limit-clause-spelled : goal.returns-then-number-limit-clause-spelled
returns-then-number-limit-clause-spelled c =
    (parsed_is_decimal c.args.bytes.now c.parse_u64.result c.in-Ok.number (search rules) c.in-Ok.is c.parse_u64.ensures, omega arith)

pub returns-then-number-limit-clause-each : goal.returns-then-number-limit-clause-each
returns-then-number-limit-clause-each c = λ n within e.
    let same = parse-decimal 64 n c.args.bytes.now _ (omega arith) (omega arith) (sym e) c.parse_u64.ensures in
    let is = c.in-Ok.is in
    cc

pub returns-else-number-limit-clause-each : goal.returns-else-number-limit-clause-each
returns-else-number-limit-clause-each c = λ n within e.
    let same = parse-decimal 64 n c.args.bytes.now _ (omega arith) (omega arith) (sym e) c.parse_u64.ensures in
    let is = c.in-Ok.is in
    let n_is : c.in-Ok.number ≡ n = cc in
    absurd (omega arith)
