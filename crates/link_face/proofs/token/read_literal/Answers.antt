use Rattle.std.proofs.Common.{codes, Some, sym, ◌∙◌}
use Rattle.std.proofs.lemmas.Bool.Decides.{Decides-eqb}
use Rattle.std.proofs.lemmas.Slice.Eq.{strip_prefix_is}
use Rattle.link_face.proofs.TokenLemmas.{literal_begins, literal_token, tilde_token}
use Rattle.link_face.proofs.token.read_literal.Goals as goal

pub returns-clause-plain : goal.returns-clause-plain
returns-clause-plain c =
    let split = c.in_ok-octets.ensures.cases in
    let close = sym c.after_plus.ensures ∙ strip_prefix_is Decides-eqb c.after_plus.result.now (codes "}\r\n") (Some c.in_ok-rest.rest) c.in_ok-rest.ensures.cases in
    literal_token c.args.bytes.now c.in_ok-octets.rest.now c.in_ok-octets.octets
    (literal_begins c.args.bytes.now c.split_digits.result.0.now c.split_digits.result.1.now c.in_ok-rest.rest.now c.in_ok-octets.octets.now c.in_ok-octets.rest.now c.in_ok-len.len c.split_digits.ensures c.in_ok-len.ensures.0 c.in_ok-len.ensures.1 close split.1 split.3 split.2)

pub returns-clause-tilde : goal.returns-clause-tilde
returns-clause-tilde c =
    let split = c.in_ok-octets.ensures.cases in
    let close = sym c.after_plus.ensures ∙ strip_prefix_is Decides-eqb c.after_plus.result.now (codes "}\r\n") (Some c.in_ok-rest.rest) c.in_ok-rest.ensures.cases in
    tilde_token c.args.bytes.now c.in_ok-octets.rest.now c.in_ok-octets.octets
    (literal_begins c.args.bytes.now c.split_digits.result.0.now c.split_digits.result.1.now c.in_ok-rest.rest.now c.in_ok-octets.octets.now c.in_ok-octets.rest.now c.in_ok-len.len c.split_digits.ensures c.in_ok-len.ensures.0 c.in_ok-len.ensures.1 close split.1 split.3 split.2)
