use Rattle.std.proofs.Common.{◌≡◌, ◌++◌, ◌∷◌, ℕ, List, true, ap, sym, ◌∙◌, arith, rules}
use Rattle.std.specs.List.{list_all}
use Rattle.texts.specs.Escape.{escaped}
use Rattle.texts.proofs.EscapeLemmas.{end_read, escaped_text, front_read, is_text, none_spelled}
use Rattle.texts.proofs.escape.unescape_into.Goals as goal

pub returns-then-not-has_only_text_bytes-clause-not_escaped : goal.returns-then-not-has_only_text_bytes-clause-not_escaped
returns-then-not-has_only_text_bytes-clause-not_escaped c = λ _ bytes are e.
    let all : list_all is_text c.args.text.now ≡ true = ap (λ (t : List ℕ). list_all is_text t) (sym e) ∙ escaped_text bytes are in
    search rules

pub returns-in_err-rest-clause-not_escaped : goal.returns-in_err-rest-clause-not_escaped
returns-in_err-rest-clause-not_escaped c = λ is bytes are e.
    let all : list_all is_text c.args.text.now ≡ true = search rules in
    let read = front_read c.loop-plain.bytes.items c.in-Some.plain.now (92 ∷ c.in-Some.escape.now) c.loop-plain.rest.now c.args.text.now
    all c.loop-plain.invariant c.in-Some.ensures.0 c.in-Some.ensures.1 in
    none_spelled (c.loop-plain.bytes.items ++ c.in-Some.plain.now) (92 ∷ c.in-Some.escape.now) (omega arith)
    (c.in_err-rest.ensures.not_escaped (search rules)) bytes are (e ∙ sym read)

pub loop-plain-preserved : goal.loop-plain-preserved
loop-plain-preserved c =
    let all : list_all is_text c.args.text.now ≡ true = search rules in
    c.in_ok-rest.ensures.text
    ∙ ap (λ (x : List ℕ). escaped x ++ 92 ∷ c.in-Some.escape.now) c.in_ok-extend_from_slice.ensures.items
    ∙ front_read c.loop-plain.bytes.items c.in-Some.plain.now (92 ∷ c.in-Some.escape.now) c.loop-plain.rest.now c.args.text.now
    all c.loop-plain.invariant c.in-Some.ensures.0 c.in-Some.ensures.1

pub returns-clause-bytes : goal.returns-clause-bytes
returns-clause-bytes c =
    let all : list_all is_text c.args.text.now ≡ true = search rules in
    ap (λ (x : List ℕ). escaped x) c.in_ok-extend_from_slice-2.ensures.items
    ∙ end_read c.loop-plain.bytes.items c.loop-plain.rest.now c.args.text.now all c.loop-plain.invariant c.in_default.ensures
