use Rattle.std.proofs.Common.{ap, ◌∙◌}
use Rattle.wire_strings.proofs.StringParts.{atom_value, quoted_value, literal_value}
use Rattle.wire_strings.proofs.text.Text.of.Goals as goal
use Rattle.wire_strings.proofs.text.Text.of.Goals.{in-Atom+in_ok-bytes-in-Atom, in-Quoted+in_ok-bytes-in-Quoted, in-Literal+in_ok-bytes-in-Literal}

pub invariant_of-result : goal.invariant_of-result
invariant_of-result c =
    elim c.match-string.branch [
      | in-Atom+in_ok-bytes-in-Atom w ↦ atom_value _ _ w.text.ensures.atom (ap (λ v. v.items) w.bytes-is ∙ w.in_ok-bytes-in-Atom.ensures.items)
      | in-Quoted+in_ok-bytes-in-Quoted w ↦ rw w.bytes-is (quoted_value _ _ w.in_ok-bytes-in-Quoted.ensures.value)
      | in-Literal+in_ok-bytes-in-Literal w ↦ literal_value _ _ w.bytes.ensures.literal (ap (λ v. v.items) w.bytes-is ∙ w.in_ok-bytes-in-Literal.ensures.items)
    ]
