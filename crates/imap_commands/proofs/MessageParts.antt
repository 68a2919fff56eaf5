-- What the octets of an APPEND keep to.
use Rattle.std.proofs.Common.{◌≡◌, ℕ, ◌≤◌, List, length, Ok, sym, ap, subst, ◌∙◌}
use Rattle.std.specs.List.{list_all}
use Rattle.wire_reader.specs.declared.side.Speaker.TheVariants.{Commands}
use Rattle.wire_reader.specs.Lexical.{literal_limit}
use Rattle.wire_reader.specs.Literal.{is_octet, Literal}
use Rattle.wire_reader.specs.Filled.{filled_literal_at}
use Rattle.wire_reader.proofs.PartFilled.{filled_literal_part}
use Rattle.wire_strings.specs.Literals.{IsLiteral}
use Rattle.imap_commands.specs.Messages.{IsMessage}
use Rattle.wire_strings.proofs.StringParts.{most_octets}

literal_of : (octets text : List ℕ) → Literal Commands octets text → IsLiteral octets
literal_of octets text h =
    let measured = h.second in
    let last = measured.second.second.second in
    record {
      each = ap (list_all is_octet) (sym last.0) ∙ last.1.each;
      most = subst (λ (n : ℕ). n ≤ literal_limit) (sym last.1.long ∙ ap length last.0) (most_octets measured.value.1 measured.value.0 measured.first.most);
    }

pub message_read : (xs octets rest : List ℕ) → filled_literal_at Commands xs ≡ Ok (octets, rest) → IsMessage octets
message_read xs octets rest h = let t = (filled_literal_part Commands).reader.sound xs octets rest h in record { literal = literal_of octets t.text t.spelled.0; some = t.spelled.1 }
