use Rattle.wire_strings.proofs.StringWriting.{literal_written}
use Rattle.wire_strings.proofs.string_writing.append_literal.Goals as goal

pub returns-clause-ok : goal.returns-clause-ok
returns-clause-ok c =
    literal_written _ _ _ _ _ c.args.octets.now c.requires c.in_ok-extend_from_slice.ensures.items c.in_ok-write_number.ensures.ok c.in_ok-extend_from_slice-2.ensures.items
    c.in_ok-extend_from_slice-3.ensures.items
