use Rattle.std.proofs.Common.{[], refl, arith}
use Rattle.std.specs.Prelude.{codes}
use Rattle.std.specs.List.{join_with_byte}
use Rattle.worlds.specs.WorldText.{entry_line, entry_words}
use Rattle.worlds.proofs.TextLemmas.{line_with, one_more}
use Rattle.worlds.proofs.read_state.read_entries.Goals as goal

pub loop-line-preserved : goal.loop-line-preserved
loop-line-preserved c =
    let entry = c.in_ok-push_entry.ensures.entry.0 in
    record {
      text = one_more entry_line [] c.loop-line.entries c.push_entry.new.entries entry _ _ _ c.loop-line.invariant.text
          (line_with (codes "e") (join_with_byte 32 (entry_words entry)) _ _ _ _ refl c.in-Some.ensures.line c.in_ok-push_entry.ensures.entry.1) c.in_ok-push_entry.ensures.entry.2;
      count = omega arith;
    }
