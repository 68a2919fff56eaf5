use Rattle.std.proofs.Common.{[], map}
use Rattle.sync_state.specs.JournalText.{keyword_line}
use Rattle.sync_state.specs.JournalReading.{head}
use Rattle.sync_state.proofs.LineLemmas.{more_lines}
use Rattle.sync_state.proofs.journal_read.read_head.Goals as goal

pub returns-clause-ok : goal.returns-clause-ok
returns-clause-ok c =
    let n = c.in_ok-numbers.ensures.ok in
    let k = c.in_ok-keywords.ensures.read in
    record {
      fits = record { numbers = n.fits; map_is = k.map_is; words = k.words };
      lines = more_lines (head (record { numbers = c.in_ok-numbers.numbers; keywords = [] })) (map keyword_line c.in_ok-keywords.keywords)
          c.args.lines.now.rest.now c.read_numbers.new.lines.rest.now c.read_keywords.new.lines.rest.now n.lines k.lines;
      all = k.all;
    }
