use Rattle.std.proofs.Common.{◌∙◌, ℕ, List, length, ap, arith, subst, sym}
use Rattle.config.specs.Readings.{IsRead}
use Rattle.config.specs.Standing.{faults_again}
use Rattle.texts.specs.Lines.{lines_of}
use Rattle.std.specs.Prelude.{fold}
use Rattle.config.specs.Configurations.{no_parts, parted}
use Rattle.config.proofs.PartedLemmas.{all_accepted, all_parted, first_parted, more_parted}
use Rattle.config.proofs.ReadingLemmas.{all_so_far, first_so_far, more_so_far, on_reported, unless_memory}
use Rattle.config.proofs.read.read_config.Goals as goal

pub loop-line-init : goal.loop-line-init
loop-line-init c = (
  subst (λ (n : ℕ). IsRead n c.new-reading.result) (sym c.new-lines.ensures.0) c.new-reading.ensures.read,
  omega (arith, c.new-lines.ensures.0, ap (λ (t : List ℕ). length (lines_of t)) c.new-lines.ensures.1),
  first_so_far c.args.text.now c.new-lines.result.rest.now c.new-lines.result.taken c.new-reading.result c.new-lines.ensures.0 c.new-lines.ensures.1
      c.new-reading.ensures.outlined,
  first_parted c.args.text.now c.new-lines.result.rest.now c.new-lines.result.taken c.new-reading.result c.new-lines.ensures.0 c.new-lines.ensures.1
      c.new-reading.ensures.meant,
)

pub loop-line-preserved : goal.loop-line-preserved
loop-line-preserved c = (
  subst (λ (n : ℕ). IsRead n c.read.new.self) (c.in-Some.ensures.taken.0 ∙ sym c.in-Some.ensures.taken.1) c.in-Ok.ensures.read,
  omega (arith, ap length c.in-Some.ensures.line, c.in-Some.ensures.taken.1, c.loop-line.invariant.1),
  more_so_far c.args.text.now c.loop-line.lines.taken c.next_or_last.new.self.taken c.in-Some.line.number c.in-Some.line.text.now c.loop-line.lines.rest.now
      c.next_or_last.new.self.rest.now c.loop-line.reading c.read.new.self c.loop-line.invariant.2 c.in-Some.ensures.taken.1 c.in-Some.ensures.taken.0
      c.in-Some.ensures.line c.in-Ok.ensures.outlined,
  more_parted c.args.text.now c.loop-line.lines.taken c.next_or_last.new.self.taken c.in-Some.line.text.now c.loop-line.lines.rest.now c.next_or_last.new.self.rest.now
      c.loop-line.reading c.read.new.self c.loop-line.invariant.3 c.in-Some.ensures.taken.1 c.in-Some.ensures.line c.in-Ok.ensures.meant c.in-Ok.ensures.took,
)

pub returns-in-Ok-finish-clause-again : goal.returns-in-Ok-finish-clause-again
returns-in-Ok-finish-clause-again c =
    unless_memory (faults_again c.args.text.now) c.in-Ok-finish.reported
    (c.in-Ok-finish.ensures.again (faults_again c.args.text.now)
    (all_so_far c.args.text.now c.loop-line.lines.taken c.loop-line.lines.rest.now c.loop-line.reading c.loop-line.invariant.2 c.in_default.ensures.all))

pub returns-in-Ok-finish-clause-means : goal.returns-in-Ok-finish-clause-means
returns-in-Ok-finish-clause-means c =
    c.in-Ok-finish.ensures.means (fold parted no_parts (lines_of c.args.text.now))
    (all_parted c.args.text.now c.loop-line.lines.taken c.loop-line.lines.rest.now c.loop-line.reading c.loop-line.invariant.3 c.in_default.ensures.all)

pub returns-in-Ok-finish-clause-unmixed : goal.returns-in-Ok-finish-clause-unmixed
returns-in-Ok-finish-clause-unmixed c =
    c.in-Ok-finish.ensures.unmixed (fold parted no_parts (lines_of c.args.text.now))
    (all_parted c.args.text.now c.loop-line.lines.taken c.loop-line.lines.rest.now c.loop-line.reading c.loop-line.invariant.3 c.in_default.ensures.all)

pub returns-in-Ok-finish-clause-whole : goal.returns-in-Ok-finish-clause-whole
returns-in-Ok-finish-clause-whole c =
    on_reported c.in-Ok-finish.reported (all_accepted c.args.text.now c.loop-line.lines.taken c.loop-line.lines.rest.now c.loop-line.reading c.loop-line.invariant.3 c.in_default.ensures.all)
    c.in-Ok-finish.ensures.none
