use Rattle.std.proofs.Common.{◌≡◌, ◌≢◌, rules}
use Rattle.sync_state.specs.JournalText.{go_line}
use Rattle.sync_state.proofs.GoLemmas.{go_here, go_after, go_later, no_go}
use Rattle.sync_state.proofs.journal_read.has_go.Goals as goal

pub returns-then-eq : goal.returns-then-eq
returns-then-eq c =
    let is : c.in-Some.line.text.now ≡ go_line = search rules in
    c.loop-line.invariant.0 (go_here c.loop-line.lines.rest.now c.in-Some.line.text.now c.next_line.new.self.rest.now c.in-Some.ensures.some.1 is)

pub loop-line-preserved : goal.loop-line-preserved
loop-line-preserved c =
    let other : c.in-Some.line.text.now ≢ go_line = search rules in
    let some = c.in-Some.ensures.some in
    let old = c.loop-line.lines.rest.now in
    let new = c.next_line.new.self.rest.now in (
      λ g. c.loop-line.invariant.0 (go_after old c.in-Some.line.text.now new some.0 some.1 g),
      λ g. go_later old c.in-Some.line.text.now new some.0 some.1 other (c.loop-line.invariant.1 g),
    )

pub returns : goal.returns
returns c = λ g. no_go c.loop-line.lines.rest.now c.in_default.ensures.none (c.loop-line.invariant.1 g)
