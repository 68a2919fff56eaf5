use Rattle.std.proofs.Common.{◌≡◌, false, arith, refl, sym, ◌∙◌}
use Rattle.std.proofs.lemmas.Grind.{common_steps}
use Rattle.channels.specs.Asks.{ways_of}
use Rattle.channels.specs.Courses.{IsLineAsked}
use Rattle.channels.proofs.ChannelLemmas.{GoesUntil-begun, GoesUntil-end, clean_status}
use Rattle.channels.proofs.LendLemmas.{LendsNone-same}
use Rattle.channels.proofs.run.run_reported.Goals as goal

-- all of it, and then the end
pub returns-in-Ok-clause-asked : goal.returns-in-Ok-clause-asked
returns-in-Ok-clause-asked g c =
    let going : c.end.new.self.write_failed ≡ false = grind (arith, common_steps) in
    GoesUntil-end g.S.BoxLists.noted (IsLineAsked c.args.work.config.now (ways_of c.args.work.request.now c.args.course.now.cells) c.args.course.now.places.items)
    c.in-Ok.verdict c.status.result c.end.new.self.write_failed (g.S.BoxLists.asked c.args.stores.now.stores.now)
    (g.S.BoxLists.asked c.run_course.new.stores.stores.now) (g.S.BoxLists.asked c.end.new.self.stores.now) going c.in-Ok.ensures.asked
    c.end.ensures.asks.1 c.status.ensures

pub returns-in-Ok-clause-asks : goal.returns-in-Ok-clause-asks
returns-in-Ok-clause-asks g c = λ zero. record {
  last = g.S.BoxLists.asked c.run_course.new.stores.stores.now;
  over = c.in-Ok.ensures.asks (clean_status c.in-Ok.verdict (sym c.status.ensures ∙ zero));
  ended = c.end.ensures.asks.1;
}

-- or a beginning
pub returns-in-Err-clause-asked : goal.returns-in-Err-clause-asked
returns-in-Err-clause-asked g c =
    GoesUntil-begun g.S.BoxLists.noted (IsLineAsked c.args.work.config.now (ways_of c.args.work.request.now c.args.course.now.cells) c.args.course.now.places.items)
    1 c.run_course.new.stores.write_failed (g.S.BoxLists.asked c.args.stores.now.stores.now)
    (g.S.BoxLists.asked c.run_course.new.stores.stores.now) c.in-Err.ensures.failed refl c.in-Err.ensures.asked

pub returns-in-Ok-clause-settled : goal.returns-in-Ok-clause-settled
returns-in-Ok-clause-settled g c = λ zero off. record {
  last = c.run_course.new.stores.stores.now;
  over = c.in-Ok.ensures.settled off (clean_status c.in-Ok.verdict (sym c.status.ensures ∙ zero));
  ended = c.end.ensures.asks.1;
  none = c.end.ensures.lent;
}

-- whatever was reported, their mailboxes were run once at most
pub returns-in-Ok-clause-runs : goal.returns-in-Ok-clause-runs
returns-in-Ok-clause-runs g c = record { last = c.run_course.new.stores.stores.now; over = c.run_course.ensures.runs; none = c.end.ensures.lent }

pub returns-in-Err-clause-runs : goal.returns-in-Err-clause-runs
returns-in-Err-clause-runs g c = record {
  last = c.run_course.new.stores.stores.now;
  over = c.run_course.ensures.runs;
  none = LendsNone-same g.S.BoxLists.honest g.S.BoxLists.lent _ _ refl;
}
