use Rattle.std.proofs.Common.{◌≡◌, List, Option, None, Ok, Err, option_map, arith, ap, ◌∙◌, refl, inl}
use Rattle.std.specs.List.{fold}
use Rattle.std.proofs.lemmas.Grind.{common_steps}
use Rattle.channels.proofs.StreamLemmas.{IsQuiet-both, IsQuiet-from, stream_steps}
use Rattle.std.proofs.lemmas.Result.{err_from_is_err_and}
use Rattle.channels.specs.Asked.{Asked, Outcome, Ran, place_of}
use Rattle.channels.specs.Asks.{run_attempts}
use Rattle.channels.specs.Courses.{run_course}
use Rattle.channels.specs.Outcomes.{has_void, outcome_of_box_fault, outcome_of_giving, outcome_of_pass}
use Rattle.channels.proofs.CourseLemmas.{IsReportedOf-following, was_done}
use Rattle.channels.proofs.OrderLemmas.{Begun-run, Begun-unrun, Goes-run, SoFar-fault}
use Rattle.channels.specs.Lendings.{HasRunFrom, IsLent}
use Rattle.channels.specs.Settlings.{IsBoxSettled}
use Rattle.channels.specs.Runs.{MayRun}
use Rattle.channels.proofs.LendLemmas.{Lends-after, Lends-as, Lends-then, LendsNone-both, LendsNone-same, never_clean}
use Rattle.channels.proofs.RunLemmas.{Lends-none, Lends-once}
use Rattle.channels.proofs.settling.run_box.Goals as goal

-- the answer and what was left out were reported, over what the run left as it was
pub returns-in_ok-report_left_out-in-Ok-clause-quiet : goal.returns-in_ok-report_left_out-in-Ok-clause-quiet
returns-in_ok-report_left_out-in-Ok-clause-quiet g c =
    let same : g.E.Write.contents c.settle.new.self.err.now ≡ g.E.Write.contents c.args.stores.now.err.now = grind (arith, common_steps) in
    IsQuiet-from _ _ _ _ same
    (IsQuiet-both _ _ _ _ _ _ c.and.ensures c.in_ok-verdict-in-Ok.ensures.quiet c.in_ok-report_left_out-in-Ok.ensures.quiet)

pub returns-in_ok-report_left_out-in-Ok-clause-whole : goal.returns-in_ok-report_left_out-in-Ok-clause-whole
returns-in_ok-report_left_out-in-Ok-clause-whole g c = grind (arith, common_steps, stream_steps)

-- a write failed before the run
pub returns-in_err-print_box-clause-asked : goal.returns-in_err-print_box-clause-asked
returns-in_err-print_box-clause-asked g c =
    let p = err_from_is_err_and c.from_residual.result c.from_residual.ensures.1 in
    let same : g.S.BoxLists.asked c.print_box.new.self.stores.now ≡ g.S.BoxLists.asked c.args.stores.now.stores.now = grind (arith, common_steps) in
    rw p.1 (Begun-unrun g.S.BoxLists.noted c.args.work.options.now (place_of c.args.place) (g.S.BoxLists.asked c.args.stores.now.stores.now)
    (g.S.BoxLists.asked c.print_box.new.self.stores.now) same)

-- or after it
pub returns-in_err-verdict-in-Ok-clause-asked : goal.returns-in_err-verdict-in-Ok-clause-asked
returns-in_err-verdict-in-Ok-clause-asked g c =
    let ran : Asked = Ran (place_of c.args.place) c.args.work.options.now run_attempts (outcome_of_pass c.in-Ok.pass) in
    let same : g.S.BoxLists.asked c.print_box.new.self.stores.now ≡ g.S.BoxLists.asked c.args.stores.now.stores.now = grind (arith, common_steps) in
    let p = err_from_is_err_and c.from_residual-in_err-verdict-in-Ok.result c.from_residual-in_err-verdict-in-Ok.ensures.1 in
    rw p.1 (Begun-run g.S.BoxLists.noted c.args.work.options.now (place_of c.args.place) (outcome_of_pass c.in-Ok.pass) None (g.S.BoxLists.asked c.args.stores.now.stores.now)
    (g.S.BoxLists.asked c.print_answer.new.stores.stores.now)
    (c.print_answer.ensures.asks.1 ∙ c.in-Ok.ensures.asks.1 ∙ ap (λ l. g.S.BoxLists.noted l ran) same))

pub returns-in_err-report_left_out-in-Ok-clause-asked : goal.returns-in_err-report_left_out-in-Ok-clause-asked
returns-in_err-report_left_out-in-Ok-clause-asked g c =
    let ran : Asked = Ran (place_of c.args.place) c.args.work.options.now run_attempts (outcome_of_pass c.in-Ok.pass) in
    let same : g.S.BoxLists.asked c.print_box.new.self.stores.now ≡ g.S.BoxLists.asked c.args.stores.now.stores.now = grind (arith, common_steps) in
    let p = err_from_is_err_and c.from_residual-in_err-report_left_out-in-Ok.result c.from_residual-in_err-report_left_out-in-Ok.ensures.1 in
    rw p.1 (Begun-run g.S.BoxLists.noted c.args.work.options.now (place_of c.args.place) (outcome_of_pass c.in-Ok.pass) None (g.S.BoxLists.asked c.args.stores.now.stores.now)
    (g.S.BoxLists.asked c.report_left_out.new.stores.stores.now)
    (c.report_left_out.ensures.asks.1 ∙ c.print_answer.ensures.asks.1 ∙ c.in-Ok.ensures.asks.1 ∙ ap (λ l. g.S.BoxLists.noted l ran) same))

-- it was run to an answer
pub returns-in_ok-report_left_out-in-Ok-clause-asked : goal.returns-in_ok-report_left_out-in-Ok-clause-asked
returns-in_ok-report_left_out-in-Ok-clause-asked g c =
    let ran : Asked = Ran (place_of c.args.place) c.args.work.options.now run_attempts (outcome_of_pass c.in-Ok.pass) in
    let same : g.S.BoxLists.asked c.print_box.new.self.stores.now ≡ g.S.BoxLists.asked c.args.stores.now.stores.now = grind (arith, common_steps) in
    Goes-run g.S.BoxLists.noted c.args.work.options.now (place_of c.args.place) (outcome_of_pass c.in-Ok.pass) None c.and.result (g.S.BoxLists.asked c.args.stores.now.stores.now)
    (g.S.BoxLists.asked c.report_left_out.new.stores.stores.now)
    (c.report_left_out.ensures.asks.1 ∙ c.print_answer.ensures.asks.1 ∙ c.in-Ok.ensures.asks.1 ∙ ap (λ l. g.S.BoxLists.noted l ran) same)
    (IsReportedOf-following (has_void c.in-Ok.pass) c.in_ok-verdict-in-Ok.verdict c.in_ok-report_left_out-in-Ok.field-0 c.and.result c.and.ensures c.in_ok-verdict-in-Ok.ensures.states
    c.in_ok-report_left_out-in-Ok.ensures.goes_on)

-- or to a fault
pub returns-in-Err-clause-asked : goal.returns-in-Err-clause-asked
returns-in-Err-clause-asked g c =
    let gave_up : Option Outcome = option_map outcome_of_giving c.in-Err.failure.giving_up in
    let ran : List Asked = (run_course c.args.work.options.now (place_of c.args.place) (outcome_of_box_fault c.in-Err.failure.fault) gave_up).asked in
    let same : g.S.BoxLists.asked c.print_box.new.self.stores.now ≡ g.S.BoxLists.asked c.args.stores.now.stores.now = grind (arith, common_steps) in
    SoFar-fault g.S.BoxLists.noted c.args.work.options.now (place_of c.args.place) c.in-Err.failure.fault gave_up c.report_failure.result (g.S.BoxLists.asked c.args.stores.now.stores.now)
    (g.S.BoxLists.asked c.report_failure.new.self.stores.now)
    (c.report_failure.ensures.asks.1 ∙ c.in-Err.ensures.asks.1 ∙ ap (λ l. fold g.S.BoxLists.noted l ran) same) c.report_failure.ensures.verdict

-- without a fault it was done
pub returns-in_ok-report_left_out-in-Ok-clause-asks : goal.returns-in_ok-report_left_out-in-Ok-clause-asks
returns-in_ok-report_left_out-in-Ok-clause-asks g c =
    let ran : Asked = Ran (place_of c.args.place) c.args.work.options.now run_attempts (outcome_of_pass c.in-Ok.pass) in
    let same : g.S.BoxLists.asked c.print_box.new.self.stores.now ≡ g.S.BoxLists.asked c.args.stores.now.stores.now = grind (arith, common_steps) in
    λ clean. c.report_left_out.ensures.asks.1 ∙ c.print_answer.ensures.asks.1 ∙ c.in-Ok.ensures.asks.1 ∙ ap (λ l. g.S.BoxLists.noted l ran) same
    ∙ ap (λ o. g.S.BoxLists.noted (g.S.BoxLists.asked c.args.stores.now.stores.now) (Ran (place_of c.args.place) c.args.work.options.now run_attempts o))
    (was_done (has_void c.in-Ok.pass) c.and.result
    (IsReportedOf-following (has_void c.in-Ok.pass) c.in_ok-verdict-in-Ok.verdict c.in_ok-report_left_out-in-Ok.field-0 c.and.result c.and.ensures
    c.in_ok-verdict-in-Ok.ensures.states c.in_ok-report_left_out-in-Ok.ensures.goes_on) clean)

-- and it is settled
pub returns-in_ok-report_left_out-in-Ok-clause-settled : goal.returns-in_ok-report_left_out-in-Ok-clause-settled
returns-in_ok-report_left_out-in-Ok-clause-settled g c = λ clean.
    let same : c.print_box.new.self.stores.now ≡ c.args.stores.now.stores.now = grind (arith, common_steps) in
    Lends-as (IsLent (place_of c.args.place) (HasRunFrom g.S.BoxLists.opening c.args.work.options.now (g.R.Rng.stream c.args.rng.now) c.in-Ok.pass))
    (IsBoxSettled g.S.BoxLists.opening g.R.Rng.stream c.args.work.options.now (place_of c.args.place))
    (λ more ran. record {
      rng = c.args.rng.now;
      pass = c.in-Ok.pass;
      ran = ran;
      whole = was_done (has_void c.in-Ok.pass) c.and.result
          (IsReportedOf-following (has_void c.in-Ok.pass) c.in_ok-verdict-in-Ok.verdict c.in_ok-report_left_out-in-Ok.field-0 c.and.result c.and.ensures
          c.in_ok-verdict-in-Ok.ensures.states c.in_ok-report_left_out-in-Ok.ensures.goes_on) clean;
    })
    (Lends-after (LendsNone-same _ _ _ _ same) (Lends-then (Lends-then c.in-Ok.ensures.lent c.in_ok-verdict-in-Ok.ensures.lent)
    c.in_ok-report_left_out-in-Ok.ensures.lent))

-- of a fault it is not said
pub returns-in-Err-clause-settled : goal.returns-in-Err-clause-settled
returns-in-Err-clause-settled g c = never_clean _ c.report_failure.result c.report_failure.ensures.reported

-- whatever was reported, it was run once at most
pub returns-in_err-print_box-clause-runs : goal.returns-in_err-print_box-clause-runs
returns-in_err-print_box-clause-runs g c =
    let same : c.print_box.new.self.stores.now ≡ c.args.stores.now.stores.now = grind (arith, common_steps) in
    Lends-none (MayRun g.S.BoxLists.opening g.R.Rng.stream c.args.work.options.now (place_of c.args.place)) (inl refl) (LendsNone-same _ _ _ _ same)

pub returns-in_err-verdict-in-Ok-clause-runs : goal.returns-in_err-verdict-in-Ok-clause-runs
returns-in_err-verdict-in-Ok-clause-runs g c =
    let same : c.print_box.new.self.stores.now ≡ c.args.stores.now.stores.now = grind (arith, common_steps) in
    Lends-once g.S.BoxLists.opening g.R.Rng.stream c.args.work.options.now (place_of c.args.place) c.args.rng.now (Ok c.in-Ok.pass) (LendsNone-same _ _ _ _ same)
    c.in-Ok.ensures.lent c.in_err-verdict-in-Ok.ensures.lent

pub returns-in_err-report_left_out-in-Ok-clause-runs : goal.returns-in_err-report_left_out-in-Ok-clause-runs
returns-in_err-report_left_out-in-Ok-clause-runs g c =
    let same : c.print_box.new.self.stores.now ≡ c.args.stores.now.stores.now = grind (arith, common_steps) in
    Lends-once g.S.BoxLists.opening g.R.Rng.stream c.args.work.options.now (place_of c.args.place) c.args.rng.now (Ok c.in-Ok.pass) (LendsNone-same _ _ _ _ same)
    c.in-Ok.ensures.lent (LendsNone-both c.in_ok-verdict-in-Ok.ensures.lent c.in_err-report_left_out-in-Ok.ensures.lent)

pub returns-in_ok-report_left_out-in-Ok-clause-runs : goal.returns-in_ok-report_left_out-in-Ok-clause-runs
returns-in_ok-report_left_out-in-Ok-clause-runs g c =
    let same : c.print_box.new.self.stores.now ≡ c.args.stores.now.stores.now = grind (arith, common_steps) in
    Lends-once g.S.BoxLists.opening g.R.Rng.stream c.args.work.options.now (place_of c.args.place) c.args.rng.now (Ok c.in-Ok.pass) (LendsNone-same _ _ _ _ same)
    c.in-Ok.ensures.lent (LendsNone-both c.in_ok-verdict-in-Ok.ensures.lent c.in_ok-report_left_out-in-Ok.ensures.lent)

pub returns-in-Err-clause-runs : goal.returns-in-Err-clause-runs
returns-in-Err-clause-runs g c =
    let same : c.print_box.new.self.stores.now ≡ c.args.stores.now.stores.now = grind (arith, common_steps) in
    Lends-once g.S.BoxLists.opening g.R.Rng.stream c.args.work.options.now (place_of c.args.place) c.args.rng.now (Err c.in-Err.failure) (LendsNone-same _ _ _ _ same)
    c.in-Err.ensures.lent c.report_failure.ensures.lent
