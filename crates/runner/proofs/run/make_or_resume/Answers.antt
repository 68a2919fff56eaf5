use Rattle.std.proofs.Common.{◌≡◌, ◌≤◌, ◌+◌, ℕ, inl, refl, arith, rules, subst, sym}
use Rattle.runner.specs.Answers.{PassEnd, ReadPassStart, RunEnd, run_of}
use Rattle.runner.specs.PassStages.{ReadStage, read_reasons, run_reasons}
use Rattle.runner.proofs.StepParts.{part_never}
use Rattle.runner.proofs.PartCalls.{left_here, part_weaker, passed_none}
use Rattle.runner.proofs.Passes.{end_reaches, known_least, reads_beyond, run_of_state}
use Rattle.runner.proofs.PlanFacts.{moved_none}
use Rattle.runner.proofs.Readings.{book_read}
use Rattle.runner.proofs.StageLemmas.{answer_skipped, drawn_left, drawn_weaker, never_skipped, runs_skipped}
use Rattle.runner.proofs.Asking.{asks_none}
use Rattle.runner.proofs.run.make_or_resume.Goals as goal

pub state-requires : goal.state-requires
state-requires g c = let ready = c.requires.1.1.1 in record { read = book_read (g.O.Outside.opened c.args.outside.now) ready.book }

pub skip-requires : goal.skip-requires
skip-requires g c κs within = let ready = c.requires.1.1.1 in (search rules, (book_read (g.O.Outside.opened c.args.outside.now) ready.book, ready.whole))

pub returns-then-run-last-clause-stage : goal.returns-then-run-last-clause-stage
returns-then-run-last-clause-stage g c =
    let opened = g.O.Outside.opened c.args.outside.now in
    let ready = c.requires.1.1.1 in
    let same = run_of_state opened c.state.result.now c.state.ensures.state in
    let le : c.args.run ≤ run_of opened = omega (arith, same, c.if-run-last.true) in
    let skipped = c.skip.ensures in
    record {
      stage = record {
        frame = skipped.frame;
        asked = asks_none g.O.Outside.noted _ _ _ c.skip.ensures.asked;
        answer = answer_skipped g.O.Outside g.opening c.args.run _ c.args.outside.now c.skip.new.outside c.skip.result (book_read opened ready.book) le skipped.answer skipped.made;
        part = part_weaker _ _ _ _ _ _ _ (λ x. PassEnd g.opening c.args.run) _ _ _ (λ d k. k.known) (λ x d k. record { underway = k.underway; done = λ e. k.done (omega (arith, le, e)) }) (part_never _ _ _ _ _ _ _ _ _ skipped.part);
      };
      runs = runs_skipped g.O.Outside opened _ _ c.skip.result skipped.answer;
      moved = moved_none _;
    }

pub returns-then-run-last-gt1-clause-stage : goal.returns-then-run-last-gt1-clause-stage
returns-then-run-last-gt1-clause-stage g c =
    let opened = g.O.Outside.opened c.args.outside.now in
    let s = g.O.Outside.seen c.args.outside.now in
    let ready = c.requires.1.1.1 in
    let same = run_of_state opened c.state.result.now c.state.ensures.state in
    let entry = ReadPassStart g.opening opened c.args.run c.args.options.now (g.R.Rng.stream c.args.rng.now) in
    let beyond = reads_beyond opened c.args.run (book_read opened ready.book) (omega (arith, same, c.if-run-last.false, c.if-run-last-gt1.true)) in
    drawn_left g.O.Outside g.opening _ _ _ _ _ _ _ _ _ _ (record { was_honest = λ h. h; keywords = refl }) (asks_none g.O.Outside.noted _ _ _ refl) (moved_none _)
    (left_here _ entry entry _ 0 _ s s (passed_none _ entry entry s ready.whole (λ k. k)) (inl (refl, (beyond, beyond))) (λ k. let m = k.most in let l = known_least g.opening opened s.device k.known in omega (arith, same, m, l, c.if-run-last.false, c.if-run-last-gt1.true)))

pub returns-clause-stage : goal.returns-clause-stage
returns-clause-stage g c =
    let run = c.args.run in
    let opened = g.O.Outside.opened c.args.outside.now in
    let same = run_of_state opened c.state.result.now c.state.ensures.state in
    let is : run ≡ run_of opened + 1 = omega (arith, same, c.if-run-last.false, c.if-run-last-gt1.false) in
    let options = c.args.options.now in
    let stream = g.R.Rng.stream c.args.rng.now in
    let drawn = g.R.Rng.stream c.open_and_work.new.rng in
    let reasons = read_reasons g.O.Outside options.keywords c.args.outside.now c.open_and_work.new.outside in
    let worked = subst (λ (n : ℕ). ReadStage g.O.Outside g.opening n options stream drawn reasons (RunEnd g.opening) c.args.outside.now c.open_and_work.new.outside c.open_and_work.result) (sym is) c.open_and_work.ensures.stage in
    let entry = ReadPassStart g.opening opened run options stream in
    drawn_weaker g.O.Outside g.opening run options stream drawn reasons (run_reasons g.O.Outside run options.keywords c.args.outside.now c.open_and_work.new.outside) entry entry _ _ _ _ _
    (record { changed = λ side t. t; keywords = λ t. t; repeats = λ t. t; beyond = λ n. absurd n; greatest = λ t. t; unread = λ e t. t; refused = λ step t. t })
    (λ d k. k) (λ d k. end_reaches g.opening run d k) worked

pub returns-clause-made : goal.returns-clause-made
returns-clause-made g c = let s = c.open_and_work.ensures.stage in let stage = s.stage in never_skipped g.O.Outside g.opening _ _ _ c.open_and_work.result stage.answer

pub returns-then-run-last-clause-beyond : goal.returns-then-run-last-clause-beyond
returns-then-run-last-clause-beyond g c = λ more.
    let same = run_of_state (g.O.Outside.opened c.args.outside.now) c.state.result.now c.state.ensures.state in
    absurd (omega (arith, same, more, c.if-run-last.true))

pub returns-clause-beyond : goal.returns-clause-beyond
returns-clause-beyond g c = λ more.
    let same = run_of_state (g.O.Outside.opened c.args.outside.now) c.state.result.now c.state.ensures.state in
    absurd (omega (arith, same, more, c.if-run-last.false, c.if-run-last-gt1.false))
