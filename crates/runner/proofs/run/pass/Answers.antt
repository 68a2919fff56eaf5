use Rattle.std.proofs.Common.{◌≤◌, ◌+◌, ◌∙◌, refl, rules}
use Rattle.std.proofs.lemmas.Result.{err_from_is_err_and}
use Rattle.outside.specs.Opened.{journal_of}
use Rattle.runner.specs.Answers.{Inputs, PassStart, ReadPassStart}
use Rattle.runner.proofs.PartCalls.{left_reported, left_weaker, part_after, part_reported, passed_weaker, passed_with}
use Rattle.runner.proofs.PassReports.{answers_so, made_so, reports_so}
use Rattle.runner.proofs.Passes.{answers_held, beyond_held, beyond_read, emptied_held, pass_alike, pass_others, runs_held, stores_joined}
use Rattle.runner.proofs.PlanFacts.{moved_none}
use Rattle.runner.proofs.StepParts.{refused_from, repeats_from}
use Rattle.runner.proofs.Validities.{files_changed, files_map}
use Rattle.runner.proofs.Reported.{reported_from}
use Rattle.runner.proofs.Finding.{finds_held}
use Rattle.runner.proofs.Naming.{names_held}
use Rattle.runner.proofs.StageLemmas.{by_files_in, copies_in, emptied_in, names_in, report_in, results_in, stores_in}
use Rattle.runner.specs.Asking.{nothing}
use Rattle.runner.proofs.Asking.{asks_read, asks_reading}
use Rattle.runner.proofs.run.pass.Goals as goal

pub make_or_resume-requires : goal.make_or_resume-requires
make_or_resume-requires g c κs within =
    let part = c.in_ok-recall.ensures.part in
    (search rules, (search rules, (search rules, record { book = c.in_ok-recall.ensures.book; whole = part.is_whole; map = c.recall.ensures.keywords ∙ c.requires.1.1.1 })))

pub returns-in_err-recall-clause-part : goal.returns-in_err-recall-clause-part
returns-in_err-recall-clause-part g c =
    let e = err_from_is_err_and c.from_residual.result c.from_residual.ensures.1 in
    rw (e.1, e.2) (left_reported _ _ _ _ _ _ _ _ (record { changed = λ side n. absurd n; keywords = λ n. absurd n; repeats = λ n. absurd n; beyond = λ n. absurd n; greatest = λ n. absurd n; unread = λ e t. t; refused = λ step n. absurd n }) (left_weaker _ _ _ _ _ _ _ (λ d k. k.underway) c.in_err-recall.ensures.part))

pub returns-clause-answers : goal.returns-clause-answers
returns-clause-answers g c =
    let after = c.make_or_resume.ensures in
    let drawn = after.stage in
    let stage = drawn.stage in
    let frame = stage.frame in
    let opened = g.O.Outside.opened c.recall.new.outside in
    answers_so c.args.run _ _ _ _ c.make_or_resume.result (answers_held c.args.run opened _ _ _ c.make_or_resume.result (by_files_in g.O.Outside g.opening _ _ _ _ c.make_or_resume.result stage.answer) frame.was_honest c.in_ok-recall.ensures.held)
    (runs_held opened _ _ _ _ _ c.make_or_resume.result drawn.runs frame.was_honest c.in_ok-recall.ensures.held)

pub returns-clause-made : goal.returns-clause-made
returns-clause-made g c =
    let after = c.make_or_resume.ensures in
    let drawn = after.stage in
    let stage = drawn.stage in
    let frame = stage.frame in
    let alone = g.O.Outside.alone in
    let s0 = g.O.Outside.seen c.args.outside.now in
    let s1 = g.O.Outside.seen c.recall.new.outside in
    let s2 = g.O.Outside.seen c.make_or_resume.new.outside in
    let before = frame.was_honest in
    made_so alone _ s0.device s2.device c.make_or_resume.result
    (stores_joined alone _ _ s0.device s1.device s2.device c.make_or_resume.result (stores_in g.O.Outside _ _ c.make_or_resume.result after.made) before (λ h. c.in_ok-recall.ensures.kept h))
    (emptied_held (g.O.Outside.opened c.recall.new.outside) s0.device s1.device s2.device _ _ c.make_or_resume.result (emptied_in g.O.Outside _ _ c.make_or_resume.result after.made) before c.in_ok-recall.ensures.held (λ h. let k = c.in_ok-recall.ensures.kept h in k.files))

pub returns-in_err-recall-clause-beyond : goal.returns-in_err-recall-clause-beyond
returns-in_err-recall-clause-beyond g c = λ h s p held more.
    let e = err_from_is_err_and c.from_residual.result c.from_residual.ensures.1 in
    rw e.1 (refl, c.in_err-recall.ensures.kept h)

pub returns-clause-beyond : goal.returns-clause-beyond
returns-clause-beyond g c =
    let after = c.make_or_resume.ensures in
    let drawn = after.stage in
    let stage = drawn.stage in
    let frame = stage.frame in
    let s0 = g.O.Outside.seen c.args.outside.now in
    beyond_held g.O.Outside.alone (g.O.Outside.opened c.recall.new.outside) c.args.run _ _ s0.device (g.O.Outside.seen c.recall.new.outside) (g.O.Outside.seen c.make_or_resume.new.outside) c.make_or_resume.result after.beyond frame.was_honest c.in_ok-recall.ensures.held c.in_ok-recall.ensures.kept

pub returns-clause-part : goal.returns-clause-part
returns-clause-part g c =
    let after = c.make_or_resume.ensures in
    let drawn = after.stage in
    let stage = drawn.stage in
    let frame = stage.frame in
    let alone = g.O.Outside.alone in
    let opened = g.O.Outside.opened c.recall.new.outside in
    let s0 = g.O.Outside.seen c.args.outside.now in
    let s2 = g.O.Outside.seen c.make_or_resume.new.outside in
    let s1 = g.O.Outside.seen c.recall.new.outside in
    let run = c.args.run in
    let options = c.args.options.now in
    let stream = g.R.Rng.stream c.args.rng.now in
    let with = passed_with ((run ≤ g.opening.world.state.run + 1) × Inputs g.opening options stream) _ _ _ _ _ _ c.in_ok-recall.ensures.part in
    let ready = passed_weaker _ _ (PassStart g.opening run options stream) _ (ReadPassStart g.opening opened run options stream) _ 0 _ s1 refl (λ d k. ((k.most, k.asked), k.underway)) (λ d k. record { most = k.0.0; asked = k.0.1; known = k.1 }) with in
    part_after _ _ _ _ _ _ _ _ _ s1 _ _ frame.was_honest ready (part_reported _ _ _ _ _ _ _ _ _ _ (record { changed = λ side t. (files_changed alone _ _ opened s0.device s1.device s2.device side frame.was_honest c.in_ok-recall.ensures.held c.in_ok-recall.ensures.kept t.0, t.1); keywords = λ t. files_map alone _ _ options.keywords opened _ s0.device s1.device s2.device frame.was_honest c.in_ok-recall.ensures.held c.in_ok-recall.ensures.kept t; repeats = λ k. repeats_from g.opening _ _ _ _ options stream (λ h at. ready.reaches (frame.was_honest h) at) k; beyond = λ n. (n.1, λ h. beyond_read opened s0.device run (c.in_ok-recall.ensures.held (frame.was_honest h)) n.0); greatest = λ n. n; unread = λ e n. absurd n; refused = refused_from _ _ _ _ _ (λ h at. ready.reaches (frame.was_honest h) at) }) stage.part)

pub returns-in_err-recall-clause-moved : goal.returns-in_err-recall-clause-moved
returns-in_err-recall-clause-moved g c = moved_none _

pub returns-in_err-recall-clause-stuck : goal.returns-in_err-recall-clause-stuck
returns-in_err-recall-clause-stuck g c = λ b.
    let e = err_from_is_err_and c.from_residual.result c.from_residual.ensures.1 in
    rw (e.1, e.2) (c.in_err-recall.ensures.stuck b)

pub returns-clause-stuck : goal.returns-clause-stuck
returns-clause-stuck g c = λ b. absurd ((c.in_ok-recall.ensures.stuck b).0)

pub returns-clause-reported : goal.returns-clause-reported
returns-clause-reported g c =
    let after = c.make_or_resume.ensures in
    let drawn = after.stage in
    let stage = drawn.stage in
    let frame = stage.frame in
    let ours = g.O.Outside.ours in
    let d0 = (g.O.Outside.seen c.args.outside.now).device in
    let part = c.in_ok-recall.ensures.part in
    let before = frame.was_honest in
    let run = c.args.run in
    let options = c.args.options.now in
    let stream = g.R.Rng.stream c.args.rng.now in
    let opened = g.O.Outside.opened c.recall.new.outside in
    let d1 = (g.O.Outside.seen c.recall.new.outside).device in
    let leads : g.O.Outside.honest c.make_or_resume.new.outside → PassStart g.opening run options stream d0 → ReadPassStart g.opening opened run options stream d1
    = (λ h k. record { most = k.most; asked = k.asked; known = part.reaches (before h) k.underway }) in
    reports_so g.opening run _ _ _ d0 _ c.make_or_resume.result
    (reported_from c.make_or_resume.result _ _ _ _ leads (report_in g.O.Outside g.opening _ _ _ _ c.make_or_resume.result stage.answer))
    (finds_held ours opened d0 d1 c.make_or_resume.result _ _ _ _ before leads c.in_ok-recall.ensures.same c.in_ok-recall.ensures.held (copies_in g.O.Outside g.opening _ _ _ _ c.make_or_resume.result stage.answer))
    (names_held g.opening opened d0 d1 _ c.make_or_resume.result _ _ _ _ before leads (λ h. c.in_ok-recall.ensures.kept h) c.in_ok-recall.ensures.held (names_in g.O.Outside g.opening _ _ _ _ c.make_or_resume.result stage.answer))
    (pass_alike _ _ g.opening run options stream (g.O.Outside.seen c.args.outside.now) (g.O.Outside.seen c.make_or_resume.new.outside) c.make_or_resume.result (returns-clause-part g c))
    (pass_others _ _ g.opening run options stream (g.O.Outside.seen c.args.outside.now) (g.O.Outside.seen c.make_or_resume.new.outside) c.make_or_resume.result (returns-clause-part g c))

pub returns-clause-results : goal.returns-clause-results
returns-clause-results g c = let drawn = c.make_or_resume.ensures.stage in let stage = drawn.stage in results_in g.O.Outside g.opening _ _ _ _ c.make_or_resume.result stage.answer

pub returns-clause-moved : goal.returns-clause-moved
returns-clause-moved g c = let drawn = c.make_or_resume.ensures.stage in drawn.moved

pub returns-in_err-recall-clause-asked : goal.returns-in_err-recall-clause-asked
returns-in_err-recall-clause-asked g c = asks_reading g.O.Outside.noted nothing (journal_of (g.O.Outside.opened c.recall.new.outside)) _ _ c.recall.ensures.asked

pub returns-clause-asked : goal.returns-clause-asked
returns-clause-asked g c = asks_read g.O.Outside.noted nothing (journal_of (g.O.Outside.opened c.recall.new.outside)) _ _ _ c.recall.ensures.asked (let drawn = c.make_or_resume.ensures.stage in let stage = drawn.stage in stage.asked)
