use Rattle.std.proofs.Common.{◌≡◌, ◌+◌, true, false, is_some, arith, rules}
use Rattle.std.proofs.lemmas.Grind.{common_steps}
use Rattle.runner.specs.Answers.{PlanStart, ReadPassStart, run_of}
use Rattle.runner.specs.Before.{HasNoPlan, Resumed}
use Rattle.runner.proofs.Passes.{known_planned, known_unplanned}
use Rattle.runner.proofs.PlanFacts.{moved_none}
use Rattle.runner.proofs.Readings.{book_read, has_none, has_plan, none_of, some_of}
use Rattle.runner.proofs.StageLemmas.{are_same, drawn_resumed, drawn_weaker, runs_resumed}
use Rattle.runner.proofs.run.work.Goals as goal

pub begin-requires : goal.begin-requires
begin-requires g c κs within =
    let opened = g.O.Outside.opened c.args.outside.now in
    let i : is_some c.pending.result ≡ false = grind (arith, common_steps) in
    let ready = c.requires.1.1.1 in
    (search rules, (search rules, (search rules, record { none = has_none opened (book_read opened ready.0) (none_of _ c.pending.result _ c.pending.ensures i); boxes = ready.1.0; room = ready.1.1.0; map = ready.1.1.1.1 })))

pub returns-then-is_some : goal.returns-then-is_some
returns-then-is_some g c =
    let opened = g.O.Outside.opened c.args.outside.now in
    let options = c.args.options.now in
    let stream = g.R.Rng.stream c.args.rng.now in
    let i : is_some c.pending.result ≡ true = grind (arith, common_steps) in
    let j = some_of _ c.pending.result _ c.pending.ensures i in
    let plan = has_plan opened j.0 j.1 in
    let resumed = c.resume.ensures.stage in
    let runs = runs_resumed g.O.Outside g.opening options stream _ _ _ c.resume.result plan c.requires.1.1.1.1.1.1.0 resumed.answer in
    record { stage = drawn_resumed g.O.Outside g.opening _ options stream _ _ (Resumed g.opening opened) (ReadPassStart g.opening opened (run_of opened + 1) options stream) _ _ _ _ (λ d k. known_planned g.opening opened d plan k.most k.known) runs (moved_none _) resumed }

pub returns-else-is_some : goal.returns-else-is_some
returns-else-is_some g c =
    let opened = g.O.Outside.opened c.args.outside.now in
    let options = c.args.options.now in
    let stream = g.R.Rng.stream c.args.rng.now in
    let i : is_some c.pending.result ≡ false = grind (arith, common_steps) in
    let none : HasNoPlan opened = has_none opened (book_read opened c.requires.1.1.1.0) (none_of _ c.pending.result _ c.pending.ensures i) in
    record { stage = drawn_weaker g.O.Outside g.opening _ options stream _ _ _ (PlanStart g.opening opened options stream) (ReadPassStart g.opening opened (run_of opened + 1) options stream) _ _ _ _ _ (are_same _) (λ d k. record { asked = k.asked; none = known_unplanned g.opening opened d none k.most k.known }) (λ d k. k) c.begin.ensures.stage }
