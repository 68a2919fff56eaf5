use Rattle.std.proofs.Common.{[], ◌∷◌}
use Rattle.runner.specs.Going.{HasLogged, logged_of}
use Rattle.runner.proofs.PartCalls.{left_unrefused, line_of_log, passed_call}
use Rattle.runner.proofs.Logging.{takes_log, has_logged, log_made, log_left, never_refused}
use Rattle.runner.proofs.steps.log.Goals as goal

pub write-requires : goal.write-requires
write-requires g c =
    let opened = g.O.Outside.opened c.args.outside.now in
    record { takes = rw c.logged_as.ensures (takes_log opened c.args.number (logged_of c.args.became.now) c.requires.1.0.untorn c.requires.1.1.0 c.requires.1.1.1) }

pub returns-in-Ok-clause-opened : goal.returns-in-Ok-clause-opened
returns-in-Ok-clause-opened g c =
    let opened = g.O.Outside.opened c.args.outside.now in
    rw (c.in-Ok.ensures.opened, c.logged_as.ensures) (has_logged opened (logged_of c.args.became.now) c.requires.1.0)

pub returns-in-Ok-clause-part : goal.returns-in-Ok-clause-part
returns-in-Ok-clause-part g c =
    let opened = g.O.Outside.opened c.args.outside.now in
    let now = g.O.Outside.opened c.write.new.outside in
    let s1 = g.O.Outside.seen c.write.new.outside in
    let logged = logged_of c.args.became.now in
    let has : HasLogged opened now (logged ∷ []) = rw (c.in-Ok.ensures.opened, c.logged_as.ensures) (has_logged opened logged c.requires.1.0) in
    passed_call _ _ _ _ _ _ _ _ _ _ _ (rw c.logged_as.ensures at c.in-Ok.ensures.call)
    (λ m at a own. log_made g.opening opened logged now _ m s1.device c.requires.1.0 has a at own)

pub returns-in-Err-clause-part : goal.returns-in-Err-clause-part
returns-in-Err-clause-part g c =
    let opened = g.O.Outside.opened c.args.outside.now in
    let s1 = g.O.Outside.seen c.write.new.outside in
    let logged = logged_of c.args.became.now in
    rw c.step_fault.ensures (left_unrefused _ _ _ _ _ _ _ _ _ _ c.args.number _ (rw c.logged_as.ensures at c.in-Err.ensures.call) (line_of_log opened logged _) (never_refused opened logged _)
    (λ m at a own reported. log_left g.opening opened logged c.in-Err.fault _ m s1.device c.requires.1.0 a at reported own))
