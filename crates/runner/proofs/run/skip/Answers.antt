use Rattle.std.proofs.Common.{refl, arith}
use Rattle.runner.specs.Answers.{PassEnd, run_of}
use Rattle.runner.proofs.PartCalls.{passed_weaker}
use Rattle.runner.proofs.Passes.{known_reaches, run_same}
use Rattle.runner.proofs.run.skip.Goals as goal

pub returns-clause-part : goal.returns-clause-part
returns-clause-part g c =
    let old = g.O.Outside.opened c.args.outside.now in
    let new = g.O.Outside.opened c.forget.new.outside in
    let same = run_same old new c.in_ok-forget.ensures.state in
    passed_weaker _ _ _ _ (PassEnd g.opening (run_of old)) _ _ _ _ refl (λ d k. k) (λ d k. known_reaches g.opening new (run_of old) d (omega (arith, same)) k) c.in_ok-forget.ensures.part

pub returns-clause-made : goal.returns-clause-made
returns-clause-made g c = record { stores = c.in_ok-forget.ensures.stores; emptied = c.in_ok-forget.ensures.emptied }
