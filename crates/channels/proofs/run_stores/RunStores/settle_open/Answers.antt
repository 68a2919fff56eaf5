use Rattle.std.proofs.Common.{ap, refl, inl}
use Rattle.channels.specs.Asked.{place_of}
use Rattle.channels.specs.Runs.{IsFailedRun, OrNone}
use Rattle.channels.proofs.RunLemmas.{Lends-none, Lends-run}
use Rattle.channels.proofs.run_stores.RunStores.settle_open.Goals as goal

-- what the run did was done with these options and from where the generator stood
pub returns-in-Ok-clause-lent : goal.returns-in-Ok-clause-lent
returns-in-Ok-clause-lent g c =
    Lends-run g.S.BoxLists.opening (place_of c.args.place) c.new-run.result.options.now c.args.options.now (g.R.Rng.stream c.new-run.result.rng.now)
    (g.R.Rng.stream c.args.rng.now) c.in-Ok.answer c.new-run.ensures.options (ap g.R.Rng.stream c.new-run.ensures.rng) c.in-Ok.ensures.lent

-- the mailbox could not be opened
pub returns-in-Err-clause-lent : goal.returns-in-Err-clause-lent
returns-in-Err-clause-lent g c =
    Lends-none (OrNone (IsFailedRun g.S.BoxLists.opening c.args.options.now (g.R.Rng.stream c.args.rng.now) (place_of c.args.place))) (inl refl)
    c.in-Err.ensures.lent
