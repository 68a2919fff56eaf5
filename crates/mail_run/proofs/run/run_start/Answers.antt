use Rattle.mail_run.proofs.GrownLemmas.{fresh_from, home_from}
use Rattle.mail_run.proofs.run.run_start.Goals as goal

-- the stores are new ones
pub returns : goal.returns
returns g c = record {
  settled = λ clean listless. record {
    old = c.new-stores.result;
    unasked = c.new-stores.ensures.unasked;
    unlent = c.new-stores.ensures.unlent;
    settled = c.run_over.ensures.settled clean listless;
  };
  runs = record {
    old = c.new-stores.result;
    unasked = c.new-stores.ensures.unasked;
    unlent = c.new-stores.ensures.unlent;
    runs = c.run_over.ensures.runs;
  };
  listed =
      let home = home_from _ _ _ _ c.new-stores.ensures.unasked c.run_over.ensures.asked in
      record { far = c.run_over.result.0.listed; near = rw home c.run_over.result.0.found };
  stood =
      let home = home_from _ _ _ _ c.new-stores.ensures.unasked c.run_over.ensures.asked in
      let fresh = fresh_from _ _ _ _ c.new-stores.ensures.unasked c.run_over.ensures.asked in
      rw (home, fresh) c.run_over.result.0.placed;
}
