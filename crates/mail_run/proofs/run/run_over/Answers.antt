use Rattle.std.proofs.Common.{ap, sym}
use Rattle.mail_run.proofs.GrownLemmas.{grown}
use Rattle.mail_run.proofs.ShownLemmas.{runs_through, settles_through}
use Rattle.mail_run.proofs.run.run_over.Goals as goal

-- the shown stores have run and settled what they hold
pub returns : goal.returns
returns g c = record {
  settled = λ clean listless. settles_through g.S.BoxLists (λ shown. shown.stores) _ _ _ _ _ _ _
      c.new-shown.ensures (sym c.into_stores.ensures) (c.run_config-status.ensures.settled clean listless);
  asked = grown g.S.BoxLists.noted _ _ _ _ _ _ _ _ _ c.run_config-status.ensures.asked
      (ap g.S.BoxLists.asked c.new-shown.ensures) (ap g.S.BoxLists.asked (sym c.into_stores.ensures));
  runs = runs_through g.S.BoxLists (λ shown. shown.stores) _ _ _ _ _ _ _ c.new-shown.ensures (sym c.into_stores.ensures) c.run_config-status.ensures.runs;
}
