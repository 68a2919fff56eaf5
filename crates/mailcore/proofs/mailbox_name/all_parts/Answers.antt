use Rattle.std.proofs.Common.{ℕ, rules, tests}
use Rattle.std.specs.Prelude.{◌==◌}
use Rattle.std.proofs.lemmas.Iterator.Search.{all_from_yields_List}
use Rattle.std.proofs.lemmas.Iterator.Splits.{YieldsList-from_slice_split}
use Rattle.mailcore.specs.MailboxNames.{is_name_part}
use Rattle.mailcore.proofs.mailbox_name.all_parts.Goals as goal

pub returns : goal.returns
returns c =
    all_from_yields_List (λ part. is_name_part part) _ _ _ c.all.ensures.ran
    (YieldsList-from_slice_split _ (λ (b : ℕ). b == 47) c.args.name.now c.split.ensures.rest c.split.ensures.done c.split.ensures.closure (λ x b q k. search (rules, tests)))
    (λ x b q k. search (rules, tests))
