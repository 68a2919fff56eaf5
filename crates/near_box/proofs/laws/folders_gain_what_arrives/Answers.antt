use Rattle.std.proofs.Common.{[]}
use Rattle.near_box.proofs.ArrivedLemmas.{added_arrives, gained_arrives}
use Rattle.near_box.proofs.GainedLemmas.{mailbox_gained, store_gained}
use Rattle.near_box.proofs.laws.folders_gain_what_arrives.Goals as goal

pub returns-clause-arrives : goal.returns-clause-arrives
returns-clause-arrives c = gained_arrives

pub returns-clause-store : goal.returns-clause-store
returns-clause-store c = store_gained

pub returns-clause-mailbox : goal.returns-clause-mailbox
returns-clause-mailbox c v fresh s s' is gains = mailbox_gained v fresh [] s s' is gains

pub returns-clause-following : goal.returns-clause-following
returns-clause-following c = added_arrives
