use Rattle.std.proofs.Common.{◌≡◌, ap, rules}
use Rattle.std.specs.Int.NonZero.{non_zero_u32_get}
use Rattle.book.specs.MemShelves.{files_of}
use Rattle.run_pair.specs.BookParts.{files_of as files_in}
use Rattle.run_trial.proofs.HeldLemmas.{same_device}
use Rattle.run_trial.proofs.devices.Devices.of.Goals as goal

-- both mailboxes of the outside have one map
pub returns-clause-seen : goal.returns-clause-seen
returns-clause-seen g c =
    let d = c.over.result in
    let both = c.args.outside in
    let account : d.account ≡ both.far.account = search rules in
    let fresh : d.fresh ≡ both.near.fresh = search rules in
    let line : d.link ≡ both.far.far.session.wire.link = search rules in
    let map : d.keywords ≡ both.far.far.keywords = search rules in
    let folder : d.folder ≡ both.near.near.folder = search rules in
    let shelf : files_of d.shelf ≡ files_in both.book = search rules in
    same_device d _ _ _ _ _ _ _ account (ap non_zero_u32_get fresh) line map both.one_map folder shelf
