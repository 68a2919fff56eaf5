use Rattle.std.proofs.Common.{◌≡◌, ap, rules}
use Rattle.std.specs.Int.NonZero.{non_zero_u32_get}
use Rattle.book.specs.MemShelves.{files_of}
use Rattle.mailcore.specs.Visitors.{others_but}
use Rattle.maildir.specs.MemFolders.{seen_of}
use Rattle.maildir.specs.VisitedFolders.{AddsAlone}
use Rattle.run_pair.specs.BookParts.{files_of as files_in}
use Rattle.run_trial.proofs.HeldLemmas.{all_held}
use Rattle.run_trial.proofs.devices.Devices.among.Goals as goal

-- the far side is as it was
pub invariant_of-far : goal.invariant_of-far
invariant_of-far g c =
    let box = c.apart-far.result.0.far.far in
    record { named = box.named; selected = box.selected; numbers = box.numbers; map = box.map; are_passed = box.are_passed }

-- both mailboxes of the outside have one map
pub returns-clause-seen : goal.returns-clause-seen
returns-clause-seen g c =
    let d = c.over.result in
    let both = c.args.outside in
    let account : d.account ≡ both.far.account = search rules in
    let fresh : d.fresh ≡ both.near.fresh = search rules in
    let line : d.link ≡ both.far.far.session.wire.link = search rules in
    let map : d.keywords ≡ both.far.far.keywords = search rules in
    let shelf : files_of d.shelf ≡ files_in both.book = search rules in
    let adds : AddsAlone (others_but g.O.Others.ours) (seen_of both.near.near.folder.folder) (seen_of d.folder) = search rules in
    all_held g.O.Others.ours d _ _ _ _ _ _ _ _ account (ap non_zero_u32_get fresh) line map both.one_map shelf adds.0
