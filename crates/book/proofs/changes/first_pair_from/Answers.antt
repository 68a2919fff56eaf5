use Rattle.std.proofs.Common.{◌≡◌, false, subst, rules}
use Rattle.std.proofs.lemmas.List.{get_or_read}
use Rattle.sync_state.specs.JournalText.{is_below}
use Rattle.book.specs.declared.changes.UidPair.{UidPair}
use Rattle.book.specs.Changes.{gone_place, pair_place}
use Rattle.book.proofs.ChangeLemmas.{pairs_parted, reached_from}
use Rattle.book.proofs.changes.first_pair_from.Goals as goal

pub returns-else-is_before : goal.returns-else-is_before
returns-else-is_before c =
    let ps = c.args.pairs.now in
    let k = gone_place c.args.entry.now in
    let here : is_below (pair_place c.index-pairs-at.result) k ≡ false = search rules in
    reached_from pair_place k ps c.loop-at.at (pairs_parted k ps c.requires.in_order) c.loop-at.invariant (λ within d.
    subst (λ (p : UidPair). is_below (pair_place p) k ≡ false) (get_or_read ps c.loop-at.at c.index-pairs-at.result within c.index-pairs-at.is d) here)
