use Rattle.std.proofs.Common.{◌∙◌, List, sym, ap}
use Rattle.rules.specs.declared.entry.Entry.{Entry}
use Rattle.book.specs.Agreement.{is_entry, is_pair}
use Rattle.book.proofs.PlacedLemmas.{pair_place}
use Rattle.book.proofs.agreement.is_entry.Goals as goal

pub returns-in-None : goal.returns-in-None
returns-in-None c =
    let far = c.args.far in
    let near = c.args.near in
    let found = c.in-None.ensures (is_pair far near) (λ e h. pair_place far near e h) in
    sym found ∙ ap (λ (es : List Entry). is_entry es far near) c.as_slice.ensures.all
