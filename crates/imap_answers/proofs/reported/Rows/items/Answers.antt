use Rattle.std.proofs.Common.{◌++◌, map, sym, ◌∙◌, ap, append-nil, subst}
use Rattle.std.specs.List.Sorted.{IsStrictlySortedBy}
use Rattle.std.specs.Map.{keys_of}
use Rattle.std.specs.Ordering.{nat_cmp}
use Rattle.imap_answers.specs.Fetching.{MappedRows}
use Rattle.imap_answers.proofs.Listed.{rising_by_keys}
use Rattle.imap_answers.proofs.reported.Rows.items.Goals as goal

pub from_vec-requires : goal.from_vec-requires
from_vec-requires c =
    let all = sym (append-nil (map (λ i. i.uid) c.loop-uid.items.items)) ∙ sym (ap (λ es. map (λ i. i.uid) c.loop-uid.items.items ++ keys_of es) c.in-None.ensures.steps.0) ∙ c.loop-uid.invariant.1 in
    rising_by_keys c.loop-uid.items.items _ all (subst (λ es. IsStrictlySortedBy nat_cmp (keys_of es)) (ap (λ (r : MappedRows). r.rows) c.self.view_is) c.len.ensures.ordered)
