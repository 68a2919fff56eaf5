use Rattle.std.proofs.Common.{◌∙◌, map, rules}
use Rattle.std.specs.BTreeSet.{IsFromIterResult}
use Rattle.std.specs.Ordering.{nat_cmp}
use Rattle.std.proofs.lemmas.Iterator.{YieldsList-from_map, YieldsList-from_slice}
use Rattle.std.proofs.lemmas.Iterator.Adapters.{fact_from_collect}
use Rattle.std.proofs.lemmas.Iterator.Consumers.{YieldsList-at}
use Rattle.std.proofs.lemmas.Result.{IfOk-weaker}
use Rattle.rules.specs.declared.entry.Entry.{Entry}
use Rattle.rules.specs.Entries.{uid_of}
use Rattle.book.proofs.TakenLemmas.{member_named}
use Rattle.book.proofs.taken.uids_on.Goals as goal

pub returns : goal.returns
returns c =
    let es = c.args.entries.now in
    let side = c.args.side in
    IfOk-weaker c.collect.result (IsFromIterResult nat_cmp (map (λ (e : Entry). uid_of side e) es)) _ (λ uids h uid. h.0 uid ∙ member_named side uid es)
    (fact_from_collect (IsFromIterResult nat_cmp) c.collect.result c.collect.ensures.ran
    (YieldsList-from_map _ (λ (e : Entry). uid_of side e) (YieldsList-at c.map.ensures.source (YieldsList-from_slice es c.iter.ensures.rest)) c.map.ensures.closure (λ x r q k. search rules)))
