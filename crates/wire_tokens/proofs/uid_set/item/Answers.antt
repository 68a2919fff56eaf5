use Rattle.wire_tokens.proofs.SetParts.{item_one}
use Rattle.wire_tokens.proofs.uid_set.item.Goals as goal

pub returns-in-None : goal.returns-in-None
returns-in-None c =
    let n = rw c.in-None.is at c.in_ok-rest.ensures in
    rw n.2 (item_one _ _ n.0 n.1 (rw n.2 at c.in_ok-first.ensures) n.3)
