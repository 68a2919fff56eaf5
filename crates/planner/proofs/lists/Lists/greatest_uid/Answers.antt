use Rattle.std.proofs.Common.{◌-◌, ◌<◌, ◌∙◌, length, List, ap, arith, rules, subst, sym}
use Rattle.mailcore.specs.declared.listing.Item.{Item}
use Rattle.mailcore.specs.Listed.{IsRising}
use Rattle.rules.specs.Outcome.{greatest}
use Rattle.planner.specs.declared.met.Met.{Met}
use Rattle.planner.proofs.Facts.{greatest_met}
use Rattle.planner.proofs.lists.Lists.greatest_uid.Goals as goal

pub returns-else-is_empty-clause-greatest : goal.returns-else-is_empty-clause-greatest
returns-else-is_empty-clause-greatest c =
    let ms = c.met-met.result.now in
    let some : 0 < length ms = search rules in
    c.get.ensures.number ∙ ap (λ (m : Met). m.item.uid) (sym c.index-met-met.is)
    ∙ greatest_met ms c.index-met-met.result (length ms - 1) (subst (λ (x : List Item). IsRising x) (sym c.met-met.ensures.items) c.met-met.ensures.rising) (omega arith) c.index-met-met.is
    ∙ ap greatest c.met-met.ensures.items
