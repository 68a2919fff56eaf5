use Rattle.std.proofs.Common.{refl, ap, ◌∙◌}
use Rattle.std.specs.Int.NonZero.{non_zero_u32_get}
use Rattle.mail_stores.specs.Loans.{both_sides}
use Rattle.mail_stores.specs.declared.lent_history.LentHistory.{LentHistory}
use Rattle.mail_stores.proofs.LoanLemmas.{honest_before, lends_as, lends_one}
use Rattle.mail_stores.proofs.PlacedLemmas.{shown_as}
use Rattle.mail_stores.proofs.guarded_work.GuardedSides.work.Goals as goal

-- the outside was honest where what it stood on was, as it is given back
pub returns : goal.returns
returns g c =
    let of = c.of-sides.ensures in
    let noted = ap (λ (lent : LentHistory). lent.loans) c.give_back.ensures.lent ∙ c.lend-answer.ensures.noted in
    record {
      lent = lends_one g.F.Folder.honest g.S.Shelf.honest (both_sides g.L.Link.visitors g.F.Folder.visitors) c.args.loans.now c.give_back.new.self _ _
          c.of-sides.result.far c.of-sides.result.folder c.of-sides.result.shelf
          noted
          c.give_back.ensures.far c.give_back.ensures.folders c.give_back.ensures.shelves
          (λ far folder shelf. c.lend-answer.ensures.did
          (honest_before _ c.into_parts-both.result.0 c.of-sides.result c.into_parts-both.ensures.outside of.far of.folder of.was_honest far folder shelf));
      noted = lends_as _ _ _ _ _ noted refl (shown_as g.F.Folder.seen g.S.Shelf.seen (non_zero_u32_get c.args.fresh) c.args.keywords c.args.self.sides _ c.requires.map (rw c.new-outside.ensures c.together-both.ensures.seen));
    }
