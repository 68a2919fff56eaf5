use Rattle.mail_stores.proofs.ListedLemmas.{listed_more}
use Rattle.mail_stores.proofs.as_stores.MailStoresBoxLists.far_boxes.Goals as goal

-- one far store more was listed
pub invariant_of-self : goal.invariant_of-self
invariant_of-self g c =
    let kept = c.args.self.now in
    record {
      listed = listed_more _ c.args.store.now c.in-Ok.names.items c.in-Ok.over kept.past.asked.asked c.note.new.history.asked kept.past.listed.items c.and-self.result.items
          c.note.ensures c.and-self.ensures c.in-Ok.ensures.listed kept.listed;
      found = rw (c.note.ensures, c.in-Ok.ensures.reach) kept.found;
      placed = rw c.in-Ok.ensures.reach kept.placed;
    }
