use Rattle.mail_stores.proofs.ListedLemmas.{found_more}
use Rattle.mail_stores.proofs.as_stores.MailStoresBoxLists.near_boxes.Goals as goal

-- one near store more was listed
pub invariant_of-self : goal.invariant_of-self
invariant_of-self g c =
    let kept = c.args.self.now in
    record {
      listed = rw c.note.ensures kept.listed;
      found = rw c.in-Ok.ensures.reach (found_more kept.open.reach.home c.args.store.now c.in-Ok.names.items c.in-Ok.looks kept.past.asked.asked c.note.new.history.asked kept.past.found.items c.and-self.result.items
          c.note.ensures c.and-self.ensures c.in-Ok.ensures.found kept.found);
      placed = rw c.in-Ok.ensures.reach kept.placed;
    }
