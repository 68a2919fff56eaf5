use Rattle.mail_stores.proofs.PlacedLemmas.{stood_more}
use Rattle.mail_stores.proofs.mail_stores.MailStores.work_locked.Goals as goal

-- the mailbox stood at its place
pub invariant_of-self : goal.invariant_of-self
invariant_of-self g c = record {
  listed = c.args.self.now.listed;
  found = rw (c.keep_far.ensures.reach, c.note_end.ensures.reach) c.args.self.now.found;
  placed = rw (c.keep_far.ensures.reach, c.note_end.ensures.reach) (stood_more _ _ _ _ _ _ _ _ _ c.work-sides.ensures.noted c.and-self.ensures c.requires.placed c.args.self.now.placed);
}
