use Rattle.mail_stores.proofs.mail_stores.MailStores.new.Goals as goal

-- nothing was listed, and no mailbox lent
pub invariant_of-result : goal.invariant_of-result
invariant_of-result g c = record {
  listed = rw (c.new-3.ensures.asked, c.new-3.ensures.listed) (∣ tt ∣₁);
  found = rw (c.new-3.ensures.asked, c.new-3.ensures.found) (∣ tt ∣₁);
  placed = rw (c.new-3.ensures.lent, c.new-3.ensures.as_lent) tt;
}
