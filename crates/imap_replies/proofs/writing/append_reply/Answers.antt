use Rattle.imap_replies.proofs.writing.append_reply.Goals as goal

pub returns-in-Other-clause-ok : goal.returns-in-Other-clause-ok
returns-in-Other-clause-ok c = rw c.in-Other.is c.append_other.ensures.ok

pub returns-in-OtherNumbered-clause-ok : goal.returns-in-OtherNumbered-clause-ok
returns-in-OtherNumbered-clause-ok c = rw c.in-OtherNumbered.is c.append_event.ensures.ok
